-- A label cleared from function after function: what holds after each, and what was read.
use Rattle.std.specs.Prelude.{if◌then◌else◌}
use mathlib.Core.Path.{◌≡◌, refl, sym, ap, ◌∙◌}
use mathlib.Core.Bool.{Bool, true, false, ◌&&◌}
use mathlib.Core.List.{List, [], ◌++◌}
use Prim.Native.Nat.{ℕ, ◌+◌, ◌-◌, ◌<◌, ◌≤◌, min}
use native.Mathlib.Omega.{arith}
use borrow.Author.Tests.{ltb-true, ltb-false, lt-ltb, le-ltb}
use lib.Dec.{ltb}
use lib.ListN.{length, get_or, take, drop, length-take, length-drop}
use lib.Seq.{get_or-take, get_or-drop}
use Rattle.book.specs.declared.Function.{Function}
use Rattle.book.specs.Book.{Program, default, size, function_at, place, default_at}
use Rattle.book_parts.specs.declared.Owner.{Owner}
use Rattle.book_parts.specs.Part.{between, part_from}
use Rattle.book_parts.proofs.Parts.{between_before, between_inside, between_after}
use Rattle.book_parts.proofs.Places.{From, from_start, from_at, from_next, from_past}
use Rattle.engine.specs.Move.{append_from}
use Rattle.engine_term.specs.Marks.{marked, mark}
use Rattle.engine_instruction.specs.Given.{clears_in, clears_at}
use Rattle.engine_release.specs.Part.{value_cleared_in, part_cleared, part_marked, cleared_reads, reads_in, part_reads}
use Rattle.engine_release.specs.Steps.{function_cleared, function_marked, function_reads, value_cleared, label_cleared, label_marked, label_reads}
use Rattle.engine_instruction.proofs.Laws.{and_none}
use Rattle.engine.proofs.Append.{append_split, append_same, append_past}
use Rattle.engine_term.proofs.Marking.{marked_on}
use Rattle.engine_release.proofs.ByPlace.{Swept, sweep_start, sweep_run, sweep_end, part_back}

cut_length : (a b : ℕ) (c : List ℕ) → b ≤ length c → length (take (b - a) (drop a c)) ≡ b - a
cut_length a b c h = rw (length-take, length-drop) (omega arith)

-- the function's part of the contents is lent, and its part of the marks, each as far as the table goes
module _ (f : Function) (x bit first end : ℕ) (c ms : List ℕ) (ordered : first ≤ end) (a b : ℕ) (a_is : a ≡ min first (length c))
    (b_is : b ≡ min end (length c)) where
  pub run_contents :
      (ys : List ℕ) → ys ≡ part_cleared f x (take (b - a) (drop a c)) →
      take a c ++ (ys ++ drop (b - a) (drop a c)) ≡ function_cleared f x first end c
  run_contents ys q =
      part_back (value_cleared_in f x) (λ (l v : ℕ). if between first end l then value_cleared_in f x (l - first) v else v) a b c ys (omega arith) (omega arith)
      (λ k h v. rw (between_before first end k (omega arith)))
      (λ k h l v.
      let n : first ≡ a = omega arith in
      rw (between_inside first end k (omega arith) (omega arith), n))
      (λ k h l v. rw (between_after first end k (omega arith)))
      q

  abbrev part : List ℕ
  part = take (b - a) (drop a c)

  -- a location of the function is a place of its part
  part_at : (k : ℕ) → first ≤ k → k < end → k < length c → get_or part (k - first) 0 ≡ get_or c k 0
  part_at k h l i = get_or-take (b - a) (drop a c) (k - first) 0 (omega arith) ∙ get_or-drop a c (k - first) 0 ∙ ap (λ (z : ℕ). get_or c z 0) (omega arith)

  seen : (k : ℕ) → first ≤ k → k < end → (v : ℕ) (t : Bool) → ltb k (length c) ≡ t
      → ltb (k - first) (length part) && clears_in f (k - first) (get_or part (k - first) 0) x ≡ t && clears_in f (k - first) (get_or c k 0) x
  seen k h l v true e =
      let i : k < length c = ltb-true k (length c) e in
      let m : k - first < length part = rw (length-take, length-drop) (omega arith) in
      rw (lt-ltb (k - first) (length part) m, part_at k h l i)
  seen k h l v false e =
      let i : length c ≤ k = ltb-false k (length c) e in
      let m : length part ≤ k - first = rw (length-take, length-drop) (omega arith) in
      rw (le-ltb (k - first) (length part) m)

  pub run_marks :
      (p r : ℕ) (ys : List ℕ) → p ≡ min first (length ms) → r ≡ min end (length ms) →
      ys ≡ part_marked bit f x (take (b - a) (drop a c)) (take (r - p) (drop p ms)) →
      take p ms ++ (ys ++ drop (r - p) (drop p ms)) ≡ function_marked bit f x first end c ms
  run_marks p r ys p_is r_is q =
      part_back (λ (i m : ℕ). mark bit (ltb i (length part) && clears_in f i (get_or part i 0) x) m)
      (λ (l m : ℕ). mark bit (between first end l && (ltb l (length c) && clears_in f (l - first) (get_or c l 0) x)) m) p r ms ys (omega arith) (omega arith)
      (λ k h v. rw (between_before first end k (omega arith)))
      (λ k h l v.
      let n : p ≡ first = omega arith in
      rw (between_inside first end k (omega arith) (omega arith), n) (ap (λ (t : Bool). mark bit t v) (sym (seen k (omega arith) (omega arith) v (ltb k (length c)) refl))))
      (λ k h l v. rw (between_after first end k (omega arith)))
      q

  -- the part ends where the contents do; past them nothing of the function is cleared
  pub run_read : (P : ℕ) → part_reads P f x first (take (b - a) (drop a c)) ≡ function_reads P f x first end c
  run_read P =
      let n : length part ≡ b - a = cut_length a b c (omega arith) in
      let m : length part + (end - first - length part) ≡ end - first = omega arith in
      append_same (λ (i : ℕ). reads_in P f x first i (get_or part i 0)) at 0 first (length part) inside
      ∙ sym (append_past at first (length part) (end - first - length part) after)
      ∙ ap (append_from at first) m
    where
      at : ℕ → List ℕ
      at l = if ltb l (length c) && clears_in f (l - first) (get_or c l 0) x then cleared_reads P (default f) l (get_or c l 0) else []

      inside : (k : ℕ) → k < length part → reads_in P f x first (0 + k) (get_or part (0 + k) 0) ≡ at (first + k)
      inside k h =
          let n : length part ≡ b - a = cut_length a b c (omega arith) in
          let i : first + k < length c = omega arith in
          let z : 0 + k ≡ k = omega arith in
          let w : first + k - first ≡ k = omega arith in
          rw (z, lt-ltb (first + k) (length c) i, w, sym (rw w at (part_at (first + k) (omega arith) (omega arith) i)))

      after : (k : ℕ) → k < end - first - length part → at (first + length part + k) ≡ []
      after k h =
          let n : length part ≡ b - a = cut_length a b c (omega arith) in
          rw (le-ltb (first + length part + k) (length c) (omega arith))

module _ (B : Program) (x bit : ℕ) (c₀ ms₀ rs₀ : List ℕ) where
  abbrev clear_value : ℕ → ℕ → ℕ
  clear_value l v = value_cleared B x l v

  abbrev mark_place : ℕ → ℕ → ℕ
  mark_place l m = mark bit (ltb l (length c₀) && clears_at B l (get_or c₀ l 0) x) m

  abbrev read : ℕ → List ℕ
  read l = if ltb l (length c₀) && clears_at B l (get_or c₀ l 0) x then cleared_reads B.P (default_at B l) l (get_or c₀ l 0) else []

  -- the functions before g are cleared; their locations are those below `first`
  pub record Upto (first g : ℕ) (c ms rs : List ℕ) : Type 0 where
    pub contents : Swept clear_value first c₀ c
    pub marks : Swept mark_place first ms₀ ms
    pub reads : rs ≡ marked bit (append_from read 0 first) rs₀
    pub at : From B g first

  pub upto_start : Upto 0 0 c₀ ms₀ rs₀
  unfolding append_from marked
  upto_start = record { contents = sweep_start clear_value c₀; marks = sweep_start mark_place ms₀; reads = refl; at = from_start B }

  module _ (first g : ℕ) (c ms rs : List ℕ) (u : Upto first g c ms rs) (more : g < length B.functions) where
    abbrev end : ℕ
    end = first + size B.E (function_at B g).arity

    -- a location from `first` up to `end` is one of this function
    here : (k : ℕ) → first ≤ k → k < end → place B k ≡ record { function = function_at B g; index = k - first }
    here k h l = from_at B g first u.at more k h (omega arith)

    -- what clearing this function reads
    run_here : function_reads B.P (function_at B g) x first end c ≡ append_from read (0 + first) (end - first)
    run_here =
        append_same (λ (l : ℕ). if ltb l (length c) && clears_in (function_at B g) (l - first) (get_or c l 0) x then cleared_reads B.P (default (function_at B g)) l (get_or c l 0) else [])
        read first (0 + first) (end - first)
        (λ k h.
        let z : 0 + first ≡ first = omega arith in
        let l : first + k < end = omega arith in
        rw (z, here (first + k) (omega arith) l, u.contents.left (first + k) (omega arith), u.contents.same))

    upto_function :
        (c' ms' rs' : List ℕ) → c' ≡ function_cleared (function_at B g) x first end c → ms' ≡ function_marked bit (function_at B g) x first end c ms →
        rs' ≡ marked bit (function_reads B.P (function_at B g) x first end c) rs → Upto end (g + 1) c' ms' rs'
    upto_function c' ms' rs' p q r =
        record {
          contents =
              sweep_run clear_value (λ (l v : ℕ). if between first end l then value_cleared_in (function_at B g) x (l - first) v else v) first end c₀ c c'
              (omega arith) u.contents p
              (λ k h l v. rw (between_before first end k h))
              (λ k h l m. rw (between_inside first end k h l, here k h l))
              (λ k h l v. rw (between_after first end k h));
          marks =
              sweep_run mark_place (λ (l m : ℕ). mark bit (between first end l && (ltb l (length c) && clears_in (function_at B g) (l - first) (get_or c l 0) x)) m) first end ms₀ ms ms'
              (omega arith) u.marks q
              (λ k h l v. rw (between_before first end k h))
              (λ k h l m. rw (between_inside first end k h l, here k h l, u.contents.left k h, u.contents.same))
              (λ k h l v. rw (between_after first end k h));
          reads =
              let n : first + (end - first) ≡ end = omega arith in
              marked_on bit (append_from read 0 first) (append_from read (0 + first) (end - first)) rs₀ rs rs' u.reads (r ∙ ap (λ (s : List ℕ). marked bit s rs) run_here)
              ∙ ap (λ (s : List ℕ). marked bit s rs₀) (sym (append_split read 0 first (end - first)) ∙ ap (append_from read 0) n);
          at = from_next B g first u.at more;
        }

    pub upto_next :
        (own : Owner) (c' ms' rs' : List ℕ) → own ≡ part_from B g first → c' ≡ function_cleared own.function x first own.end c →
        ms' ≡ function_marked bit own.function x first own.end c ms → rs' ≡ marked bit (function_reads B.P own.function x first own.end c) rs →
        Upto own.end (g + 1) c' ms' rs'
    upto_next own c' ms' rs' is p q r = rw is (upto_function c' ms' rs' (rw is at p) (rw is at q) (rw is at r))

  module _ (first g : ℕ) (c ms rs : List ℕ) (u : Upto first g c ms rs) (done : length B.functions ≤ g) where
    -- past the last function's locations nothing is cleared, and past the contents nothing is read
    all_read : append_from read 0 first ≡ label_reads B x c₀
    all_read =
        let n : first + (length c₀ - first) ≡ length c₀ + (first - length c₀) = omega arith in
        sym (append_past read 0 first (length c₀ - first) (λ k h. rw (from_past B g first u.at done (0 + first + k) (omega arith), and_none)))
        ∙ ap (append_from read 0) n
        ∙ append_past read 0 (length c₀) (first - length c₀) (λ k h. rw (le-ltb (0 + length c₀ + k) (length c₀) (omega arith)))
        ∙ append_same read (λ (l : ℕ). if clears_at B l (get_or c₀ l 0) x then cleared_reads B.P (default_at B l) l (get_or c₀ l 0) else []) 0 0 (length c₀)
        (λ k h. rw (lt-ltb (0 + k) (length c₀) (omega arith)))

    pub upto_end : (c ≡ label_cleared B x c₀) × (ms ≡ label_marked bit B x c₀ ms₀) × (rs ≡ marked bit (label_reads B x c₀) rs₀)
    upto_end = (
      sweep_end clear_value first c₀ c u.contents (λ k h l. rw (from_past B g first u.at done k h)),
      sweep_end mark_place first ms₀ ms u.marks (λ k h l. rw (from_past B g first u.at done k h, and_none)),
      u.reads ∙ ap (λ (s : List ℕ). marked bit s rs₀) all_read,
    )
