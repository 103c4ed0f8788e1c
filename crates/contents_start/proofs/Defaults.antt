-- Functions filled one after the other leave every location at its default.
use Rattle.std.specs.Prelude.{if◌then◌else◌}
use mathlib.Core.Path.{◌≡◌, refl, sym, ap, ◌∙◌}
use mathlib.Core.Bool.{Bool, true, false}
use mathlib.Core.List.{List, ◌++◌}
use Prim.Native.Nat.{ℕ, ◌+◌, ◌-◌, ◌≤◌, ◌<◌, min}
use native.Mathlib.Omega.{arith}
use lib.Dec.{ltb}
use lib.ListN.{length, get_or, take, drop, replicate, length-append, length-take, length-drop, length-replicate, get_or-replicate, get_or-append}
use lib.Seq.{length-take-le, take_all, get_or-take, get_or-drop, get_or-append-add, ext_get_or}
use borrow.Author.Tests.{ltb-true, ltb-false}
use Rattle.text.specs.Words.{table}
use Rattle.text.proofs.Words.{length_table_from, getD_table}
use Rattle.book.specs.Book.{Program, L, size, default, default_at, function_at, Place, defaults}
use Rattle.book_parts.specs.declared.Owner.{Owner}
use Rattle.book_parts.specs.Part.{between, part_from}
use Rattle.book_parts.proofs.Parts.{between_before, between_inside, between_after}
use Rattle.book_parts.proofs.Places.{From, from_at, from_next, from_end}
use Rattle.contents_start.specs.Written.{function_filled, defaults_in}

-- ---- a part of the table filled with v

module _ (first end v : ℕ) (c : List ℕ) where
  filled_long : length (function_filled first end v c) ≡ length c
  filled_long = length_table_from (λ l. if between first end l then v else get_or c l 0) 0 (length c)

  filled_at : (k : ℕ) → k < length c → get_or (function_filled first end v c) k 0 ≡ (if between first end k then v else get_or c k 0)
  filled_at k h = getD_table (λ l. if between first end l then v else get_or c l 0) (length c) k 0 h

  filled_before : (k : ℕ) → k < length c → k < first → get_or (function_filled first end v c) k 0 ≡ get_or c k 0
  filled_before k h l = filled_at k h ∙ rw (between_before first end k l)

  filled_inside : (k : ℕ) → k < length c → first ≤ k → k < end → get_or (function_filled first end v c) k 0 ≡ v
  filled_inside k h l m = filled_at k h ∙ rw (between_inside first end k l m)

  filled_after : (k : ℕ) → k < length c → end ≤ k → get_or (function_filled first end v c) k 0 ≡ get_or c k 0
  filled_after k h l = filled_at k h ∙ rw (between_after first end k l)

-- the places from a to b replaced by as many v
module _ (a b v : ℕ) (c : List ℕ) (ordered : a ≤ b) (fits : b ≤ length c) where
  abbrev tail : List ℕ
  tail = drop (b - a) (drop a c)

  abbrev run : List ℕ
  run = take a c ++ (replicate (b - a) v ++ tail)

  head_long : length (take a c) ≡ a
  head_long = length-take-le a c (omega arith)

  run_long : length run ≡ length c
  run_long =
      simp (length-append, length-replicate, length-drop, head_long) (omega arith)

  run_before : (k : ℕ) → k < a → get_or run k 0 ≡ get_or c k 0
  run_before k h =
      get_or-append (take a c) (replicate (b - a) v ++ tail) 0 k (omega (arith, head_long)) ∙ get_or-take a c k 0 h

  run_from : (k : ℕ) → a ≤ k → get_or run k 0 ≡ get_or (replicate (b - a) v ++ tail) (k - a) 0
  run_from k h =
      let e : k ≡ length (take a c) + (k - a) = omega (arith, head_long) in
      ap (λ (n : ℕ). get_or run n 0) e ∙ get_or-append-add (take a c) (replicate (b - a) v ++ tail) (k - a) 0

  run_inside : (k : ℕ) → a ≤ k → k < b → get_or run k 0 ≡ v
  run_inside k h l =
      run_from k h
      ∙ get_or-append (replicate (b - a) v) tail 0 (k - a) (omega (arith, length-replicate {A = ℕ} (b - a) v))
      ∙ get_or-replicate (b - a) (k - a) v 0 (omega arith)

  run_after : (k : ℕ) → b ≤ k → get_or run k 0 ≡ get_or c k 0
  run_after k h =
      let e : k - a ≡ length (replicate {A = ℕ} (b - a) v) + (k - b) = omega (arith, length-replicate {A = ℕ} (b - a) v) in
      let f : a + ((b - a) + (k - b)) ≡ k = omega arith in
      run_from k (omega arith)
      ∙ ap (λ (n : ℕ). get_or (replicate (b - a) v ++ tail) n 0) e
      ∙ get_or-append-add (replicate (b - a) v) tail (k - b) 0
      ∙ get_or-drop (b - a) (drop a c) (k - b) 0
      ∙ get_or-drop a c ((b - a) + (k - b)) 0
      ∙ ap (λ (n : ℕ). get_or c n 0) f

-- the part is lent, as far as the table goes, and comes back filled
pub run_is :
    (first end v a b : ℕ) (c ys : List ℕ) → first ≤ end → a ≡ min first (length c) → b ≡ min end (length c) → ys ≡ replicate (length (take (b - a) (drop a c))) v →
    take a c ++ (ys ++ drop (b - a) (drop a c)) ≡ function_filled first end v c
run_is first end v a b c ys o ea eb e =
    let ordered : a ≤ b = omega arith in
    let fits : b ≤ length c = omega arith in
    let long : length (take (b - a) (drop a c)) ≡ b - a =
    length-take-le (b - a) (drop a c) (rw (length-drop a c) (omega arith)) in
    ap (λ (s : List ℕ). take a c ++ (s ++ drop (b - a) (drop a c))) (e ∙ ap (λ (n : ℕ). replicate n v) long)
    ∙ ext_get_or 0 (run a b v c ordered fits) (function_filled first end v c) (run_long a b v c ordered fits ∙ sym (filled_long first end v c))
    (λ k h. same ordered fits k (omega (arith, run_long a b v c ordered fits)) (ltb k first) refl (ltb k end) refl)
  where
    same : (ordered : a ≤ b) (fits : b ≤ length c) (k : ℕ) → k < length c → (s : Bool) → ltb k first ≡ s → (t : Bool) → ltb k end ≡ t
        → get_or (run a b v c ordered fits) k 0 ≡ get_or (function_filled first end v c) k 0
    same ordered fits k h true s t u =
        let l = ltb-true k first s in
        run_before a b v c ordered fits k (omega arith) ∙ sym (filled_before first end v c k h l)
    same ordered fits k h false s true u =
        let l = ltb-false k first s in
        let m = ltb-true k end u in
        run_inside a b v c ordered fits k (omega arith) (omega arith) ∙ sym (filled_inside first end v c k h l m)
    same ordered fits k h false s false u =
        let m = ltb-false k end u in
        run_after a b v c ordered fits k (omega arith) ∙ sym (filled_after first end v c k h m)

-- ---- function after function

module _ (B : Program) (c₀ : List ℕ) where
  -- the functions before g are filled; their locations are those below `first`
  pub record Filled (first g : ℕ) (c : List ℕ) : Type 0 where
    pub same : length c ≡ length c₀
    pub done : (k : ℕ) → k < length c₀ → k < first → get_or c k 0 ≡ default_at B k
    pub left : (k : ℕ) → k < length c₀ → first ≤ k → get_or c k 0 ≡ get_or c₀ k 0
    pub at : From B g first

  module _ (first g : ℕ) (c d : List ℕ) (p : Filled first g c) (more : g < length B.functions) where
    abbrev end : ℕ
    end = first + size B.E (function_at B g).arity

    here : (k : ℕ) → first ≤ k → k < end → default (function_at B g) ≡ default_at B k
    here k h l = ap (λ (x : Place). default x.function) (sym (from_at B g first p.at more k h (omega arith)))

    filled_to : d ≡ function_filled first end (default (function_at B g)) c → Filled end (g + 1) d
    filled_to e =
        let w : ℕ = default (function_at B g) in
        record {
          same = ap length e ∙ filled_long first end w c ∙ p.same;
          done = λ k h l. ap (λ (s : List ℕ). get_or s k 0) e ∙ early k (omega (arith, p.same)) l (ltb k first) refl;
          left = λ k h l. ap (λ (s : List ℕ). get_or s k 0) e ∙ filled_after first end w c k (omega (arith, p.same)) l ∙ p.left k h (omega arith);
          at = from_next B g first p.at more;
        }
      where
        early : (k : ℕ) → k < length c → k < end → (b : Bool) → ltb k first ≡ b → get_or (function_filled first end (default (function_at B g)) c) k 0 ≡ default_at B k
        early k h l true b =
            let m : k < first = ltb-true k first b in
            filled_before first end (default (function_at B g)) c k h m ∙ p.done k (omega (arith, p.same)) m
        early k h l false b =
            let m : first ≤ k = ltb-false k first b in
            filled_inside first end (default (function_at B g)) c k h m l ∙ here k m l

    pub filled_function : (own : Owner) → own ≡ part_from B g first → d ≡ function_filled own.first own.end (default own.function) c → Filled own.end (g + 1) d
    filled_function own is e = rw is (filled_to (rw is at e))

  pub filled_all : (first g : ℕ) (c : List ℕ) → Filled first g c → length B.functions ≤ g → c ≡ defaults_in B c₀
  unfolding defaults
  filled_all first g c p all =
      ext_get_or 0 c (take (length c₀) (table (default_at B) (L B)) ++ drop (L B) c₀) even (λ k h. place_of k (omega (arith, p.same)) (ltb k (L B)) refl)
    where
      front : length (take (length c₀) (table (default_at B) (L B))) ≡ min (length c₀) (L B)
      front = length-take (length c₀) (table (default_at B) (L B)) ∙ ap (min (length c₀)) (length_table_from (default_at B) 0 (L B))

      last : first ≡ L B
      last = from_end B g first p.at all

      even : length c ≡ length (take (length c₀) (table (default_at B) (L B)) ++ drop (L B) c₀)
      even = p.same ∙ sym (length-append (take (length c₀) (table (default_at B) (L B))) (drop (L B) c₀) ∙ rw (front, length-drop (L B) c₀) (omega arith))

      place_of : (k : ℕ) → k < length c₀ → (b : Bool) → ltb k (L B) ≡ b → get_or c k 0 ≡ get_or (take (length c₀) (table (default_at B) (L B)) ++ drop (L B) c₀) k 0
      place_of k h true b =
          let l : k < L B = ltb-true k (L B) b in
          p.done k h (omega (arith, last))
          ∙ sym
          (get_or-append (take (length c₀) (table (default_at B) (L B))) (drop (L B) c₀) 0 k (omega (arith, front))
          ∙ get_or-take (length c₀) (table (default_at B) (L B)) k 0 h
          ∙ getD_table (default_at B) (L B) k 0 l)
      place_of k h false b =
          let l : L B ≤ k = ltb-false k (L B) b in
          let e : k ≡ length (take (length c₀) (table (default_at B) (L B))) + (k - L B) = omega (arith, front) in
          let f : L B + (k - L B) ≡ k = omega arith in
          p.left k h (omega (arith, last))
          ∙ sym
          (ap (λ (n : ℕ). get_or (take (length c₀) (table (default_at B) (L B)) ++ drop (L B) c₀) n 0) e
          ∙ get_or-append-add (take (length c₀) (table (default_at B) (L B))) (drop (L B) c₀) (k - L B) 0
          ∙ get_or-drop (L B) c₀ (k - L B) 0
          ∙ ap (λ (n : ℕ). get_or c₀ n 0) f)

-- a table that is long enough holds every default
pub defaults_long : (B : Program) (c : List ℕ) → L B ≤ length c → defaults_in B c ≡ defaults B ++ drop (L B) c
unfolding defaults
defaults_long B c h =
    ap (λ (s : List ℕ). s ++ drop (L B) c) (take_all (length c) (table (default_at B) (L B)) (omega (arith, length_table_from (default_at B) 0 (L B))))
