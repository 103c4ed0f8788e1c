-- Lines put one after the other: what a loop that prints has yet to print, how many lines there are at most, and the whole text.
use Rattle.std.specs.Prelude.{if◌then◌else◌}
use mathlib.Core.Path.{◌≡◌, refl, sym, ap, ◌∙◌}
use mathlib.Core.Bool.{Bool, true, false, ◌||◌}
use mathlib.Core.List.{List, [], ◌∷◌, ◌++◌, append_assoc, append-nil}
use Prim.Native.Nat.{ℕ, zero, suc, ◌+◌, ◌-◌, ◌*◌, ◌/◌, ◌%◌, ◌≤◌, ◌<◌}
use native.Mathlib.Nat.{div-one, mod-one}
use native.Mathlib.Numerals.{add-one}
use native.Mathlib.Omega.{arith}
use lib.Dec.{eqb}
use lib.ListN.{length, get_or, drop, length-append}
use lib.Seq.{drop-cons}
use borrow.Author.Tests.{eqb-true, eqb-false, eq-eqb, ne_eqb}
use Rattle.text.specs.declared.Line.{Line}
use Rattle.text.specs.Words.{Answer}
use Rattle.text.specs.Text.{written}
use Rattle.book.specs.declared.Function.{Function}
use Rattle.book.specs.Book.{Program, L, total, size, stride, default, arguments, function_at, no_function}
use Rattle.book.specs.Sum.{Strided}
use Rattle.book.specs.Image.{program_in}
use Rattle.book.proofs.Image.{elements_most, size_most}
use Rattle.order.specs.Run.{LogAnswer}
use Rattle.report.specs.Report.{contents_line, part_lines, lines_from, contents_lines, lines_written, first_line, print_answer}
use Rattle.text_write.specs.Bytes.{put_bytes}
use Rattle.text_write.proofs.Bytes.{put_none, put_then, put_apart, put_front, length_written}
use Rattle.report_print.specs.Print.{line_for, location_lines, lines_printed, answer_printed, most_output, Prints}

-- ---- written lines

written_append : (ls ms : List Line) → lines_written (ls ++ ms) ≡ lines_written ls ++ lines_written ms
unfolding lines_written
written_append [] ms = refl
written_append (l ∷ ls) ms = rw (written_append ls ms) (sym (append_assoc (written l) (lines_written ls) (lines_written ms)))

length_all_written : (ls : List Line) → length (lines_written ls) ≡ 25 * length ls
unfolding lines_written
length_all_written [] = refl
length_all_written (l ∷ ls) = length-append (written l) (lines_written ls) ∙ omega (arith, length_written l, length_all_written ls)

written_one : (l : Line) → lines_written (l ∷ []) ≡ written l
unfolding lines_written
written_one l = append-nil (written l)

put_none_left : (n : ℕ) (m : List ℕ) → lines_printed n [] m ≡ m
unfolding lines_printed lines_written
put_none_left n m = put_none (25 + 25 * n) m

put_more : (n : ℕ) (ls ms : List Line) (m : List ℕ) → lines_printed n (ls ++ ms) m ≡ lines_printed (n + length ls) ms (lines_printed n ls m)
unfolding lines_printed
put_more n ls ms m =
    rw (written_append ls ms)
    (put_then (25 + 25 * n) (25 + 25 * (n + length ls)) (lines_written ls) (lines_written ms) m (omega (arith, length_all_written ls)))

-- ---- what a loop that prints has left to do gives the whole

pub record Left (n₀ : ℕ) (all : List Line) (m₀ : List ℕ) (n : ℕ) (left : List Line) (m : List ℕ) : Type 0 where
  pub counted : n + length left ≡ n₀ + length all
  pub same : lines_printed n left m ≡ lines_printed n₀ all m₀

module _ (n₀ : ℕ) (all : List Line) (m₀ : List ℕ) where
  pub left_all : (left : List Line) → left ≡ all → Left n₀ all m₀ n₀ left m₀
  left_all left e = record { counted = rw e; same = rw e }

  pub left_step :
      (n n' : ℕ) (left one rest : List Line) (m m' : List ℕ) → left ≡ one ++ rest → Left n₀ all m₀ n left m → n' ≡ n + length one →
      m' ≡ lines_printed n one m → Left n₀ all m₀ n' rest m'
  left_step n n' left one rest m m' e r p q =
      record {
        counted = let c : length left ≡ length one + length rest = ap length e ∙ length-append one rest in omega (arith, r.counted);
        same = rw (q, p, ← put_more n one rest m, ← e) r.same;
      }

  pub left_none : (n : ℕ) (left : List Line) (m : List ℕ) → left ≡ [] → Left n₀ all m₀ n left m → (n ≡ n₀ + length all) × (m ≡ lines_printed n₀ all m₀)
  left_none n left m e r =
      let c : length left ≡ 0 = ap length e in
      (omega (arith, r.counted), sym (rw e (put_none_left n m)) ∙ r.same)

-- ---- one location

-- the arguments of a function's location as its line has them: one that the function has not is 0
stride_gives : (E arity i : ℕ) → i < size E arity → (get_or (arguments E arity i) 0 0 ≡ i / stride E arity) × (get_or (arguments E arity i) 1 0 ≡ i % stride E arity)
stride_gives E arity i h = go (eqb arity 0) (eqb arity 1) h
  where
    go : (a b : Bool) → i < (if a then 1 else if b then E else E * E)
        → (get_or (if a then [] else if b then i ∷ [] else (i / E) ∷ (i % E) ∷ []) 0 0 ≡ i / (if a || b then 1 else E))
        × (get_or (if a then [] else if b then i ∷ [] else (i / E) ∷ (i % E) ∷ []) 1 0 ≡ i % (if a || b then 1 else E))
    go true b h = (rw (div-one i) (omega arith), sym (mod-one i))
    go false true h = (sym (div-one i), sym (mod-one i))
    go false false h = (refl, refl)

-- the line of a location of function k is that of the definition
line_same : (B : Program) → Strided B → (k i v : ℕ) → i < size B.E (function_at B k).arity → line_for (function_at B k) k i v ≡ contents_line B k i v
line_same B strided k i v h =
    let e = stride_gives B.E (function_at B k).arity i h in
    rw (strided k, e.0, e.1)

module _ (f : Function) (k i v : ℕ) where
  pub shown_none : v ≡ default f → location_lines f k i v ≡ []
  unfolding location_lines
  shown_none e = rw (eq-eqb v (default f) e)

  pub shown_one : (v ≡ default f → ⊥) → location_lines f k i v ≡ line_for f k i v ∷ []
  unfolding location_lines
  shown_one e = rw (ne_eqb v (default f) e)

  pub shown_most : length (location_lines f k i v) ≤ 1
  unfolding location_lines
  shown_most = go (eqb v (default f))
    where
      go : (b : Bool) → length (if b then [] else line_for f k i v ∷ []) ≤ 1
      go true = omega arith
      go false = omega arith

put_shown : (n : ℕ) (l : Line) (m : List ℕ) → put_bytes (25 + 25 * n) (written l) m ≡ lines_printed n (l ∷ []) m
unfolding lines_printed
put_shown n l m = rw (written_one l)

-- if a location has no line, nothing is put
pub put_nothing : (n : ℕ) (ls : List Line) (m : List ℕ) → ls ≡ [] → (n ≡ n + length ls) × (m ≡ lines_printed n ls m)
put_nothing n ls m e = (rw e (omega arith), rw e (sym (put_none_left n m)))

-- if a location has a line, it is put
pub put_single : (n : ℕ) (ls : List Line) (l : Line) (m : List ℕ) → ls ≡ l ∷ [] → (n + 1 ≡ n + length ls) × (put_bytes (25 + 25 * n) (written l) m ≡ lines_printed n ls m)
put_single n ls l m e = (rw e (omega arith), rw e (put_shown n l m))

-- ---- the loops

-- an image's function has at most 100,000,000 locations
pub size_few : (m : List ℕ) (e arity n : ℕ) → e ≡ (program_in m).E → n ≡ size e arity → n ≤ 100000000
size_few m e arity n p q = rw (q, p) (size_most (program_in m).E arity (elements_most m))

pub size_same : (e E : ℕ) (f g : Function) (n : ℕ) → n ≡ size e f.arity → e ≡ E → f ≡ g → n ≡ size E g.arity
size_same e E f g n p q r = rw (← q, ← r) p

module _ (B : Program) (c : List ℕ) where
  part_step :
      Strided B → (k n i : ℕ) → i < n → n ≡ size B.E (function_at B k).arity →
      part_lines B c k i (n - i) ≡ location_lines (function_at B k) k i (get_or c ((function_at B k).first + i) 0) ++ part_lines B c k (i + 1) (n - (i + 1))
  unfolding part_lines location_lines
  part_step strided k n i h s =
      let e : n - i ≡ suc (n - suc i) = omega arith in
      let v = get_or c ((function_at B k).first + i) 0 in
      rw (add-one i, e, line_same B strided k i v (omega (arith, h, s))) (go (eqb v (default (function_at B k))) (contents_line B k i v) (part_lines B c k (suc i) (n - suc i)))
    where
      go : (b : Bool) (l : Line) (r : List Line) → (if b then r else l ∷ r) ≡ (if b then [] else l ∷ []) ++ r
      go true l r = refl
      go false l r = refl

  -- the lines from location i on, by what the code holds
  pub part_next :
      Strided B → (k n i : ℕ) (f : Function) (v : ℕ) → i < n → n ≡ size B.E (function_at B k).arity → f ≡ function_at B k → v ≡ get_or c (f.first + i) 0 →
      part_lines B c k i (n - i) ≡ location_lines f k i v ++ part_lines B c k (i + 1) (n - (i + 1))
  part_next strided k n i f v h s q r = rw (r, q) (part_step strided k n i h s)

  pub part_end : (k n i : ℕ) → n ≤ i → part_lines B c k i (n - i) ≡ []
  unfolding part_lines
  part_end k n i h = let e : n - i ≡ 0 = omega arith in rw e

  pub lines_step :
      (n k : ℕ) → k < n →
      lines_from B c k (n - k) ≡ part_lines B c k 0 (size B.E (function_at B k).arity) ++ lines_from B c (k + 1) (n - (k + 1))
  unfolding lines_from
  lines_step n k h = let e : n - k ≡ suc (n - suc k) = omega arith in rw (add-one k, e)

  pub lines_end : (n k : ℕ) → n ≤ k → lines_from B c k (n - k) ≡ []
  unfolding lines_from
  lines_end n k h = let e : n - k ≡ 0 = omega arith in rw e

  -- ---- no more lines than locations

  part_most : (k i n : ℕ) → length (part_lines B c k i n) ≤ n
  unfolding part_lines
  part_most k i zero = omega arith
  part_most k i (suc n) = go (eqb (get_or c ((function_at B k).first + i) 0) (default (function_at B k))) (part_most k (suc i) n)
    where
      go :
          (b : Bool) → length (part_lines B c k (suc i) n) ≤ n →
          length (if b then part_lines B c k (suc i) n else contents_line B k i (get_or c ((function_at B k).first + i) 0) ∷ part_lines B c k (suc i) n) ≤ suc n
      go true h = omega arith
      go false h = omega arith

  total_step : (fs : List Function) (k : ℕ) → k < length fs → total B.E (drop k fs) ≡ size B.E (get_or fs k no_function).arity + total B.E (drop (suc k) fs)
  unfolding total
  total_step fs k h = rw (drop-cons fs k no_function h)

  lines_most : (k n : ℕ) → k + n ≡ length B.functions → length (lines_from B c k n) ≤ total B.E (drop k B.functions)
  unfolding lines_from
  lines_most k zero e = omega arith
  lines_most k (suc n) e =
      let p = part_most k 0 (size B.E (function_at B k).arity) in
      let q = lines_most (suc k) n (omega arith) in
      let s = total_step B.functions k (omega arith) in
      let a = length-append (part_lines B c k 0 (size B.E (function_at B k).arity)) (lines_from B c (suc k) n) in
      omega (arith, p, q, s, a)

  pub contents_most : length (contents_lines B c) ≤ L B
  contents_most = lines_most 0 (length B.functions) (omega arith)

-- ---- the whole text

-- marks are not printed
pub print_same : (B : Program) (r : LogAnswer) → print_answer B r ≡ answer_printed B r.answer r.contents
unfolding print_answer
print_same B r = refl

module _ (B : Program) (a : Answer) (c : List ℕ) where
  text_accepted : a.number ≡ 0 → answer_printed B a c ≡ written (first_line a (length (contents_lines B c))) ++ lines_written (contents_lines B c)
  unfolding print_answer
  text_accepted e = rw (eq-eqb a.number 0 e)

  text_refused : (a.number ≡ 0 → ⊥) → answer_printed B a c ≡ written (first_line a 0)
  unfolding print_answer lines_written
  text_refused e = rw (ne_eqb a.number 0 e) (append-nil (written (first_line a 0)))

  length_accepted : a.number ≡ 0 → length (answer_printed B a c) ≡ 25 + 25 * length (contents_lines B c)
  length_accepted e =
      let ls = contents_lines B c in
      ap length (text_accepted e)
      ∙ (length-append (written (first_line a (length ls))) (lines_written ls) ∙ omega (arith, length_written (first_line a (length ls)), length_all_written ls))

  length_refused : (a.number ≡ 0 → ⊥) → length (answer_printed B a c) ≡ 25
  length_refused e = ap length (text_refused e) ∙ length_written (first_line a 0)

  -- the contents' lines put, and then the first line before them, are the whole text
  put_accepted :
      a.number ≡ 0 → (m : List ℕ) →
      put_bytes 0 (written (first_line a (length (contents_lines B c)))) (lines_printed 0 (contents_lines B c) m) ≡ put_bytes 0 (answer_printed B a c) m
  unfolding lines_printed
  put_accepted e m =
      let ls = contents_lines B c in
      let w = written (first_line a (length ls)) in
      let l = length_written (first_line a (length ls)) in
      rw (text_accepted e)
      (put_apart 25 0 (lines_written ls) w m (omega (arith, l)) ∙ sym (put_then 0 25 w (lines_written ls) m (omega (arith, l))))

  put_refused : (a.number ≡ 0 → ⊥) → (m : List ℕ) → put_bytes 0 (written (first_line a 0)) m ≡ put_bytes 0 (answer_printed B a c) m
  put_refused e m = rw (text_refused e)

  text_most : L B ≤ 2048 → length (answer_printed B a c) ≤ most_output
  text_most h = go (eqb a.number 0) refl
    where
      go : (b : Bool) → eqb a.number 0 ≡ b → length (answer_printed B a c) ≤ most_output
      go true e = omega (arith, length_accepted (eqb-true a.number 0 e), contents_most B c)
      go false e = omega (arith, length_refused (eqb-false a.number 0 e))

  -- the text stands whole in front of what was there
  text_fits : (m after : List ℕ) → after ≡ put_bytes 0 (answer_printed B a c) m → L B ≤ 2048 → most_output ≤ length m → after ≡ answer_printed B a c ++ drop (length (answer_printed B a c)) m
  text_fits m after e h l = e ∙ put_front (answer_printed B a c) m (omega (arith, text_most h))

  -- ---- the two ways to print

  pub prints_accepted :
      (m with_lines after : List ℕ) (n : ℕ) → a.number ≡ 0 → n ≡ length (contents_lines B c) → with_lines ≡ lines_printed 0 (contents_lines B c) m →
      after ≡ put_bytes 0 (written (first_line a n)) with_lines → Prints B a c m (25 + 25 * n) after
  prints_accepted m with_lines after n e p q r =
      let put : after ≡ put_bytes 0 (answer_printed B a c) m = rw (r, q, p) (put_accepted e m) in
      record { long = rw p (sym (length_accepted e)); put = put; whole = text_fits m after put }

  pub prints_refused : (m after : List ℕ) → (a.number ≡ 0 → ⊥) → after ≡ put_bytes 0 (written (first_line a 0)) m → Prints B a c m 25 after
  prints_refused m after e r =
      let put : after ≡ put_bytes 0 (answer_printed B a c) m = r ∙ put_refused e m in
      record { long = sym (length_refused e); put = put; whole = text_fits m after put }
