-- Marks after one more move: its bit is added where it reads or writes, and all marks so far are below that bit.
use Rattle.std.specs.Prelude.{if◌then◌else◌}
use Rattle.std.proofs.Common.{◌≡◌, ℕ, zero, suc, ◌+◌, ◌^◌, ◌<◌, Bool, true, false, ◌||◌, List, [], ◌∷◌, ◌++◌, length, get_or, replicate, sym, refl, ap, ◌∙◌, zero-add, arith}
use mathlib.Core.Logic.{dite}
use native.Mathlib.Decide.{dec_lt}
use lib.Bits.{bit_or, or_lt}
use lib.Pow.{pow-lt, suc_ones}
use Rattle.text.specs.Words.{has, table_from, table}
use Rattle.text.proofs.Words.{length_table_from, getD_table, getD_table_past}
use Rattle.engine.specs.Move.{Fired, writes}
use Rattle.engine_release.proofs.ByPlace.{each_is}
use Rattle.order.specs.Sets.{bit, with_move}
use Rattle.order.specs.Run.{moves_that, reads_at, writes_at, readers, writers}
use Rattle.order.proofs.Sets.{bit_of_or}
use Rattle.order.proofs.Masks.{bit_ext}
use Rattle.engine_term.specs.Marks.{mark, marked_where}

-- ---- one location

or_turn : (a b c : Bool) → ((a || b) || c) ≡ ((a || c) || b)
or_turn true b c = refl
or_turn false true true = refl
or_turn false true false = refl
or_turn false false true = refl
or_turn false false false = refl

or_swap : (a b c : ℕ) → bit_or (bit_or a b) c ≡ bit_or (bit_or a c) b
or_swap a b c = bit_ext (bit_or (bit_or a b) c) (bit_or (bit_or a c) b)
    (λ i. rw (bit_of_or (bit_or a b) c i, bit_of_or a b i, bit_of_or (bit_or a c) b i, bit_of_or a c i) (or_turn (bit a i) (bit b i) (bit c i)))

module _ (t : Fired → Bool) where
  -- the mark of a location after one more move, the list beginning with move i
  moves_more : (i : ℕ) (fs : List Fired) (f : Fired) → moves_that t i (fs ++ (f ∷ [])) ≡ mark (2 ^ (i + length fs)) (t f) (moves_that t i fs)
  unfolding moves_that
  moves_more i [] f = let e : i + 0 ≡ i = omega arith in rw e (go (t f))
    where
      go : (b : Bool) → (if b then with_move 0 i else 0) ≡ mark (2 ^ i) b 0
      go true = refl
      go false = refl
  moves_more i (e ∷ fs) f =
      let z : i + suc (length fs) ≡ suc i + length fs = omega arith in
      rw (z, moves_more (suc i) fs f) (go (t e) (t f) (moves_that t (suc i) fs) (2 ^ (suc i + length fs)))
    where
      go : (a b : Bool) (r x : ℕ) → (if a then with_move (mark x b r) i else mark x b r) ≡ mark x b (if a then with_move r i else r)
      go true true r x = or_swap r x (2 ^ i)
      go true false r x = refl
      go false true r x = refl
      go false false r x = refl

  moves_below : (i : ℕ) (fs : List Fired) → moves_that t i fs < 2 ^ (i + length fs)
  unfolding moves_that
  moves_below i [] = omega (arith, suc_ones (i + 0))
  moves_below i (f ∷ fs) =
      let z : i + suc (length fs) ≡ suc i + length fs = omega arith in
      rw z (go (t f) (moves_that t (suc i) fs) (moves_below (suc i) fs))
    where
      go : (b : Bool) (r : ℕ) → r < 2 ^ (suc i + length fs) → (if b then with_move r i else r) < 2 ^ (suc i + length fs)
      go true r h = or_lt (suc i + length fs) r (2 ^ i) h (pow-lt (omega arith))
      go false r h = h

-- ---- all locations

module _ (t : ℕ → Fired → Bool) (n : ℕ) where
  abbrev marks : List Fired → List ℕ
  marks fs = table (λ l. moves_that (t l) 0 fs) n

  marks_more : (fs : List Fired) (f : Fired) → marks (fs ++ (f ∷ [])) ≡ marked_where (2 ^ length fs) (λ l. t l f) (marks fs)
  marks_more fs f =
      let long = length_table_from (λ l. moves_that (t l) 0 fs) 0 n in
      each_is (λ l m. mark (2 ^ length fs) (t l f) m) (marks fs) (marks (fs ++ (f ∷ []))) (length_table_from (λ l. moves_that (t l) 0 (fs ++ (f ∷ []))) 0 n ∙ sym long)
      (λ l h.
      let k : l < n = omega (arith, long) in
      getD_table (λ l. moves_that (t l) 0 (fs ++ (f ∷ []))) n l 0 k ∙ moves_more (t l) 0 fs f
      ∙ ap (λ (x : ℕ). mark (2 ^ x) (t l f) (moves_that (t l) 0 fs)) (zero-add (length fs))
      ∙ ap (mark (2 ^ length fs) (t l f)) (sym (getD_table (λ l. moves_that (t l) 0 fs) n l 0 k)))

  marks_below : (fs : List Fired) (l : ℕ) → get_or (marks fs) l 0 < 2 ^ length fs
  marks_below fs l = dite (dec_lt l n)
      (λ h. rw (getD_table (λ l. moves_that (t l) 0 fs) n l 0 h) (rw (zero-add (length fs)) at (moves_below (t l) 0 fs)))
      (λ (h : ¬ (l < n)). rw (getD_table_past (λ l. moves_that (t l) 0 fs) n l 0 (omega arith)) (omega (arith, suc_ones (length fs))))

none_from : (i n : ℕ) → table_from {A = ℕ} (λ l. 0) i n ≡ replicate n 0
unfolding table_from
none_from i zero = refl
none_from i (suc n) = ap (◌∷◌ 0) (none_from (suc i) n)

-- ---- readers and writers

module _ (n : ℕ) (fs : List Fired) where
  pub readers_more : (f : Fired) → readers n (fs ++ (f ∷ [])) ≡ marked_where (2 ^ length fs) (has f.reads) (readers n fs)
  unfolding readers
  readers_more f = marks_more reads_at n fs f

  pub writers_more : (f : Fired) → writers n (fs ++ (f ∷ [])) ≡ marked_where (2 ^ length fs) (writes f.updates) (writers n fs)
  unfolding writers
  writers_more f = marks_more writes_at n fs f

  pub readers_below : (l : ℕ) → get_or (readers n fs) l 0 < 2 ^ length fs
  unfolding readers
  readers_below l = marks_below reads_at n fs l

  pub writers_below : (l : ℕ) → get_or (writers n fs) l 0 < 2 ^ length fs
  unfolding writers
  writers_below l = marks_below writes_at n fs l

  pub length_readers : length (readers n fs) ≡ n
  unfolding readers
  length_readers = length_table_from (λ l. moves_that (reads_at l) 0 fs) 0 n

  pub length_writers : length (writers n fs) ≡ n
  unfolding writers
  length_writers = length_table_from (λ l. moves_that (writes_at l) 0 fs) 0 n

pub readers_none : (n : ℕ) → readers n [] ≡ replicate n 0
unfolding readers moves_that
readers_none n = none_from 0 n

pub writers_none : (n : ℕ) → writers n [] ≡ replicate n 0
unfolding writers moves_that
writers_none n = none_from 0 n
