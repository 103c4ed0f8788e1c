-- Laws of marking a part that is lent.
use mathlib.Core.Path.{◌≡◌, refl, sym, ap, ◌∙◌}
use mathlib.Core.Logic.{dite}
use mathlib.Core.List.{List, [], ◌∷◌, ◌++◌, map}
use Prim.Native.Nat.{ℕ, zero, suc, ◌+◌, ◌-◌, ◌≤◌, ◌<◌, min}
use native.Mathlib.Omega.{arith}
use native.Mathlib.Decide.{dec_lt}
use lib.Bits.{bit_or}
use lib.ListN.{length, get_or, take, drop}
use lib.Seq.{set_out}
use Rattle.text.specs.Words.{table_from}
use Rattle.engine_term.specs.Marks.{mark_one, marked}
use Rattle.engine_term.proofs.Marking.{marked_append, length_marked}

-- the k locations from a on
abbrev pub run : ℕ → ℕ → List ℕ
run a k = table_from (λ l. l) a k

run_append : (a j i : ℕ) → run a (j + i) ≡ run a j ++ run (a + j) i
unfolding table_from
run_append a zero i = let e : zero + i ≡ i = omega arith in let f : a + zero ≡ a = omega arith in rw (e, f)
run_append a (suc j) i =
    let e : suc j + i ≡ suc (j + i) = omega arith in
    let f : a + suc j ≡ suc a + j = omega arith in
    rw (e, f) (ap (λ (s : List ℕ). a ∷ s) (run_append (suc a) j i))

-- ---- the locations of one part

module _ (bit : ℕ) where
  abbrev pub put_bit : ℕ → ℕ
  put_bit v = bit_or v bit

  marked_none : (ls : List ℕ) → marked bit ls [] ≡ []
  unfolding marked
  marked_none [] = refl
  marked_none (l ∷ ls) = marked_none ls

  -- past the end there is no mark
  marked_past : (k a : ℕ) (m : List ℕ) → length m ≤ a → marked bit (run a k) m ≡ m
  unfolding marked table_from
  marked_past zero a m h = refl
  marked_past (suc k) a m h =
      ap (λ (s : List ℕ). marked bit (run (suc a) k) s) (set_out m a (bit_or (get_or m a 0) bit) h) ∙ marked_past k (suc a) m (omega arith)

  marked_clip : (a j k : ℕ) (m : List ℕ) → length m ≤ a + j → j ≤ k → marked bit (run a k) m ≡ marked bit (run a j) m
  marked_clip a j k m h i =
      let e : k ≡ j + (k - j) = omega arith in
      ap (λ (z : ℕ). marked bit (run a z) m) e
      ∙ ap (λ (s : List ℕ). marked bit s m) (run_append a j (k - j))
      ∙ marked_append bit (run a j) (run (a + j) (k - j)) m
      ∙ marked_past (k - j) (a + j) (marked bit (run a j) m) (rw (length_marked bit (run a j) m) h)

  marked_shift : (k a x : ℕ) (m : List ℕ) → marked bit (run (suc a) k) (x ∷ m) ≡ x ∷ marked bit (run a k) m
  unfolding marked table_from
  marked_shift zero a x m = refl
  marked_shift (suc k) a x m = marked_shift k (suc a) x (mark_one bit a m)

  marked_start : (k : ℕ) (m : List ℕ) → marked bit (run 0 k) m ≡ map put_bit (take k m) ++ drop k m
  unfolding marked table_from
  marked_start zero m = refl
  marked_start (suc k) [] = marked_none (run 1 k)
  marked_start (suc k) (x ∷ m) = marked_shift k 0 (put_bit x) m ∙ ap (λ (s : List ℕ). put_bit x ∷ s) (marked_start k m)

  marked_run : (a k : ℕ) (m : List ℕ) → marked bit (run a k) m ≡ take a m ++ (map put_bit (take k (drop a m)) ++ drop k (drop a m))
  marked_run zero k m = marked_start k m
  marked_run (suc a) zero [] = marked_none (run (suc a) zero)
  marked_run (suc a) (suc k) [] = marked_none (run (suc a) (suc k))
  marked_run (suc a) k (x ∷ m) = marked_shift k a x m ∙ ap (λ (s : List ℕ). x ∷ s) (marked_run a k m)

  marked_not : (a : ℕ) (m : List ℕ) → marked bit (run a 0) m ≡ m
  unfolding marked table_from
  marked_not a m = refl

  -- a part that is lent as far as the marks go
  pub part_marked : (first end a b : ℕ) (m part : List ℕ) → b ≡ min end (length m) → a ≡ min first b
      → part ≡ map put_bit (take (b - a) (drop a m))
      → take a m ++ (part ++ drop (b - a) (drop a m)) ≡ marked bit (run first (end - first)) m
  part_marked first end a b m part p q r = rw r (sym (marked_run a (b - a) m) ∙ dite (dec_lt first b) inside outside)
    where
      inside : first < b → marked bit (run a (b - a)) m ≡ marked bit (run first (end - first)) m
      inside h =
          let e : a ≡ first = omega arith in
          ap (λ (x : ℕ). marked bit (run x (b - x)) m) e
          ∙ dite (dec_lt end (length m))
          (λ (k : end < length m). let z : b ≡ end = omega arith in ap (λ (x : ℕ). marked bit (run first (x - first)) m) z)
          (λ (k : ¬ (end < length m)). sym (marked_clip first (b - first) (end - first) m (omega arith) (omega arith)))

      outside : ¬ (first < b) → marked bit (run a (b - a)) m ≡ marked bit (run first (end - first)) m
      outside h =
          let z : b - a ≡ 0 = omega arith in
          ap (λ (x : ℕ). marked bit (run a x) m) z ∙ marked_not a m
          ∙ sym (dite (dec_lt first end)
          (λ (k : first < end). marked_past (end - first) first m (omega arith))
          (λ (k : ¬ (first < end)). let y : end - first ≡ 0 = omega arith in ap (λ (x : ℕ). marked bit (run first x) m) y ∙ marked_not first m))
