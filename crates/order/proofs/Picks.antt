-- The choice lines of a move stand together: its picks are the elements of those lines, which is how the table of a log has them.
use mathlib.Core.Path.{◌≡◌, refl, ap}
use mathlib.Core.Logic.{◌≢◌}
use mathlib.Core.List.{List, [], ◌∷◌}
use Prim.Native.Nat.{ℕ, zero, suc, ◌+◌, ◌-◌, ◌≤◌, ◌<◌}
use native.Mathlib.Omega.{arith}
use borrow.Author.Tests.{eq-eqb, ne_eqb}
use Rattle.text.specs.Words.{table_from, table}
use Rattle.order.specs.Log.{Choice, picks_of}

module _ (f : ℕ → Choice) (i : ℕ) where
  abbrev elements : ℕ → ℕ → List ℕ
  elements a n = table_from (λ j. (f j).element) a n

  -- if no line is of move i, it has no picks
  none_of : (k n : ℕ) → ((j : ℕ) → k ≤ j → j < k + n → (f j).move ≢ i) → picks_of (table_from f k n) i ≡ []
  unfolding table_from picks_of
  none_of k zero h = refl
  none_of k (suc n) h = rw (ne_eqb (f k).move i (h k (omega arith) (omega arith))) (none_of (suc k) n (λ j a b. h j (omega arith) (omega arith)))

  -- if m lines of move i stand first and no others of it follow, its picks are theirs
  first_of : (k m n : ℕ) → ((j : ℕ) → k ≤ j → j < k + m → (f j).move ≡ i) → ((j : ℕ) → k + m ≤ j → j < k + m + n → (f j).move ≢ i)
      → picks_of (table_from f k (m + n)) i ≡ elements k m
  unfolding table_from picks_of
  first_of k zero n h g = let z : 0 + n ≡ n = omega arith in rw z (none_of k n (λ j a b. g j (omega arith) (omega arith)))
  first_of k (suc m) n h g =
      let y : suc m + n ≡ suc (m + n) = omega arith in
      rw (y, eq-eqb (f k).move i (h k (omega arith) (omega arith)))
      (ap (λ (r : List ℕ). (f k).element ∷ r) (first_of (suc k) m n (λ j a b. h j (omega arith) (omega arith)) (λ j a b. g j (omega arith) (omega arith))))

  -- if l lines of other moves stand before the m lines of move i, its picks are those of the m
  run_of : (k l m n : ℕ) → ((j : ℕ) → k ≤ j → j < k + l → (f j).move ≢ i) → ((j : ℕ) → k + l ≤ j → j < k + l + m → (f j).move ≡ i)
      → ((j : ℕ) → k + l + m ≤ j → j < k + l + m + n → (f j).move ≢ i) → picks_of (table_from f k (l + (m + n))) i ≡ elements (k + l) m
  unfolding table_from picks_of
  run_of k zero m n e h g =
      let z : k + 0 ≡ k = omega arith in
      let y : 0 + (m + n) ≡ m + n = omega arith in
      rw (z, y) (first_of k m n (λ j a b. h j (omega arith) (omega arith)) (λ j a b. g j (omega arith) (omega arith)))
  run_of k (suc l) m n e h g =
      let z : k + suc l ≡ suc k + l = omega arith in
      let y : suc l + (m + n) ≡ suc (l + (m + n)) = omega arith in
      rw (z, y, ne_eqb (f k).move i (e k (omega arith) (omega arith)))
      (run_of (suc k) l m n (λ j a b. e j (omega arith) (omega arith)) (λ j a b. h j (omega arith) (omega arith)) (λ j a b. g j (omega arith) (omega arith)))

-- of the first n choices, those of move i are the ones from a up to e
pub picks_run : (f : ℕ → Choice) (i a e n : ℕ) → a ≤ e → e ≤ n → ((j : ℕ) → j < a → (f j).move ≢ i) → ((j : ℕ) → a ≤ j → j < e → (f j).move ≡ i)
    → ((j : ℕ) → e ≤ j → j < n → (f j).move ≢ i) → picks_of (table f n) i ≡ table_from (λ j. (f j).element) a (e - a)
picks_run f i a e n p q before inside after =
    let z : 0 + a ≡ a = omega arith in
    let y : a + ((e - a) + (n - e)) ≡ n = omega arith in
    rw (z, y) at (run_of f i 0 a (e - a) (n - e) (λ j u v. before j (omega arith)) (λ j u v. inside j (omega arith) (omega arith))
    (λ j u v. after j (omega arith) (omega arith)))
