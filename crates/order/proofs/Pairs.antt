-- The least pair of moves that passes a test is found.
use Rattle.std.specs.Prelude.{Option, None, Some}
use mathlib.Core.Path.{◌≡◌, refl, sym, ap, ◌∙◌}
use mathlib.Core.Logic.{◌↔◌, ◌⊎◌, inl, inr, dite}
use mathlib.Core.Bool.{Bool, true, false, true≢false}
use Prim.Native.Nat.{ℕ, zero, suc, ◌+◌, ◌≤◌, ◌<◌}
use native.Mathlib.Omega.{arith}
use native.Mathlib.Decide.{ℕ_discrete, dec_lt}
use Rattle.text.specs.Words.{least_from}
use Rattle.text.proofs.Words.{least_from_none, least_from_here}
use Rattle.order.specs.Pairs.{PairFound, no_pair, a_pair, or_else, least_pair_from, least_pair}
use Rattle.order.specs.Orders.{LeastPair}

module _ (f : ℕ → ℕ → Bool) where
  -- what a search finds when the first moves are the n from i on
  abbrev Two : ℕ → ℕ → PairFound → Type 0
  Two i n no_pair = (x y : ℕ) → i ≤ x → x < y → y < i + n → f x y ≡ false
  Two i n (a_pair a b) = (i ≤ a) × (a < b) × (b < i + n) × (f a b ≡ true) × ((x y : ℕ) → i ≤ x → x < y → y < i + n → f x y ≡ true → (a < x) ⊎ ((a ≡ x) × (b ≤ y)))

  two_is : (i n : ℕ) → Two i n (least_pair_from f i n)
  unfolding least_pair_from
  two_is i zero = λ x y a b d. absurd (omega arith)
  two_is i (suc n) = go (least_from (f i) n (suc i)) (least_pair_from f (suc i) n) refl (two_is (suc i) n)
    where
      go : (o : Option ℕ) (r : PairFound) → least_from (f i) n (suc i) ≡ o → Two (suc i) n r → Two i (suc n) (or_else i o r)
      go (Some b) r q h = the_first
        where
          found : (suc i ≤ b) × (b < suc i + n) × (f i b ≡ true) × ((y : ℕ) → suc i ≤ y → y < b → f i y ≡ false)
          found = least_from_here (f i) n (suc i) b q

          least : (x y : ℕ) → i ≤ x → x < y → y < i + suc n → f x y ≡ true → (i < x) ⊎ ((i ≡ x) × (b ≤ y))
          least x y a d e z = dite (dec_lt i x) inl (λ (w : ¬ (i < x)). let k : i ≡ x = omega arith in inr (k, not_below k))
            where
              not_below : i ≡ x → b ≤ y
              not_below k = dite (dec_lt y b)
                  (λ (g : y < b). absurd (true≢false (sym z ∙ ap (λ (v : ℕ). f v y) (sym k) ∙ found.3 y (omega arith) g)))
                  (λ (g : ¬ (y < b)). omega arith)

          the_first : Two i (suc n) (a_pair i b)
          the_first = (omega arith, omega (arith, found.0), omega (arith, found.1), found.2, least)
      go None no_pair p h = λ x y a d e. dite (ℕ_discrete x i)
          (λ k. ap (λ (v : ℕ). f v y) k ∙ least_from_none (f i) n (suc i) p y (omega arith) (omega arith))
          (λ k. h x y (omega arith) d (omega arith))
      go None (a_pair u v) p (b0, b1, b2, b3, low) = (
        omega arith,
        b1,
        omega arith,
        b3,
        λ x y a d e z. dite (ℕ_discrete x i)
            (λ k. absurd (true≢false (sym z ∙ ap (λ (w : ℕ). f w y) k ∙ least_from_none (f i) n (suc i) p y (omega arith) (omega arith))))
            (λ k. low x y (omega arith) d (omega arith) z),
      )

  -- two of the first m moves, the earlier first, that pass the test
  abbrev pub Passing : ℕ → ℕ → ℕ → Type 0
  Passing m i j = (i < j) × (j < m) × (f i j ≡ true)

  pub two_none : (m : ℕ) → (least_pair f m ≡ no_pair) ↔ ((i j : ℕ) → ¬ Passing m i j)
  two_none m = (λ e i j p. true≢false (sym p.2 ∙ to (least_pair f m) e (two_is 0 m) i j p), λ h. from (least_pair f m) (two_is 0 m) h)
    where
      to : (o : PairFound) → o ≡ no_pair → Two 0 m o → (i j : ℕ) → Passing m i j → f i j ≡ false
      to no_pair e t i j p = t i j (omega arith) p.0 (omega (arith, p.1))
      to (a_pair a b) e t i j p = let z : ◌≡◌ {A = ℕ} 0 1 = cc in absurd (omega arith)

      from : (o : PairFound) → Two 0 m o → ((i j : ℕ) → ¬ Passing m i j) → o ≡ no_pair
      from no_pair t h = refl
      from (a_pair a b) t h = absurd (h a b (t.1, omega (arith, t.2), t.3))

  pub two_least : (m i j : ℕ) → (least_pair f m ≡ a_pair i j) ↔ LeastPair (Passing m) i j
  two_least m i j = (λ e. to (least_pair f m) e (two_is 0 m), λ h. from (least_pair f m) (two_is 0 m) h)
    where
      to : (o : PairFound) → o ≡ a_pair i j → Two 0 m o → LeastPair (Passing m) i j
      to no_pair e t = let z : ◌≡◌ {A = ℕ} 0 1 = cc in absurd (omega arith)
      to (a_pair a b) e t =
          let p : a ≡ i = cc in
          let q : b ≡ j = cc in
          rw (← p, ← q) (record { holds = (t.1, omega (arith, t.2), t.3); least = λ x y h. t.4 x y (omega arith) h.0 (omega (arith, h.1)) h.2 })

      same : (a b : ℕ) → (i < a) ⊎ ((i ≡ a) × (j ≤ b)) → (a < i) ⊎ ((a ≡ i) × (b ≤ j)) → a_pair a b ≡ a_pair i j
      same a b (inl p) (inl q) = absurd (omega arith)
      same a b (inl p) (inr q) = absurd (omega arith)
      same a b (inr p) (inl q) = absurd (omega arith)
      same a b (inr p) (inr q) = let u : a ≡ i = omega arith in let v : b ≡ j = omega arith in rw (u, v)

      from : (o : PairFound) → Two 0 m o → LeastPair (Passing m) i j → o ≡ a_pair i j
      from no_pair t h = absurd (true≢false (sym h.holds.2 ∙ t i j (omega arith) h.holds.0 (omega (arith, h.holds.1))))
      from (a_pair a b) t h = same a b (h.least a b (t.1, omega (arith, t.2), t.3)) (t.4 i j (omega arith) h.holds.0 (omega (arith, h.holds.1)) h.holds.2)
