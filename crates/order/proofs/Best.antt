-- The least pair of moves that passes a test, found while the second moves are tried one by one: for each the least first move.
use mathlib.Core.Path.{◌≡◌}
use mathlib.Core.Logic.{◌⊎◌, inl, inr, dite, ◌≢◌}
use mathlib.Core.Bool.{Bool, true}
use Prim.Native.Nat.{ℕ, ◌+◌, ◌≤◌, ◌<◌}
use native.Mathlib.Omega.{arith}
use native.Mathlib.Decide.{ℕ_discrete, dec_lt}
use Rattle.order.specs.Pairs.{no_pair, a_pair, least_pair}
use Rattle.order.proofs.Pairs.{Passing, two_none, two_least}

-- of the pairs whose second move is below k the least that passes f is (a, b); a is 64 for none
pub record Best (f : ℕ → ℕ → Bool) (k a b : ℕ) : Type 0 where
  pub top : a ≤ 64
  pub hit : a < 64 → Passing f k a b
  pub low : (x y : ℕ) → Passing f k x y → (a < x) ⊎ ((a ≡ x) × (b ≤ y))

module _ (f : ℕ → ℕ → Bool) where
  pub best_start : Best f 0 64 0
  best_start = record { top = omega arith; hit = λ h. absurd (omega arith); low = λ x y p. absurd (omega (arith, p.1)) }

  -- one second move more, whose least first move is r
  module _ (k a b r : ℕ) (lim : k < 64) (s : Best f k a b) (hit : r < 64 → (r < k) × (f r k ≡ true)) (low : (i : ℕ) → i < k → f i k ≡ true → r ≤ i) where
    below : (x y : ℕ) → Passing f (k + 1) x y → y ≢ k → Passing f k x y
    below x y p n = let h : y < k + 1 = p.1 in (p.0, omega arith, p.2)

    pub best_new : r < a → Best f (k + 1) r k
    best_new h = record { top = omega (arith, s.top); hit = λ z. let e = hit z in (e.0, omega arith, e.1); low = least }
      where
        least : (x y : ℕ) → Passing f (k + 1) x y → (r < x) ⊎ ((r ≡ x) × (k ≤ y))
        least x y p = dite (ℕ_discrete y k) here (λ (n : y ≢ k). there (s.low x y (below x y p n)))
          where
            here : y ≡ k → (r < x) ⊎ ((r ≡ x) × (k ≤ y))
            here q =
                let l : x < y = p.0 in
                let z : r ≤ x = low x (omega arith) (rw q at p.2) in
                dite (dec_lt r x) inl (λ (n : ¬ (r < x)). inr (omega arith, omega arith))

            there : (a < x) ⊎ ((a ≡ x) × (b ≤ y)) → (r < x) ⊎ ((r ≡ x) × (k ≤ y))
            there (inl l) = inl (omega arith)
            there (inr l) = inl (omega arith)

    pub best_old : a ≤ r → Best f (k + 1) a b
    best_old h = record { top = s.top; hit = λ z. let e = s.hit z in (e.0, omega (arith, e.1), e.2); low = least }
      where
        least : (x y : ℕ) → Passing f (k + 1) x y → (a < x) ⊎ ((a ≡ x) × (b ≤ y))
        least x y p = dite (ℕ_discrete y k) here (λ (n : y ≢ k). s.low x y (below x y p n))
          where
            here : y ≡ k → (a < x) ⊎ ((a ≡ x) × (b ≤ y))
            here q =
                let l : x < y = p.0 in
                let z : r ≤ x = low x (omega arith) (rw q at p.2) in
                dite (dec_lt a x) inl (λ (n : ¬ (a < x)). let w : a ≡ x = omega arith in inr (w, older w))
              where
                older : a ≡ x → b ≤ y
                older w = dite (dec_lt a 64) (λ (u : a < 64). omega (arith, (s.hit u).1, q)) (λ (u : ¬ (a < 64)). absurd (omega (arith, p.0, q, lim)))

  pub best_found : (m a b : ℕ) → Best f m a b → a < 64 → least_pair f m ≡ a_pair a b
  best_found m a b s h = (two_least f m a b).1 (record { holds = s.hit h; least = s.low })

  pub best_none : (m a b : ℕ) → m ≤ 64 → Best f m a b → 64 ≤ a → least_pair f m ≡ no_pair
  best_none m a b small s h = (two_none f m).1 none
    where
      none : (i j : ℕ) → ¬ Passing f m i j
      none i j p = go (s.low i j p)
        where
          go : (a < i) ⊎ ((a ≡ i) × (b ≤ j)) → ⊥
          go (inl l) = omega (arith, p.0, p.1)
          go (inr l) = omega (arith, p.0, p.1, l.0)
