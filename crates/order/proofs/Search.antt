-- The least pair of moves by loops, and by tests that agree.
use Rattle.std.specs.Prelude.{None, Some}
use mathlib.Core.Path.{◌≡◌, refl, sym, ◌∙◌}
use mathlib.Core.Bool.{Bool}
use Prim.Native.Nat.{ℕ, suc, ◌+◌, ◌-◌, ◌≤◌, ◌<◌}
use native.Mathlib.Numerals.{add-one}
use native.Mathlib.Omega.{arith}
use Rattle.text.specs.Words.{least_from}
use Rattle.order.specs.Pairs.{PairFound, no_pair, a_pair, or_else, least_pair_from, least_pair}
use Rattle.order.proofs.Pairs.{Passing, two_none, two_least}

-- ---- two tests that the same pairs pass

module _ (f g : ℕ → ℕ → Bool) (m n : ℕ)
    (to : (i j : ℕ) → Passing f m i j → Passing g n i j) (from : (i j : ℕ) → Passing g n i j → Passing f m i j) where
  pub two_alike : least_pair f m ≡ least_pair g n
  two_alike = go (least_pair g n) refl
    where
      go : (o : PairFound) → least_pair g n ≡ o → least_pair f m ≡ o
      go no_pair e = (two_none f m).1 (λ i j p. (two_none g n).0 e i j (to i j p))
      go (a_pair i j) e =
          let l = (two_least g n i j).0 e in
          (two_least f m i j).1 (record { holds = from i j l.holds; least = λ a b p. l.least a b (to a b p) })

-- two tests that agree on the pairs i < j < m find the same least pair
pub two_same : (f g : ℕ → ℕ → Bool) (m : ℕ) → ((i j : ℕ) → i < j → j < m → f i j ≡ g i j) → least_pair f m ≡ least_pair g m
two_same f g m same = two_alike f g m m (λ i j p. (p.0, p.1, sym (same i j p.0 p.1) ∙ p.2)) (λ i j p. (p.0, p.1, same i j p.0 p.1 ∙ p.2))

-- ---- a loop over the first moves, which searches for the least second move of each

module _ (f : ℕ → ℕ → Bool) (m : ℕ) where
  pub two_start : least_pair_from f 0 (m - 0) ≡ least_pair f m
  two_start = let e : m - 0 ≡ m = omega arith in rw e

  two_at : (i : ℕ) → i < m → least_pair_from f i (m - i) ≡ or_else i (least_from (f i) (m - (i + 1)) (i + 1)) (least_pair_from f (i + 1) (m - (i + 1)))
  unfolding least_pair_from
  two_at i h = let e : m - i ≡ suc (m - (i + 1)) = omega arith in rw (e, add-one i)

  -- a first move without a second is passed over
  pub two_pass : (i : ℕ) → i < m → least_from (f i) (m - (i + 1)) (i + 1) ≡ None → least_pair_from f i (m - i) ≡ least_pair f m
      → least_pair_from f (i + 1) (m - (i + 1)) ≡ least_pair f m
  two_pass i h e p = sym (two_at i h ∙ rw e) ∙ p

  -- the first move that has a second is that of the least pair
  pub two_stop : (i j : ℕ) → i < m → least_from (f i) (m - (i + 1)) (i + 1) ≡ Some j → least_pair_from f i (m - i) ≡ least_pair f m → least_pair f m ≡ a_pair i j
  two_stop i j h e p = sym p ∙ two_at i h ∙ rw e

  -- if all first moves were passed over, there is no pair
  pub two_end : (i : ℕ) → m ≤ i → least_pair_from f i (m - i) ≡ least_pair f m → least_pair f m ≡ no_pair
  unfolding least_pair_from
  two_end i h p = let e : m - i ≡ 0 = omega arith in sym p ∙ rw e
