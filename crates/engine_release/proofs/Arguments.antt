-- The places of a function that have x as second argument, by the function's stride s.
use mathlib.Core.Path.{◌≡◌, refl, ap, ◌∙◌}
use mathlib.Core.Bool.{Bool, true, false}
use Prim.Native.Nat.{ℕ, ◌+◌, ◌-◌, ◌*◌, ◌/◌, ◌%◌, ◌≤◌, ◌<◌}
use native.Mathlib.Nat.{mod-lt, div-add-mod', mul-add-mod_self_right, mod-eq_of_lt, add-mul, one-mul}
use native.Mathlib.Omega.{arith}
use borrow.Author.Tests.{ltb-true, ltb-false}
use lib.Dec.{ltb}

module _ (s : ℕ) (some : 0 < s) where
  -- the remainder of k, from what k is
  remainder : (q m k : ℕ) → k ≡ q * s + m → m < s → k % s ≡ m
  remainder q m k e h = ap (λ (n : ℕ). n % s) e ∙ mul-add-mod_self_right q s m ∙ mod-eq_of_lt h

  module _ (x i k : ℕ) (on : i ≤ k) where
    -- places from i on, before one whose second argument is x, in the next row
    pub before_next : x < i % s → k < i + (s - i % s) + x → k % s ≡ x → ⊥
    before_next l m e = go (ltb k (i + (s - i % s))) refl
      where
        next : i + (s - i % s) ≤ k → k ≡ (i / s + 1) * s + (k - (i + (s - i % s)))
        next n = let e : (i / s + 1) * s ≡ i / s * s + s = add-mul (i / s) 1 s ∙ rw (one-mul s) in omega (arith, div-add-mod' i s, mod-lt i some, e)

        go : (b : Bool) → ltb k (i + (s - i % s)) ≡ b → ⊥
        go true q =
            let n : k < i + (s - i % s) = ltb-true k (i + (s - i % s)) q in
            let r : k % s ≡ i % s + (k - i) = remainder (i / s) (i % s + (k - i)) k (omega (arith, div-add-mod' i s)) (omega arith) in
            omega (arith, r, e)
        go false q =
            let n : i + (s - i % s) ≤ k = ltb-false k (i + (s - i % s)) q in
            let t : k - (i + (s - i % s)) < s = omega (arith, mod-lt i some) in
            let r : k % s ≡ k - (i + (s - i % s)) = remainder (i / s + 1) (k - (i + (s - i % s))) k (next n) t in
            omega (arith, r, e)
