-- Counting the places that pass a test.
use mathlib.Core.Path.{◌≡◌, refl, sym, ap, ◌∙◌}
use mathlib.Core.Logic.{dite, ◌≢◌}
use mathlib.Core.Bool.{Bool, true, false}
use Prim.Native.Nat.{ℕ, zero, suc, ◌+◌, ◌≤◌, ◌<◌}
use native.Mathlib.Omega.{arith}
use native.Mathlib.Decide.{ℕ_discrete}
use Rattle.text.specs.Words.{one_if}
use Rattle.engine.specs.Labels.{count_below}

-- one test counts at most one
pub one_few : (b : Bool) → one_if b ≤ 1
one_few true = omega arith
one_few false = omega arith

-- tests that agree below n count alike
pub count_same : (f g : ℕ → Bool) (n : ℕ) → ((x : ℕ) → x < n → f x ≡ g x) → count_below f n ≡ count_below g n
unfolding count_below
count_same f g zero h = refl
count_same f g (suc n) h = rw (count_same f g n (λ x k. h x (omega arith)), h n (omega arith))

-- a test that passes nowhere from m up to n counts what it counts below m
pub count_upto : (f : ℕ → Bool) (m n : ℕ) → m ≤ n → ((x : ℕ) → m ≤ x → x < n → f x ≡ false) → count_below f n ≡ count_below f m
unfolding count_below
count_upto f m zero k h = let e : zero ≡ m = omega arith in ap (count_below f) e
count_upto f m (suc n) k h = dite (ℕ_discrete m (suc n)) (λ e. ap (count_below f) (sym e))
    (λ d. omega (arith, ap one_if (h n (omega arith) (omega arith)), count_upto f m n (omega arith) (λ x a b. h x a (omega arith))))

-- a test that passes nowhere counts nothing
pub count_none : (f : ℕ → Bool) (n : ℕ) → ((x : ℕ) → x < n → f x ≡ false) → count_below f n ≡ 0
unfolding count_below
count_none f n h = count_upto f 0 n (omega arith) (λ x a b. h x b)

-- a test that agrees with g but at x, where g fails, counts x beside what g counts
pub count_point : (f g : ℕ → Bool) (n x : ℕ) → x < n → ((y : ℕ) → y < n → y ≢ x → f y ≡ g y) → g x ≡ false
    → count_below f n ≡ one_if (f x) + count_below g n
unfolding count_below
count_point f g zero x h same off = absurd (omega arith)
count_point f g (suc n) x h same off = dite (ℕ_discrete x n) last (before (λ k. count_point f g n x k (λ y m. same y (omega arith)) off))
  where
    last : x ≡ n → count_below f n + one_if (f n) ≡ one_if (f x) + (count_below g n + one_if (g n))
    last e =
        let a = count_same f g n (λ y k. same y (omega arith) (omega arith)) in
        let b : one_if (f n) ≡ one_if (f x) = ap (λ (y : ℕ). one_if (f y)) (sym e) in
        let c : one_if (g n) ≡ 0 = ap (λ (y : ℕ). one_if (g y)) (sym e) ∙ ap one_if off in
        omega (arith, a, b, c)

    before : (x < n → count_below f n ≡ one_if (f x) + count_below g n) → x ≢ n → count_below f n + one_if (f n) ≡ one_if (f x) + (count_below g n + one_if (g n))
    before r d =
        let a = r (omega arith) in
        let b : one_if (f n) ≡ one_if (g n) = ap one_if (same n (omega arith) (λ e. d (sym e))) in
        omega (arith, a, b)

-- four tests that balance at each place balance in sum
pub count_balance : (a b c d : ℕ → Bool) (n : ℕ) → ((x : ℕ) → x < n → one_if (a x) + one_if (b x) ≡ one_if (c x) + one_if (d x))
    → count_below a n + count_below b n ≡ count_below c n + count_below d n
unfolding count_below
count_balance a b c d zero h = refl
count_balance a b c d (suc n) h = omega (arith, count_balance a b c d n (λ x k. h x (omega arith)), h n (omega arith))
