-- Sets of moves as 64-bit words: intersection, complement, the least move (trailing zeros), how many there are (ones), and the set without its least.
use mathlib.Core.Path.{◌≡◌, refl, sym, ◌∙◌}
use mathlib.Core.Logic.{dite, ◌≢◌}
use mathlib.Core.Bool.{true, false, not, ◌&&◌, and-true, true≢false}
use Prim.Native.Nat.{ℕ, zero, suc, ◌+◌, ◌-◌, ◌*◌, ◌/◌, ◌%◌, ◌^◌, ◌≤◌, ◌<◌}
use native.Mathlib.Omega.{arith}
use native.Mathlib.Decide.{ℕ_discrete, dec_lt}
use lib.Dec.{eqb, eqb-suc-suc, eqb-zero-suc}
use lib.Bits.{bit_and, and_step, and_self, and_shr, and_mod, and_mask}
use lib.Pow.{pow_pos, shl_exact}
use lib.Count.{count_trailing_zeros, ones, under, ones_step}
use lib.Arith.{bin_ind}
use lib.ListN.{get_or, replicate}
use borrow.Author.Tests.{eqb-true, eqb-false, eq-eqb, ne_eqb}
use Rattle.order.specs.Sets.{bit}
use Rattle.order.proofs.Sets.{bit_low, bit_suc, bit_empty}

-- ---- what the code's words are

-- the set of move j alone, as the code shifts it
pub shl_one : (j : ℕ) → j < 64 → (1 * 2 ^ j) % 2 ^ 64 ≡ 2 ^ j
shl_one j h = shl_exact {a = 1} 1 j 64 (omega arith) (omega arith) ∙ omega arith

-- each word of a table of empty sets is the empty set
pub row_none : (n j : ℕ) → get_or (replicate n zero) j zero ≡ zero
row_none zero j = refl
row_none (suc n) zero = refl
row_none (suc n) (suc j) = row_none n j

-- the code's test of a move in a set
pub test_in : (s i : ℕ) → bit_and (s / 2 ^ i) 1 ≡ 1 → bit s i ≡ true
unfolding bit
test_in s i e = eq-eqb (s / 2 ^ i % 2) 1 (sym (and_mask (s / 2 ^ i) 1) ∙ e)

pub test_out : (s i : ℕ) → bit_and (s / 2 ^ i) 1 ≢ 1 → bit s i ≡ false
unfolding bit
test_out s i n = ne_eqb (s / 2 ^ i % 2) 1 (λ e. n (and_mask (s / 2 ^ i) 1 ∙ e))

-- ---- sets with the same moves are equal

no_moves : (s : ℕ) → ((i : ℕ) → bit s i ≡ false) → s ≡ 0
no_moves s = bin_ind (λ (s : ℕ). ((i : ℕ) → bit s i ≡ false) → s ≡ 0) (λ h. refl) turn s
  where
    turn : (s : ℕ) → (((i : ℕ) → bit (s / 2) i ≡ false) → s / 2 ≡ 0) → ((i : ℕ) → bit s i ≡ false) → s ≡ 0
    turn s k h =
        let low : s % 2 ≢ 1 = eqb-false (s % 2) 1 (sym (bit_low s) ∙ h 0) in
        let high : s / 2 ≡ 0 = k (λ i. sym (bit_suc s i) ∙ h (suc i)) in
        omega arith

digit_same : (a b : ℕ) → a < 2 → b < 2 → eqb a 1 ≡ eqb b 1 → a ≡ b
digit_same a b h k e = dite (ℕ_discrete a 1)
    (λ (p : a ≡ 1). let q : b ≡ 1 = eqb-true b 1 (sym e ∙ eq-eqb a 1 p) in omega arith)
    (λ (p : a ≢ 1). let q : b ≢ 1 = eqb-false b 1 (sym e ∙ ne_eqb a 1 p) in omega arith)

pub bit_ext : (s t : ℕ) → ((i : ℕ) → bit s i ≡ bit t i) → s ≡ t
bit_ext s = bin_ind (λ (s : ℕ). (t : ℕ) → ((i : ℕ) → bit s i ≡ bit t i) → s ≡ t)
    (λ t h. sym (no_moves t (λ i. sym (h i) ∙ bit_empty i))) turn s
  where
    turn : (s : ℕ) → ((t : ℕ) → ((i : ℕ) → bit (s / 2) i ≡ bit t i) → s / 2 ≡ t) → (t : ℕ) → ((i : ℕ) → bit s i ≡ bit t i) → s ≡ t
    turn s k t h =
        let low : s % 2 ≡ t % 2 = digit_same (s % 2) (t % 2) (omega arith) (omega arith) (sym (bit_low s) ∙ h 0 ∙ bit_low t) in
        let high : s / 2 ≡ t / 2 = k (t / 2) (λ i. sym (bit_suc s i) ∙ h (suc i) ∙ bit_suc t i) in
        omega arith

-- ---- intersection, complement, and the moves below one

digit_and : (a b : ℕ) → a < 2 → b < 2 → eqb (bit_and a b) 1 ≡ (eqb a 1 && eqb b 1)
digit_and zero zero h k = refl
digit_and zero (suc zero) h k = refl
digit_and (suc zero) zero h k = refl
digit_and (suc zero) (suc zero) h k = refl
digit_and zero (suc (suc b)) h k = absurd (omega arith)
digit_and (suc zero) (suc (suc b)) h k = absurd (omega arith)
digit_and (suc (suc a)) b h k = absurd (omega arith)

pub bit_of_and : (a b i : ℕ) → bit (bit_and a b) i ≡ (bit a i && bit b i)
unfolding bit
bit_of_and a b i = rw (and_shr a b i, and_mod (a / 2 ^ i) (b / 2 ^ i) 1) (digit_and (a / 2 ^ i % 2) (b / 2 ^ i % 2) (omega arith) (omega arith))

digit_not : (a : ℕ) → a < 2 → eqb (1 - a) 1 ≡ not (eqb a 1)
digit_not zero h = refl
digit_not (suc zero) h = refl
digit_not (suc (suc a)) h = absurd (omega arith)

-- a move below w is in the complement of s exactly if it is not in s
pub bit_not : (w s i : ℕ) → s < 2 ^ w → i < w → bit ((2 ^ w - 1) - s) i ≡ not (bit s i)
bit_not zero s i h k = absurd (omega arith)
bit_not (suc w) s zero h k =
    let e : ((2 ^ suc w - 1) - s) % 2 ≡ 1 - s % 2 = omega arith in
    bit_low ((2 ^ suc w - 1) - s) ∙ rw (e, bit_low s) (digit_not (s % 2) (omega arith))
bit_not (suc w) s (suc i) h k =
    let e : ((2 ^ suc w - 1) - s) / 2 ≡ (2 ^ w - 1) - s / 2 = omega arith in
    bit_suc ((2 ^ suc w - 1) - s) i ∙ rw (e, bit_suc s i) (bit_not w (s / 2) i (omega arith) (omega arith))

-- no move from w on is in a number below 2 ^ w
pub bit_high : (w s i : ℕ) → s < 2 ^ w → w ≤ i → bit s i ≡ false
bit_high zero s i h k = let e : s ≡ 0 = omega arith in rw e (bit_empty i)
bit_high (suc w) s zero h k = absurd (omega arith)
bit_high (suc w) s (suc i) h k = bit_suc s i ∙ bit_high w (s / 2) i (omega arith) (omega arith)

pub bit_lt : (w s i : ℕ) → s < 2 ^ w → bit s i ≡ true → i < w
bit_lt w s i h e = dite (dec_lt i w) (λ y. y) (λ (x : ¬ (i < w)). absurd (true≢false (sym e ∙ bit_high w s i h (omega arith))))

-- each move below j is in the set of the moves below j
pub bit_below : (j i : ℕ) → i < j → bit (2 ^ j - 1) i ≡ true
bit_below zero i h = absurd (omega arith)
bit_below (suc j) zero h = let e : (2 ^ suc j - 1) % 2 ≡ 1 = omega (arith, pow_pos j) in bit_low (2 ^ suc j - 1) ∙ rw e
bit_below (suc j) (suc i) h = let e : (2 ^ suc j - 1) / 2 ≡ 2 ^ j - 1 = omega (arith, pow_pos j) in bit_suc (2 ^ suc j - 1) i ∙ rw e (bit_below j i (omega arith))

pub below_bit : (j i : ℕ) → bit (2 ^ j - 1) i ≡ true → i < j
below_bit j i e = bit_lt j (2 ^ j - 1) i (omega (arith, pow_pos j)) e

-- ---- the least move of a set: `trailing_zeros`

-- no move below the least is in the set
pub least_below : (w s i : ℕ) → i < count_trailing_zeros w s → bit s i ≡ false
unfolding count_trailing_zeros
least_below zero s i h = absurd (omega arith)
least_below (suc w) s i h = go (s % 2) i refl h (least_below w (s / 2))
  where
    go : (r i : ℕ) → s % 2 ≡ r → i < under r (count_trailing_zeros w (s / 2)) → ((j : ℕ) → j < count_trailing_zeros w (s / 2) → bit (s / 2) j ≡ false)
        → bit s i ≡ false
    go zero zero e h k = bit_low s ∙ rw e
    go zero (suc i) e h k = bit_suc s i ∙ k i (omega arith)
    go (suc r) i e h k = absurd (omega arith)

-- the least is in the set, if it is below w
pub least_in : (w s : ℕ) → count_trailing_zeros w s < w → bit s (count_trailing_zeros w s) ≡ true
unfolding count_trailing_zeros
least_in zero s h = absurd (omega arith)
least_in (suc w) s h = go (s % 2) refl h (least_in w (s / 2))
  where
    go : (r : ℕ) → s % 2 ≡ r → under r (count_trailing_zeros w (s / 2)) < suc w
        → (count_trailing_zeros w (s / 2) < w → bit (s / 2) (count_trailing_zeros w (s / 2)) ≡ true) → bit s (under r (count_trailing_zeros w (s / 2))) ≡ true
    go zero e h k = bit_suc s (count_trailing_zeros w (s / 2)) ∙ k (omega arith)
    go (suc r) e h k = let o : s % 2 ≡ 1 = omega arith in bit_low s ∙ rw o

-- a set that is not empty has its least move
pub least_lt : (w s : ℕ) → s < 2 ^ w → s ≢ 0 → count_trailing_zeros w s < w
unfolding count_trailing_zeros
least_lt zero s h n = absurd (omega arith)
least_lt (suc w) s h n = go (s % 2) refl (least_lt w (s / 2))
  where
    go : (r : ℕ) → s % 2 ≡ r → (s / 2 < 2 ^ w → s / 2 ≢ 0 → count_trailing_zeros w (s / 2) < w) → under r (count_trailing_zeros w (s / 2)) < suc w
    go zero e k = let t : count_trailing_zeros w (s / 2) < w = k (omega arith) (omega arith) in omega arith
    go (suc r) e k = omega arith

-- ---- the set without its least move: `s & (s - 1)`

abbrev pub rest : ℕ → ℕ
rest s = bit_and s (s - 1)

rest_odd : (s : ℕ) → s % 2 ≡ 1 → rest s ≡ s / 2 * 2
rest_odd s e =
    let a : (s - 1) / 2 ≡ s / 2 = omega arith in
    let b : (s - 1) % 2 ≡ 0 = omega arith in
    and_step s (s - 1) ∙ rw (a, b, e, and_self (s / 2)) (omega arith)

rest_even : (s : ℕ) → s % 2 ≡ 0 → rest s ≡ rest (s / 2) * 2
rest_even s e =
    let a : (s - 1) / 2 ≡ s / 2 - 1 = omega arith in
    and_step s (s - 1) ∙ rw (a, e) (omega arith)

ones_double : (s : ℕ) → ones (s * 2) ≡ ones s
ones_double s = let a : s * 2 % 2 ≡ 0 = omega arith in let b : s * 2 / 2 ≡ s = omega arith in ones_step (s * 2) ∙ rw (a, b) (omega arith)

-- the set without its least move has one move less
pub ones_rest : (s : ℕ) → s ≢ 0 → ones s ≡ ones (rest s) + 1
ones_rest s = bin_ind (λ (s : ℕ). s ≢ 0 → ones s ≡ ones (rest s) + 1) (λ n. absurd (n refl)) turn s
  where
    turn : (s : ℕ) → (s / 2 ≢ 0 → ones (s / 2) ≡ ones (rest (s / 2)) + 1) → s ≢ 0 → ones s ≡ ones (rest s) + 1
    turn s k n = dite (ℕ_discrete (s % 2) 0)
        (λ (e : s % 2 ≡ 0). ones_step s ∙ rw (rest_even s e, ones_double, e, k (omega arith)) (omega arith))
        (λ (d : s % 2 ≢ 0). let e : s % 2 ≡ 1 = omega arith in ones_step s ∙ rw (rest_odd s e, ones_double, e) (omega arith))

pub ones_nonempty : (s : ℕ) → ones s ≢ 0 → s ≢ 0
unfolding ones
ones_nonempty s h e = h (rw e)

-- a set that has no moves is empty
pub ones_none : (s : ℕ) → ones s ≡ 0 → s ≡ 0
ones_none s e = dite (ℕ_discrete s 0) (λ z. z) (λ (n : s ≢ 0). absurd (omega (arith, ones_rest s n)))

bit_double : (s i : ℕ) → bit (s * 2) (suc i) ≡ bit s i
bit_double s i = let b : s * 2 / 2 ≡ s = omega arith in bit_suc (s * 2) i ∙ rw b

bit_double_low : (s : ℕ) → bit (s * 2) 0 ≡ false
bit_double_low s = let b : s * 2 % 2 ≡ 0 = omega arith in bit_low (s * 2) ∙ rw b

-- the set without its least move has all its other moves
pub bit_rest : (w s i : ℕ) → s < 2 ^ w → bit (rest s) i ≡ (bit s i && not (eqb (count_trailing_zeros w s) i))
unfolding count_trailing_zeros
bit_rest zero s i h = let e : s ≡ 0 = omega arith in rw (e, bit_empty)
bit_rest (suc w) s i h = go (s % 2) i refl (λ j. bit_rest w (s / 2) j (omega arith))
  where
    go : (r i : ℕ) → s % 2 ≡ r → ((j : ℕ) → bit (rest (s / 2)) j ≡ (bit (s / 2) j && not (eqb (count_trailing_zeros w (s / 2)) j)))
        → bit (rest s) i ≡ (bit s i && not (eqb (under r (count_trailing_zeros w (s / 2))) i))
    go zero zero e k = rw (rest_even s e, bit_double_low, bit_low s, e)
    go zero (suc i) e k = rw (rest_even s e, bit_double, bit_suc s i, eqb-suc-suc) (k i)
    go (suc r) zero e k = let o : s % 2 ≡ 1 = omega arith in rw (rest_odd s o, bit_double_low, bit_low s, o)
    go (suc r) (suc i) e k = let o : s % 2 ≡ 1 = omega arith in rw (rest_odd s o, bit_double, bit_suc s i, eqb-zero-suc) (sym (and-true (bit (s / 2) i)))
