-- Sets of moves as numbers: what is in a union, in the set of one move, and in the empty set.
use mathlib.Core.Path.{◌≡◌, refl, sym, ap, ◌∙◌}
use mathlib.Core.Bool.{false, ◌||◌}
use Prim.Native.Nat.{ℕ, zero, suc, ◌+◌, ◌/◌, ◌%◌, ◌^◌, ◌<◌}
use native.Mathlib.Nat.{div-one, zero-div}
use native.Mathlib.Omega.{arith}
use lib.Dec.{eqb, eqb-suc-suc, eqb-zero-suc, eqb-suc-zero}
use lib.Bits.{bit_or, or_shr, or_mod}
use lib.Pow.{shr-shr}
use Rattle.order.specs.Sets.{bit, with_move}

digit_or : (a b : ℕ) → a < 2 → b < 2 → eqb (bit_or a b) 1 ≡ (eqb a 1 || eqb b 1)
digit_or zero zero h k = refl
digit_or zero (suc zero) h k = refl
digit_or (suc zero) zero h k = refl
digit_or (suc zero) (suc zero) h k = refl
digit_or zero (suc (suc b)) h k = absurd (omega arith)
digit_or (suc zero) (suc (suc b)) h k = absurd (omega arith)
digit_or (suc (suc a)) b h k = absurd (omega arith)

pub bit_of_or : (a b i : ℕ) → bit (bit_or a b) i ≡ (bit a i || bit b i)
unfolding bit
bit_of_or a b i = rw (or_shr a b i, or_mod (a / 2 ^ i) (b / 2 ^ i) 1) (digit_or (a / 2 ^ i % 2) (b / 2 ^ i % 2) (omega arith) (omega arith))

pub bit_low : (s : ℕ) → bit s 0 ≡ eqb (s % 2) 1
unfolding bit
bit_low s = rw div-one

pub bit_suc : (s i : ℕ) → bit s (suc i) ≡ bit (s / 2) i
unfolding bit
bit_suc s i = let e : 1 + i ≡ suc i = omega arith in ap (λ (x : ℕ). eqb (x % 2) 1) (sym (shr-shr s 1 i ∙ ap (λ (x : ℕ). s / 2 ^ x) e))

pub bit_empty : (i : ℕ) → bit 0 i ≡ false
unfolding bit
bit_empty i = rw zero-div

-- the set of one move has that move only
pub bit_one : (j i : ℕ) → bit (2 ^ j) i ≡ eqb j i
bit_one zero zero = bit_low 1
bit_one zero (suc i) = bit_suc 1 i ∙ bit_empty i ∙ sym (eqb-zero-suc i)
bit_one (suc j) zero = let e : 2 ^ suc j % 2 ≡ 0 = omega arith in bit_low (2 ^ suc j) ∙ rw (e, eqb-suc-zero)
bit_one (suc j) (suc i) = let e : 2 ^ suc j / 2 ≡ 2 ^ j = omega arith in bit_suc (2 ^ suc j) i ∙ rw (e, eqb-suc-suc) (bit_one j i)

-- a set with one move more has that move and its own
pub bit_with : (s j i : ℕ) → bit (with_move s j) i ≡ (bit s i || eqb j i)
bit_with s j i = bit_of_or s (2 ^ j) i ∙ rw (bit_one j i)
