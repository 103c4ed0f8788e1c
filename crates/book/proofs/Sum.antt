-- Laws of the sum: it is the location's number, and the stride takes a location's number apart.
use Rattle.std.specs.Prelude.{if◌then◌else◌}
use mathlib.Core.Path.{◌≡◌, refl}
use mathlib.Core.Bool.{Bool, true, false, ◌||◌}
use mathlib.Core.List.{[], ◌∷◌}
use Prim.Native.Nat.{ℕ, ◌+◌, ◌*◌, ◌/◌, ◌%◌, ◌<◌, ◌≤◌}
use native.Mathlib.Nat.{div-one, mul-one, le_trans, mul-le-mul_left, mul-le-mul_right}
use native.Mathlib.Omega.{arith}
use lib.Dec.{eqb}
use borrow.Author.Tests.{eqb-true, eqb-false, ne_eqb}
use Rattle.book.specs.Book.{Program, stride, offset, arguments, location, function_at}
use Rattle.book.specs.Sum.{Strided, sum, Fitting, first_argument, second_argument, arguments_by}

-- ---- the stride of an arity

pub stride_low : (E arity : ℕ) → arity < 2 → stride E arity ≡ 1
stride_low E arity h = go (eqb arity 0) refl (eqb arity 1) refl
  where
    go : (a : Bool) → eqb arity 0 ≡ a → (b : Bool) → eqb arity 1 ≡ b → (if a || b then 1 else E) ≡ 1
    go true p b q = refl
    go false p true q = refl
    go false p false q = absurd (omega (arith, eqb-false arity 0 p, eqb-false arity 1 q))

pub stride_high : (E arity : ℕ) → 2 ≤ arity → stride E arity ≡ E
stride_high E arity h = rw (ne_eqb arity 0 (λ q. omega arith), ne_eqb arity 1 (λ q. omega arith))

pub stride_most : (E arity most : ℕ) → 1 ≤ most → E ≤ most → stride E arity ≤ most
stride_most E arity most h k = go (eqb arity 0 || eqb arity 1)
  where
    go : (b : Bool) → (if b then 1 else E) ≤ most
    go true = h
    go false = k

-- ---- the sum, and its arguments

-- the product of two numbers up to m is at most m × m
pub product : (m : ℕ) {a b : ℕ} → a ≤ m → b ≤ m → a * b ≤ m * m
product m {a} {b} ha hb = le_trans (mul-le-mul_left a hb) (mul-le-mul_right m ha)

-- the offset at arguments that fit is a sum
pub offset_sum : (E arity x y : ℕ) → Fitting arity x y → x * stride E arity + y ≡ offset E arity x y
offset_sum E arity x y h = go (eqb arity 0) refl (eqb arity 1) refl
  where
    go : (a : Bool) → eqb arity 0 ≡ a → (b : Bool) → eqb arity 1 ≡ b → x * (if a || b then 1 else E) + y ≡ (if a then 0 else if b then x else x * E + y)
    go true p b q = let z : arity ≡ 0 = eqb-true arity 0 p in omega (arith, h.0 (omega arith), h.1 (omega arith), mul-one x)
    go false p true q = let z : arity ≡ 1 = eqb-true arity 1 q in omega (arith, h.1 (omega arith), mul-one x)
    go false p false q = refl

-- the arguments of location i of a function are those that its stride gives
pub arguments_stride : (E arity i : ℕ) → arguments_by arity (i / stride E arity) (i % stride E arity) ≡ arguments E arity i
arguments_stride E arity i = go (eqb arity 0) (eqb arity 1)
  where
    go : (a b : Bool)
        → (if a then [] else if b then (i / (if a || b then 1 else E)) ∷ [] else (i / (if a || b then 1 else E)) ∷ (i % (if a || b then 1 else E)) ∷ [])
        ≡ (if a then [] else if b then i ∷ [] else (i / E) ∷ (i % E) ∷ [])
    go true b = refl
    go false true = rw (div-one i)
    go false false = refl

-- a unary function's location at x is its sum at 0 and x
pub sum_second : (B : Program) (f x : ℕ) → (function_at B f).arity ≡ 1 → sum (function_at B f) 0 x ≡ location B f x 0
sum_second B f x e = rw e (omega arith)

module _ (B : Program) (ok : Strided B) where
  -- the sum is the location, at arguments that fit
  pub sum_location : (f x y : ℕ) → Fitting (function_at B f).arity x y → sum (function_at B f) x y ≡ location B f x y
  sum_location f x y h =
      let e = offset_sum B.E (function_at B f).arity x y h in
      rw (ok f) (omega (arith, e))

  -- the arguments of location i of function f are those that its stride gives
  pub arguments_apart : (f i : ℕ) → arguments_by (function_at B f).arity (first_argument (function_at B f) i) (second_argument (function_at B f) i) ≡ arguments B.E (function_at B f).arity i
  arguments_apart f i = rw (ok f) (arguments_stride B.E (function_at B f).arity i)
