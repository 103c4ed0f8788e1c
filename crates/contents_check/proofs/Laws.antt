-- Tests of the arguments that a function of an arity has, said without a case for each arity.
use mathlib.Core.Path.{◌≡◌, refl, sym, ap}
use mathlib.Core.Bool.{Bool, true, false, ◌&&◌, ◌||◌, or-false}
use mathlib.Core.List.{List}
use Prim.Native.Nat.{ℕ, zero, suc}
use native.Mathlib.Omega.{arith}
use borrow.Author.Tests.{le-ltb, le-leb, ne_eqb}
use lib.Dec.{ltb, leb}
use Rattle.book.specs.declared.Function.{Function}
use Rattle.book.specs.Book.{Program, stride, arguments}
use Rattle.book.specs.Contents.{on_roll, some_on_roll, all_permanent}
use Rattle.book.specs.Sum.{first_argument, second_argument, arguments_by}
use Rattle.book.proofs.Sum.{arguments_stride}

and_one : (b : Bool) → b ≡ b && true
and_one true = refl
and_one false = refl

-- those of the arguments x and y that the arity has are permanent
pub permanent_by : (P arity x y : ℕ) → (ltb arity 1 || ltb x P) && (ltb arity 2 || ltb y P) ≡ all_permanent P (arguments_by arity x y)
unfolding all_permanent
permanent_by P zero x y = refl
permanent_by P (suc zero) x y = refl
permanent_by P (suc (suc n)) x y =
    rw (ne_eqb (suc (suc n)) 0 (λ q. omega arith), ne_eqb (suc (suc n)) 1 (λ q. omega arith), le-ltb (suc (suc n)) 1 (omega arith), le-ltb (suc (suc n)) 2 (omega arith)) (ap (λ (b : Bool). ltb x P && b) (and_one (ltb y P)))

-- one of the arguments x and y that the arity has is on the roll
module _ (B : Program) (c : List ℕ) where
  pub roll_by : (arity x y : ℕ) → leb 1 arity && on_roll B c x || leb 2 arity && on_roll B c y ≡ some_on_roll B c (arguments_by arity x y)
  unfolding some_on_roll
  roll_by zero x y = refl
  roll_by (suc zero) x y = refl
  roll_by (suc (suc n)) x y =
      rw (ne_eqb (suc (suc n)) 0 (λ q. omega arith), ne_eqb (suc (suc n)) 1 (λ q. omega arith), le-leb 1 (suc (suc n)) (omega arith), le-leb 2 (suc (suc n)) (omega arith)) (ap (λ (b : Bool). on_roll B c x || b) (sym (or-false (on_roll B c y))))

-- the arguments that the stride of f gives are those of its location i
pub arguments_are :
    (E : ℕ) (f : Function) (i x y : ℕ) → f.stride ≡ stride E f.arity → (x ≡ first_argument f i) × (y ≡ second_argument f i) →
    arguments_by f.arity x y ≡ arguments E f.arity i
arguments_are E f i x y s h = rw (h.0, h.1, s) (arguments_stride E f.arity i)
