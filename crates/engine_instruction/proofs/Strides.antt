-- What a release clears, by the arguments that the stride gives: in a program with the strides of its arities these are the arguments themselves.
use Rattle.std.specs.Prelude.{if◌then◌else◌}
use mathlib.Core.Path.{◌≡◌, refl, sym, ap}
use mathlib.Core.Bool.{Bool, true, false, ◌&&◌, ◌||◌, or-false}
use mathlib.Core.List.{List, [], ◌∷◌}
use Prim.Native.Nat.{ℕ, zero, suc, ◌-◌}
use native.Mathlib.Omega.{arith}
use borrow.Author.Tests.{le-leb, ne_eqb}
use lib.Dec.{eqb, ltb, leb}
use lib.ListN.{get_or}
use Rattle.text.specs.Words.{has}
use Rattle.book.specs.declared.Function.{Function}
use Rattle.book.specs.Book.{Program, Place, no_function, size, stride, arguments, place_in, place, dynamic}
use Rattle.book.specs.Sum.{Strided, arguments_by, first_argument, second_argument}
use Rattle.book.proofs.Sum.{arguments_stride}
use Rattle.engine.specs.Move.{clears}
use Rattle.engine_instruction.specs.Given.{clears_at}

-- z is one of the arguments x and y that the arity has
pub has_by : (arity x y z : ℕ) → leb 1 arity && eqb x z || leb 2 arity && eqb y z ≡ has (arguments_by arity x y) z
has_by zero x y z = refl
has_by (suc zero) x y z = refl
has_by (suc (suc n)) x y z =
    rw (
      ne_eqb (suc (suc n)) 0 (λ q. omega arith),
      ne_eqb (suc (suc n)) 1 (λ q. omega arith),
      le-leb 1 (suc (suc n)) (omega arith),
      le-leb 2 (suc (suc n)) (omega arith),
    )
    (ap (λ (b : Bool). eqb x z || b) (sym (or-false (eqb y z))))

-- the function of a location has the stride of its arity, if all have
place_strided :
    (E : ℕ) (fs : List Function) → ((f : ℕ) → (get_or fs f no_function).stride ≡ stride E (get_or fs f no_function).arity) → (l : ℕ) →
    (place_in E fs l).function.stride ≡ stride E (place_in E fs l).function.arity
unfolding place_in
place_strided E [] h l = refl
place_strided E (f ∷ fs) h l = go (ltb l (size E f.arity)) (place_in E fs (l - size E f.arity)) (place_strided E fs (λ k. h (suc k)) (l - size E f.arity))
  where
    go :
        (b : Bool) (p : Place) → p.function.stride ≡ stride E p.function.arity →
        (if b then record { function = f; index = l } else p).function.stride ≡ stride E (if b then record { function = f; index = l } else p).function.arity
    go true p e = h 0
    go false p e = e

-- a release clears a location by its stride exactly if it clears it
pub clears_strided : (B : Program) → Strided B → (l v x : ℕ) → clears_at B l v x ≡ clears B l v x
clears_strided B ok l v x =
    let p = place B l in
    let e : arguments_by p.function.arity (first_argument p.function p.index) (second_argument p.function p.index) ≡ arguments B.E p.function.arity p.index =
    rw (place_strided B.E B.functions ok l) (arguments_stride B.E p.function.arity p.index) in
    ap (λ (xs : List ℕ). dynamic p.function && (has xs x || eqb v x)) e
