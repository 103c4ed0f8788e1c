-- Laws of values: Booleans, numbers, and the operations by kind.
use mathlib.Core.Path.{◌≡◌, refl}
use mathlib.Core.Logic.{◌⊎◌, inl, inr}
use mathlib.Core.Bool.{true}
use Prim.Native.Nat.{ℕ, zero, suc, ◌≤◌, ◌<◌}
use native.Mathlib.Omega.{arith}
use lib.Dec.{eqb, ltb, leb}
use lib.ListN.{get_or}
use borrow.Author.Tests.{eqb-true, ltb-true, leb-true}
use Rattle.text.proofs.Words.{or_cases, and_cases}
use Rattle.book.specs.Book.{undef, boolean, truth}
use Rattle.engine.specs.Term.{Op, equal, conjunction, disjunction, plus, minus, less, number, shapes, no_term, a_join}
use Rattle.engine_term.specs.Bindings.{operator_value}

-- a Boolean is the truth of being true
pub truth_boolean : (y : ℕ) → boolean y ≡ true → truth (eqb y 2) ≡ y
truth_boolean y e = go (or_cases (eqb y 1) (eqb y 2) e)
  where
    go : (eqb y 1 ≡ true) ⊎ (eqb y 2 ≡ true) → truth (eqb y 2) ≡ y
    go (inl q) = let z : y ≡ 1 = eqb-true y 1 q in rw z
    go (inr q) = let z : y ≡ 2 = eqb-true y 2 q in rw z

pub number_least : (P x : ℕ) → number P x ≡ true → 3 ≤ x
number_least P x e = leb-true 3 x (and_cases (leb 3 x) (ltb x P) e).0

pub number_most : (P x : ℕ) → number P x ≡ true → x < P
number_most P x e = ltb-true x P (and_cases (leb 3 x) (ltb x P) e).1

-- each kind from 7 to 13 but 8 is that of an operation of two operands
pub join_kind : (k : ℕ) → 7 ≤ k → k < 14 → ((k ≡ 8) → ⊥) → (o : Op) × (get_or shapes k no_term ≡ a_join o)
join_kind zero a b n = absurd (omega arith)
join_kind (suc zero) a b n = absurd (omega arith)
join_kind (suc (suc zero)) a b n = absurd (omega arith)
join_kind (suc (suc (suc zero))) a b n = absurd (omega arith)
join_kind (suc (suc (suc (suc zero)))) a b n = absurd (omega arith)
join_kind (suc (suc (suc (suc (suc zero))))) a b n = absurd (omega arith)
join_kind (suc (suc (suc (suc (suc (suc zero)))))) a b n = absurd (omega arith)
join_kind (suc (suc (suc (suc (suc (suc (suc zero))))))) a b n = (equal, refl)
join_kind (suc (suc (suc (suc (suc (suc (suc (suc zero)))))))) a b n = absurd (n refl)
join_kind (suc (suc (suc (suc (suc (suc (suc (suc (suc zero))))))))) a b n = (conjunction, refl)
join_kind (suc (suc (suc (suc (suc (suc (suc (suc (suc (suc zero)))))))))) a b n = (disjunction, refl)
join_kind (suc (suc (suc (suc (suc (suc (suc (suc (suc (suc (suc zero))))))))))) a b n = (plus, refl)
join_kind (suc (suc (suc (suc (suc (suc (suc (suc (suc (suc (suc (suc zero)))))))))))) a b n = (minus, refl)
join_kind (suc (suc (suc (suc (suc (suc (suc (suc (suc (suc (suc (suc (suc zero))))))))))))) a b n = (less, refl)
join_kind (suc (suc (suc (suc (suc (suc (suc (suc (suc (suc (suc (suc (suc (suc k)))))))))))))) a b n = absurd (omega arith)

pub no_join : (P k x y : ℕ) → ((k ≡ 7) → ⊥) → ((k ≡ 9) → ⊥) → ((k ≡ 10) → ⊥) → ((k ≡ 11) → ⊥) → ((k ≡ 12) → ⊥) → ((k ≡ 13) → ⊥)
    → undef ≡ operator_value P (get_or shapes k no_term) x y
no_join P zero x y a b c d e f = refl
no_join P (suc zero) x y a b c d e f = refl
no_join P (suc (suc zero)) x y a b c d e f = refl
no_join P (suc (suc (suc zero))) x y a b c d e f = refl
no_join P (suc (suc (suc (suc zero)))) x y a b c d e f = refl
no_join P (suc (suc (suc (suc (suc zero))))) x y a b c d e f = refl
no_join P (suc (suc (suc (suc (suc (suc zero)))))) x y a b c d e f = refl
no_join P (suc (suc (suc (suc (suc (suc (suc zero))))))) x y a b c d e f = absurd (a refl)
no_join P (suc (suc (suc (suc (suc (suc (suc (suc zero)))))))) x y a b c d e f = refl
no_join P (suc (suc (suc (suc (suc (suc (suc (suc (suc zero))))))))) x y a b c d e f = absurd (b refl)
no_join P (suc (suc (suc (suc (suc (suc (suc (suc (suc (suc zero)))))))))) x y a b c d e f = absurd (c refl)
no_join P (suc (suc (suc (suc (suc (suc (suc (suc (suc (suc (suc zero))))))))))) x y a b c d e f = absurd (d refl)
no_join P (suc (suc (suc (suc (suc (suc (suc (suc (suc (suc (suc (suc zero)))))))))))) x y a b c d e f = absurd (e refl)
no_join P (suc (suc (suc (suc (suc (suc (suc (suc (suc (suc (suc (suc (suc zero))))))))))))) x y a b c d e f = absurd (f refl)
no_join P (suc (suc (suc (suc (suc (suc (suc (suc (suc (suc (suc (suc (suc (suc k)))))))))))))) x y a b c d e f = refl
