-- The numbers of the kinds that the walk does nothing at.
use mathlib.Core.Logic.{inl, inr}
use Rattle.std.proofs.Common.{◌≡◌, ℕ, refl, arith}
use Rattle.book_parts.specs.declared.NodeKind.{NodeKind}
use Rattle.book_parts.specs.declared.NodeKind.TheVariants.{Other, Element, Variable, Agent, Function, FunctionOfOne, FunctionOfTwo, Equal, Not, And, Or, Plus, Minus, Less, Skip, Set, Both, If, Let, Forall, Import, Release, Choose}
use Rattle.book_parts.specs.NodeKinds.{HasNumber}

pub no_rule_number : (q : NodeKind) (k : ℕ) → HasNumber q k
    → ((q ≡ Set) → ⊥) → ((q ≡ Both) → ⊥) → ((q ≡ If) → ⊥) → ((q ≡ Let) → ⊥) → ((q ≡ Forall) → ⊥) → ((q ≡ Import) → ⊥) → ((q ≡ Release) → ⊥) → ((q ≡ Choose) → ⊥)
    → ((k ≡ 21) → ⊥) × ((k ≡ 22) → ⊥) × ((k ≡ 23) → ⊥) × ((k ≡ 24) → ⊥) × ((k ≡ 25) → ⊥) × ((k ≡ 26) → ⊥) × ((k ≡ 27) → ⊥) × ((k ≡ 28) → ⊥)
no_rule_number Element k h a0 a1 a2 a3 a4 a5 a6 a7 = (λ e. omega (arith, h, e), λ e. omega (arith, h, e), λ e. omega (arith, h, e), λ e. omega (arith, h, e), λ e. omega (arith, h, e), λ e. omega (arith, h, e), λ e. omega (arith, h, e), λ e. omega (arith, h, e))
no_rule_number Variable k h a0 a1 a2 a3 a4 a5 a6 a7 = (λ e. omega (arith, h, e), λ e. omega (arith, h, e), λ e. omega (arith, h, e), λ e. omega (arith, h, e), λ e. omega (arith, h, e), λ e. omega (arith, h, e), λ e. omega (arith, h, e), λ e. omega (arith, h, e))
no_rule_number Agent k h a0 a1 a2 a3 a4 a5 a6 a7 = (λ e. omega (arith, h, e), λ e. omega (arith, h, e), λ e. omega (arith, h, e), λ e. omega (arith, h, e), λ e. omega (arith, h, e), λ e. omega (arith, h, e), λ e. omega (arith, h, e), λ e. omega (arith, h, e))
no_rule_number Function k h a0 a1 a2 a3 a4 a5 a6 a7 = (λ e. omega (arith, h, e), λ e. omega (arith, h, e), λ e. omega (arith, h, e), λ e. omega (arith, h, e), λ e. omega (arith, h, e), λ e. omega (arith, h, e), λ e. omega (arith, h, e), λ e. omega (arith, h, e))
no_rule_number FunctionOfOne k h a0 a1 a2 a3 a4 a5 a6 a7 = (λ e. omega (arith, h, e), λ e. omega (arith, h, e), λ e. omega (arith, h, e), λ e. omega (arith, h, e), λ e. omega (arith, h, e), λ e. omega (arith, h, e), λ e. omega (arith, h, e), λ e. omega (arith, h, e))
no_rule_number FunctionOfTwo k h a0 a1 a2 a3 a4 a5 a6 a7 = (λ e. omega (arith, h, e), λ e. omega (arith, h, e), λ e. omega (arith, h, e), λ e. omega (arith, h, e), λ e. omega (arith, h, e), λ e. omega (arith, h, e), λ e. omega (arith, h, e), λ e. omega (arith, h, e))
no_rule_number Equal k h a0 a1 a2 a3 a4 a5 a6 a7 = (λ e. omega (arith, h, e), λ e. omega (arith, h, e), λ e. omega (arith, h, e), λ e. omega (arith, h, e), λ e. omega (arith, h, e), λ e. omega (arith, h, e), λ e. omega (arith, h, e), λ e. omega (arith, h, e))
no_rule_number Not k h a0 a1 a2 a3 a4 a5 a6 a7 = (λ e. omega (arith, h, e), λ e. omega (arith, h, e), λ e. omega (arith, h, e), λ e. omega (arith, h, e), λ e. omega (arith, h, e), λ e. omega (arith, h, e), λ e. omega (arith, h, e), λ e. omega (arith, h, e))
no_rule_number And k h a0 a1 a2 a3 a4 a5 a6 a7 = (λ e. omega (arith, h, e), λ e. omega (arith, h, e), λ e. omega (arith, h, e), λ e. omega (arith, h, e), λ e. omega (arith, h, e), λ e. omega (arith, h, e), λ e. omega (arith, h, e), λ e. omega (arith, h, e))
no_rule_number Or k h a0 a1 a2 a3 a4 a5 a6 a7 = (λ e. omega (arith, h, e), λ e. omega (arith, h, e), λ e. omega (arith, h, e), λ e. omega (arith, h, e), λ e. omega (arith, h, e), λ e. omega (arith, h, e), λ e. omega (arith, h, e), λ e. omega (arith, h, e))
no_rule_number Plus k h a0 a1 a2 a3 a4 a5 a6 a7 = (λ e. omega (arith, h, e), λ e. omega (arith, h, e), λ e. omega (arith, h, e), λ e. omega (arith, h, e), λ e. omega (arith, h, e), λ e. omega (arith, h, e), λ e. omega (arith, h, e), λ e. omega (arith, h, e))
no_rule_number Minus k h a0 a1 a2 a3 a4 a5 a6 a7 = (λ e. omega (arith, h, e), λ e. omega (arith, h, e), λ e. omega (arith, h, e), λ e. omega (arith, h, e), λ e. omega (arith, h, e), λ e. omega (arith, h, e), λ e. omega (arith, h, e), λ e. omega (arith, h, e))
no_rule_number Less k h a0 a1 a2 a3 a4 a5 a6 a7 = (λ e. omega (arith, h, e), λ e. omega (arith, h, e), λ e. omega (arith, h, e), λ e. omega (arith, h, e), λ e. omega (arith, h, e), λ e. omega (arith, h, e), λ e. omega (arith, h, e), λ e. omega (arith, h, e))
no_rule_number Skip k h a0 a1 a2 a3 a4 a5 a6 a7 = (λ e. omega (arith, h, e), λ e. omega (arith, h, e), λ e. omega (arith, h, e), λ e. omega (arith, h, e), λ e. omega (arith, h, e), λ e. omega (arith, h, e), λ e. omega (arith, h, e), λ e. omega (arith, h, e))
no_rule_number Set k h a0 a1 a2 a3 a4 a5 a6 a7 = absurd (a0 refl)
no_rule_number Both k h a0 a1 a2 a3 a4 a5 a6 a7 = absurd (a1 refl)
no_rule_number If k h a0 a1 a2 a3 a4 a5 a6 a7 = absurd (a2 refl)
no_rule_number Let k h a0 a1 a2 a3 a4 a5 a6 a7 = absurd (a3 refl)
no_rule_number Forall k h a0 a1 a2 a3 a4 a5 a6 a7 = absurd (a4 refl)
no_rule_number Import k h a0 a1 a2 a3 a4 a5 a6 a7 = absurd (a5 refl)
no_rule_number Release k h a0 a1 a2 a3 a4 a5 a6 a7 = absurd (a6 refl)
no_rule_number Choose k h a0 a1 a2 a3 a4 a5 a6 a7 = absurd (a7 refl)
no_rule_number Other k (inl l) a0 a1 a2 a3 a4 a5 a6 a7 = (λ e. omega (arith, l, e), λ e. omega (arith, l, e), λ e. omega (arith, l, e), λ e. omega (arith, l, e), λ e. omega (arith, l, e), λ e. omega (arith, l, e), λ e. omega (arith, l, e), λ e. omega (arith, l, e))
no_rule_number Other k (inr (inl p)) a0 a1 a2 a3 a4 a5 a6 a7 = (λ e. omega (arith, p.0, p.1, e), λ e. omega (arith, p.0, p.1, e), λ e. omega (arith, p.0, p.1, e), λ e. omega (arith, p.0, p.1, e), λ e. omega (arith, p.0, p.1, e), λ e. omega (arith, p.0, p.1, e), λ e. omega (arith, p.0, p.1, e), λ e. omega (arith, p.0, p.1, e))
no_rule_number Other k (inr (inr l)) a0 a1 a2 a3 a4 a5 a6 a7 = (λ e. omega (arith, l, e), λ e. omega (arith, l, e), λ e. omega (arith, l, e), λ e. omega (arith, l, e), λ e. omega (arith, l, e), λ e. omega (arith, l, e), λ e. omega (arith, l, e), λ e. omega (arith, l, e))
