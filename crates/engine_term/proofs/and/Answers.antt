-- `and` meets its contract.
use mathlib.Core.Path.{sym, ◌∙◌}
use borrow.Author.Tests.{eq-eqb, ne_eqb}
use Rattle.engine.specs.Term.{apply}
use Rattle.engine_term.proofs.Values.{truth_boolean}
use Rattle.engine_term.proofs.and.Goals as goal

pub returns-then-x-eq2 : goal.returns-then-x-eq2
unfolding apply
returns-then-x-eq2 c =
    let p = sym c.is_boolean-then-is_boolean.ensures ∙ c.if-is_boolean-2.true in
    rw (sym c.is_boolean.ensures ∙ c.if-is_boolean.true, p, eq-eqb _ _ c.if-x-eq2.true) (sym (truth_boolean _ p))

pub returns-else-x-eq2 : goal.returns-else-x-eq2
unfolding apply
returns-else-x-eq2 c = rw (sym c.is_boolean.ensures ∙ c.if-is_boolean.true, sym c.is_boolean-then-is_boolean.ensures ∙ c.if-is_boolean-2.true, ne_eqb _ _ c.if-x-eq2.false)

pub returns-else-is_boolean-2 : goal.returns-else-is_boolean-2
unfolding apply
returns-else-is_boolean-2 c = rw (sym c.is_boolean.ensures ∙ c.if-is_boolean.true, sym c.is_boolean-then-is_boolean.ensures ∙ c.if-is_boolean-2.false)

pub returns-else-is_boolean : goal.returns-else-is_boolean
unfolding apply
returns-else-is_boolean c = rw (sym c.is_boolean.ensures ∙ c.if-is_boolean.false)
