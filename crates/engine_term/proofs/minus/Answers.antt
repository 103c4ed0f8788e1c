-- `minus` meets its contract.
use mathlib.Core.Path.{sym, ◌∙◌}
use native.Mathlib.Omega.{arith}
use borrow.Author.Tests.{le-leb, lt-leb}
use Rattle.engine.specs.Term.{apply}
use Rattle.engine_term.proofs.Values.{number_least}
use Rattle.engine_term.proofs.minus.Goals as goal

pub overflow_add-result : goal.overflow_add-result
overflow_add-result c = let a = c.args in omega (arith, number_least a.p a.y (sym c.is_number-then-is_number.ensures ∙ c.if-is_number-2.true))

pub returns-then-y-x : goal.returns-then-y-x
unfolding apply
returns-then-y-x c = rw (sym c.is_number.ensures ∙ c.if-is_number.true, sym c.is_number-then-is_number.ensures ∙ c.if-is_number-2.true, le-leb _ _ c.if-y-x.true)

pub returns-else-y-x : goal.returns-else-y-x
unfolding apply
returns-else-y-x c = rw (sym c.is_number.ensures ∙ c.if-is_number.true, sym c.is_number-then-is_number.ensures ∙ c.if-is_number-2.true, lt-leb _ _ c.if-y-x.false)

pub returns-else-is_number-2 : goal.returns-else-is_number-2
unfolding apply
returns-else-is_number-2 c = rw (sym c.is_number.ensures ∙ c.if-is_number.true, sym c.is_number-then-is_number.ensures ∙ c.if-is_number-2.false)

pub returns-else-is_number : goal.returns-else-is_number
unfolding apply
returns-else-is_number c = rw (sym c.is_number.ensures ∙ c.if-is_number.false)
