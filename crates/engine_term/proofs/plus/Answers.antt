-- `plus` meets its contract.
use mathlib.Core.Path.{sym, ◌∙◌}
use native.Mathlib.Omega.{arith}
use borrow.Author.Tests.{lt-ltb, le-ltb}
use Rattle.engine.specs.Term.{apply}
use Rattle.engine_term.proofs.Values.{number_least}
use Rattle.engine_term.proofs.plus.Goals as goal

pub overflow_sub-sum : goal.overflow_sub-sum
overflow_sub-sum c = let a = c.args in omega (arith, number_least a.p a.y (sym c.is_number-then-is_number.ensures ∙ c.if-is_number-2.true))

pub returns-then-sum-p : goal.returns-then-sum-p
unfolding apply
returns-then-sum-p c = rw (sym c.is_number.ensures ∙ c.if-is_number.true, sym c.is_number-then-is_number.ensures ∙ c.if-is_number-2.true, lt-ltb _ _ c.if-sum-p.true)

pub returns-else-sum-p : goal.returns-else-sum-p
unfolding apply
returns-else-sum-p c = rw (sym c.is_number.ensures ∙ c.if-is_number.true, sym c.is_number-then-is_number.ensures ∙ c.if-is_number-2.true, le-ltb _ _ c.if-sum-p.false)

pub returns-else-is_number-2 : goal.returns-else-is_number-2
unfolding apply
returns-else-is_number-2 c = rw (sym c.is_number.ensures ∙ c.if-is_number.true, sym c.is_number-then-is_number.ensures ∙ c.if-is_number-2.false)

pub returns-else-is_number : goal.returns-else-is_number
unfolding apply
returns-else-is_number c = rw (sym c.is_number.ensures ∙ c.if-is_number.false)
