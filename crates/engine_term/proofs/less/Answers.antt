-- `less` meets its contract.
use mathlib.Core.Path.{sym, ◌∙◌}
use Rattle.engine.specs.Term.{apply}
use Rattle.engine_term.proofs.less.Goals as goal

pub returns-then-is_number-2 : goal.returns-then-is_number-2
unfolding apply
returns-then-is_number-2 c = c.truth.ensures ∙ rw (sym c.is_number.ensures ∙ c.if-is_number.true, sym c.is_number-then-is_number.ensures ∙ c.if-is_number-2.true)

pub returns-else-is_number-2 : goal.returns-else-is_number-2
unfolding apply
returns-else-is_number-2 c = rw (sym c.is_number.ensures ∙ c.if-is_number.true, sym c.is_number-then-is_number.ensures ∙ c.if-is_number-2.false)

pub returns-else-is_number : goal.returns-else-is_number
unfolding apply
returns-else-is_number c = rw (sym c.is_number.ensures ∙ c.if-is_number.false)
