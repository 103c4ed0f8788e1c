-- `last_column` meets its contract.
use Rattle.text.proofs.Fields.{one_digit, no_digit}
use mathlib.Core.Path.{sym, ◌∙◌}
use Rattle.text.proofs.last_column.Goals as goal

pub returns-then-is_digit : goal.returns-then-is_digit
returns-then-is_digit c = one_digit _ (sym c.is_digit.ensures ∙ c.if-is_digit.true)

pub returns-else-is_digit : goal.returns-else-is_digit
returns-else-is_digit c = no_digit _ (sym c.is_digit.ensures ∙ c.if-is_digit.false)
