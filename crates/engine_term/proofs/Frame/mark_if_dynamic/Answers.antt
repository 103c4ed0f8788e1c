-- `mark_if_dynamic` meets its contract.
use mathlib.Core.Path.{sym, ◌∙◌}
use Rattle.engine_term.proofs.Frame.mark_if_dynamic.Goals as goal

pub returns-then-is_dynamic_at : goal.returns-then-is_dynamic_at
returns-then-is_dynamic_at c = c.mark.ensures ∙ rw (sym c.is_dynamic_at.ensures ∙ c.if-is_dynamic_at.true)

pub returns-else-is_dynamic_at : goal.returns-else-is_dynamic_at
returns-else-is_dynamic_at c = rw (sym c.is_dynamic_at.ensures ∙ c.if-is_dynamic_at.false)
