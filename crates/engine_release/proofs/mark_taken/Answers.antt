-- `mark_taken` meets its contract.
use mathlib.Core.Path.{◌∙◌}
use Rattle.engine_term.specs.Marks.{marked}
use Rattle.engine_release.proofs.mark_taken.Goals as goal

pub returns-then-p-held : goal.returns-then-p-held
unfolding marked
returns-then-p-held c = c.mark.ensures ∙ rw c.if-p-held.true

pub returns-else-p-held : goal.returns-else-p-held
unfolding marked
returns-else-p-held c = rw c.if-p-held.false
