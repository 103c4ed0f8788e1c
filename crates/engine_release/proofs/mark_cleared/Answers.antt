-- `mark_cleared` meets its contract.
use mathlib.Core.Path.{◌∙◌}
use Rattle.engine_term.specs.Marks.{marked}
use Rattle.engine_release.proofs.mark_cleared.Goals as goal

pub returns : goal.returns
unfolding marked
returns c = c.mark_taken.ensures ∙ rw (c.default_of-d.ensures, c.mark.ensures)
