-- `dynamic_at` meets its contract.
use mathlib.Core.Path.{◌∙◌}
use Rattle.engine_term.proofs.dynamic_at.Goals as goal

pub returns : goal.returns
returns c = c.is_dynamic.ensures ∙ rw c.owner_of-owner.ensures
