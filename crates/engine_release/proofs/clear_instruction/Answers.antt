-- An update reads nothing.
use Rattle.engine_term.specs.Marks.{marked}
use Rattle.engine_release.proofs.clear_instruction.Goals as goal

pub returns-in_default-clause-readers_after : goal.returns-in_default-clause-readers_after
unfolding marked
returns-in_default-clause-readers_after c = rw c.in_default.is
