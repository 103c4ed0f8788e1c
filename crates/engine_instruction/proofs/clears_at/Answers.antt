-- `clears_at` meets its contract.
use Rattle.engine_instruction.proofs.clears_at.Goals as goal

pub returns : goal.returns
returns c = rw (c.is_dynamic.ensures, c.has_argument.ensures)
