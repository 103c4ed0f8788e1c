-- `has_argument` meets its contract.
use Rattle.engine_instruction.proofs.Strides.{has_by}
use Rattle.engine_instruction.proofs.has_argument.Goals as goal

pub returns : goal.returns
returns c = let a = c.args in has_by a.arity a.a.first a.a.second a.x
