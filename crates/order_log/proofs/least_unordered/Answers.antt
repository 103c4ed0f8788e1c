-- `least_unordered` meets its contract.
use Rattle.order_log.proofs.Agents.{nearest_is}
use native.Mathlib.Omega.{arith}
use Rattle.order_log.proofs.least_unordered.Goals as goal

pub returns : goal.returns
returns c = nearest_is c.args.own c.args.predecessors (omega arith)
