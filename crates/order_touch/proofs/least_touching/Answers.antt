-- `least_touching` meets its contract.
use Rattle.order_touch.proofs.Best.{near_is}
use native.Mathlib.Omega.{arith}
use Rattle.order_touch.proofs.least_touching.Goals as goal

pub returns : goal.returns
returns c = near_is c.args.touching c.args.predecessors c.args.j (omega arith) (omega arith) c.requires
