-- `read_pairs` meets its contract.
use Rattle.order.specs.Log.{bad_pair}
use Rattle.order_lines.proofs.Loops.{Turned}
use Rattle.order_log.specs.Read.{pair_at}
use Rattle.order_log.proofs.Parts.{left}
use Rattle.order_log.proofs.read_pairs.Given as goal

abbrev pub invariant-loop-i : goal.invariant-loop-i
invariant-loop-i l = Turned l.log l.m l.n (bad_pair l.m) (left (pair_at l.m l.log) l.n) l.initial.order l.i l.order l.before l.fault
