-- `read_moves` meets its contract.
use Rattle.order_log.proofs.Loops.{Moved}
use Rattle.order_log.proofs.read_moves.Given as goal

abbrev pub invariant-loop-i : goal.invariant-loop-i
invariant-loop-i l = Moved l.agents l.log l.m l.i l.order l.fault
