-- `read_bounded` meets its contract.
use Rattle.order_lines.proofs.Loops.{Turned, left}
use Rattle.order.specs.Log.{choice_at}
use Rattle.order.specs.Log.{bad_choice}
use Rattle.order_lines.proofs.read_bounded.Given as goal

abbrev pub invariant-loop-i : goal.invariant-loop-i
invariant-loop-i l = Turned l.log l.k l.n (bad_choice l.elements l.m) (left (choice_at l.k l.log) l.n) l.initial.order l.i l.order l.before l.fault
