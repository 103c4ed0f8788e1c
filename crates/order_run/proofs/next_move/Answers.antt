-- `next_move` meets its contract.
use Rattle.order_run.proofs.Stages.{turn_over}
use Rattle.std.proofs.Common.{arith}
use Rattle.order_run.proofs.next_move.Goals as goal

pub returns : goal.returns
returns c = let a = c.args in let w = c.min.ensures in record { next_move = λ m s d g en to. rw c.run_over.ensures (turn_over m a.order.now g s a.moves a.i en a.tally d a.readers.now a.writers.now to (omega (arith, c.if-i-min.false, w, en, to.runs.few)) c.check_order.result c.check_order.ensures); result_bound = rw c.run_over.ensures (omega arith) }
