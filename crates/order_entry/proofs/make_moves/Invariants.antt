-- The run is so far; and the moves that are left fall.
use Rattle.order_run.specs.Stages.{moves_left}
use Rattle.order_entry.proofs.Moves.{SoFar}
use Rattle.order_entry.proofs.make_moves.Given as goal

abbrev pub invariant-loop-state : goal.invariant-loop-state
invariant-loop-state l = SoFar l.image l.order l.fn.first l.initial.contents l.initial.readers l.initial.writers l.initial.instructions l.state l.contents l.readers l.writers l.instructions

abbrev pub decreases-loop-state : goal.decreases-loop-state
decreases-loop-state l = moves_left l.state
