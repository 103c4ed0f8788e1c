-- `add_touching` meets its contract.
use Rattle.order_touch.proofs.Sets.{Sofar}
use Rattle.order_touch.proofs.add_touching.Given as goal

abbrev pub invariant-loop-left : goal.invariant-loop-left
invariant-loop-left l = Sofar l.readers l.writers l.initial.touching l.touching l.left

abbrev pub decreases-loop-left : goal.decreases-loop-left
decreases-loop-left l = l.left
