-- `touching_sets` meets its contract: what touches in a block is added, or no move writes in it.
use Rattle.order_touch.specs.Marked.{TouchSets}
use Prim.Native.Nat.{min}
use Rattle.order_touch.proofs.touching_sets.Given as goal

abbrev pub invariant-loop-a : goal.invariant-loop-a
invariant-loop-a l = TouchSets l.readers l.writers (min l.a l.n) l.touching
