-- `add_part` meets its contract.
use Rattle.order_touch.specs.Marked.{TouchSets}
use Rattle.order_touch.proofs.add_part.Given as goal

abbrev pub invariant-loop-l : goal.invariant-loop-l
invariant-loop-l l = TouchSets l.readers l.writers l.l l.touching
