-- `add_part` meets its contract.
use Rattle.order_touch.proofs.Sets.{all_turn}
use Rattle.order_touch.proofs.add_part.Goals as goal

pub loop-l-preserved : goal.loop-l-preserved
loop-l-preserved c = let a = c.args in let l = c.loop-l in all_turn a.readers.now a.writers.now l.l l.touching c.add_if_written.new.touching l.invariant c.add_if_written.ensures
