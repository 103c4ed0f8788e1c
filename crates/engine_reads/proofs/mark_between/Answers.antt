-- `mark_between` meets its contract.
use Rattle.engine_reads.proofs.Parts.{part_marked}
use Rattle.engine_reads.proofs.mark_between.Goals as goal

pub returns : goal.returns
returns c = let a = c.args in part_marked a.bit a.first a.end c.min-start.result c.min-stop.result a.readers.now c.mark_part.new.part c.min-stop.ensures c.min-start.ensures c.mark_part.ensures
