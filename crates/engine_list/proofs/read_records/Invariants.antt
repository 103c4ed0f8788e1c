-- The first i numbers stand for the first i records.
use Rattle.engine_list.proofs.Laws.{Stands}
use Rattle.engine_list.proofs.read_records.Given as goal

abbrev pub invariant-loop-i : goal.invariant-loop-i
invariant-loop-i l = Stands l.list l.to l.i
