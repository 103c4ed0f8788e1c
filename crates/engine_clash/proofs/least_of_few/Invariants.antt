-- `least_of_few` meets its contract.
use Rattle.engine_clash.proofs.Rivals.{Looked}
use Rattle.engine_clash.proofs.least_of_few.Given as goal

abbrev pub invariant-loop-j : goal.invariant-loop-j
invariant-loop-j l = Looked l.list l.most l.j l.least
