-- `least_clash` meets its contract.
use Rattle.engine_clash.proofs.Rivals.{Looked, Tables}
use Rattle.engine_clash.proofs.least_clash.Given as goal

abbrev pub invariant-loop-j : goal.invariant-loop-j
invariant-loop-j l = Looked l.list l.most l.j l.least × Tables l.list l.j l.last l.prior
