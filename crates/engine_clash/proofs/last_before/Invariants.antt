-- From i on no update has the location.
use lib.ListN.{length}
use Rattle.engine_clash.proofs.Rivals.{Down}
use Rattle.engine_clash.proofs.last_before.Given as goal

abbrev pub invariant-loop-i : goal.invariant-loop-i
invariant-loop-i l = Down l.list l.code (length l.list) l.i
