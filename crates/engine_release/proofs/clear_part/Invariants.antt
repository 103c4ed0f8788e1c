-- `clear_part` meets its contract.
use Prim.Native.Nat.{◌-◌}
use lib.ListN.{length}
use Rattle.engine_release.proofs.Upto.{Upto}
use Rattle.engine_release.proofs.clear_part.Given as goal

abbrev pub invariant-loop-i : goal.invariant-loop-i
invariant-loop-i l = Upto l.r l.initial.part l.initial.readers l.initial.writers l.i l.part l.readers l.writers

abbrev pub decreases-loop-i : goal.decreases-loop-i
decreases-loop-i l = length l.part - l.i
