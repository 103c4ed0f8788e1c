-- `check_picks` meets its contract.
use mathlib.Core.Path.{◌≡◌}
use Prim.Native.Nat.{◌-◌}
use lib.ListN.{length}
use Rattle.text.specs.Words.{least_from, least}
use Rattle.book.specs.Image.{low_program}
use Rattle.engine.specs.Single.{bad_pick}
use Rattle.engine_step.proofs.check_picks.Given as goal

abbrev pub invariant-loop-j : goal.invariant-loop-j
invariant-loop-j l =
    least_from (bad_pick (low_program l.image) l.picks) (length l.picks - l.j) l.j ≡ least (bad_pick (low_program l.image) l.picks) (length l.picks)
