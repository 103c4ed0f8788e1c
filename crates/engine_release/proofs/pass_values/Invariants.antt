-- None of the places passed holds the value.
use Rattle.std.proofs.Common.{◌≡◌, false, ℕ, ◌≤◌, ◌<◌, get_or}
use lib.Dec.{eqb}
use Rattle.engine_release.proofs.pass_values.Given as goal

abbrev pub invariant-loop-k : goal.invariant-loop-k
invariant-loop-k l = (j : ℕ) → l.i ≤ j → j < l.k → eqb (get_or l.part j 0) l.x ≡ false
