-- `mark_put` meets its contract.
use Prim.Native.Nat.{◌≤◌, min}
use native.Mathlib.Omega.{arith}
use borrow.Author.Tests.{le-ltb}
use lib.ListN.{length}
use Rattle.engine_term.specs.Marks.{marked}
use Rattle.engine_fire.proofs.mark_put.Goals as goal

pub returns-else-at-e : goal.returns-else-at-e
unfolding marked
returns-else-at-e c =
    let a = c.args in
    let outside : min a.end (length a.contents.now) ≤ a.at = omega (arith, c.if-at-e.false, c.min-e.ensures) in
    rw (le-ltb a.at (min a.end (length a.contents.now)) outside)
