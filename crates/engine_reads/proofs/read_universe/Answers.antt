-- `read_universe` meets its contract.
use native.Mathlib.Omega.{arith}
use Prim.Native.Nat.{◌<◌, ◌≤◌}
use Rattle.book.specs.Image.{low_program}
use Rattle.book.proofs.Held.{elements_held}
use Rattle.engine_term.proofs.Leaves.{at_one}
use Rattle.engine_term.proofs.Marking.{runs_as, runs_done}
use Rattle.engine.proofs.Picks.{universe_low, universe_high}
use Rattle.engine_reads.proofs.read_universe.Goals as goal

pub returns-then-x-elements : goal.returns-then-x-elements
returns-then-x-elements c =
    let a = c.args in
    let f = a.frame.now in
    let B = low_program f.image.now in
    let h : a.x < B.E = omega (arith, (elements_held _ _ c.elements.ensures).0, c.if-x-elements.true) in
    λ k. runs_as B f.contents.now f.bit _ _ c.read.result _ _ (universe_low B a.u a.x h) (c.read.ensures _ (at_one B a.u a.x k))

pub returns : goal.returns
returns c =
    let a = c.args in
    let f = a.frame.now in
    let B = low_program f.image.now in
    let h : B.E ≤ a.x = omega (arith, (elements_held _ _ c.elements.ensures).0, c.if-x-elements.false) in
    λ k. runs_as B f.contents.now f.bit _ _ 1 _ _ (universe_high B a.u a.x h) (runs_done B f.contents.now f.bit 1 _)
