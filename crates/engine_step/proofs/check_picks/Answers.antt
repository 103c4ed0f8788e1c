-- `check_picks` meets its contract.
use mathlib.Core.Path.{◌≡◌, ap, ◌∙◌}
use Rattle.text.specs.Words.{told}
use mathlib.Core.Bool.{true, false}
use native.Mathlib.Omega.{arith}
use lib.ListN.{length, get_or}
use borrow.Author.Tests.{lt-ltb, le-ltb}
use Rattle.text.proofs.Words.{least_pass, least_stop, least_end}
use Rattle.book.specs.Image.{low_program}
use Rattle.book.proofs.Held.{elements_held}
use Rattle.engine.specs.Single.{bad_pick}
use Rattle.engine_step.proofs.Checks.{pick_bad, picks_fine}
use Rattle.engine_step.proofs.check_picks.Goals as goal

pub returns-then-e-pick : goal.returns-then-e-pick
returns-then-e-pick c =
    let a = c.args in
    let B = low_program a.image.now in
    let ys = a.picks.now in
    let j = c.loop-j.j in
    let e = (elements_held _ _ c.elements-e.ensures).0 in
    let h : bad_pick B ys j ≡ true = rw (le-ltb (get_or ys j 0) B.E (omega (arith, e, c.if-e-pick.true))) in
    ap told c.refused.ensures ∙ rw c.place_of.ensures (pick_bad B ys j (least_stop (bad_pick B ys) (length ys) j c.loop-j-test.true h c.loop-j.invariant))

pub loop-j-preserved : goal.loop-j-preserved
loop-j-preserved c =
    let a = c.args in
    let B = low_program a.image.now in
    let ys = a.picks.now in
    let j = c.loop-j.j in
    let e = (elements_held _ _ c.elements-e.ensures).0 in
    let h : bad_pick B ys j ≡ false = rw (lt-ltb (get_or ys j 0) B.E (omega (arith, e, c.if-e-pick.false))) in
    least_pass (bad_pick B ys) (length ys) j c.loop-j-test.true h c.loop-j.invariant

pub returns : goal.returns
returns c =
    let a = c.args in
    let B = low_program a.image.now in
    let ys = a.picks.now in
    let l = c.loop-j in
    picks_fine B ys (least_end (bad_pick B ys) (length ys) l.j c.loop-j-test.false l.invariant)
