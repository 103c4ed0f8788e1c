-- `least_of_few` meets its contract.
use Rattle.book.specs.Image.{low_program}
use Rattle.engine_clash.proofs.Rivals.{looked_next, looked_best, last_alone}
use Rattle.engine_clash.proofs.least_of_few.Goals as goal

pub loop-j-preserved : goal.loop-j-preserved
loop-j-preserved c = rw c.least_with_update-least.ensures (looked_next _ c.loop-j.invariant c.loop-j-test.true (last_alone c.loop-j.auto.j-end c.last_before.ensures) c.if-code-ge-RELEASES.false)

pub returns : goal.returns
returns c =
    let a = c.args in
    looked_best (low_program a.image.now) a.contents.now c.loop-j-test.false c.loop-j.invariant
