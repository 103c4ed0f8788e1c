-- `least_clash` meets its contract.
use native.Mathlib.Omega.{arith}
use Rattle.book.specs.Image.{low_program}
use Rattle.engine_clash.proofs.Rivals.{looked_start, looked_next, looked_best, tables_start, tables_held, tables_next}
use Rattle.engine_clash.proofs.least_clash.Goals as goal

pub loop-j-init : goal.loop-j-init
loop-j-init c =
    let a = c.args in
    (looked_start a.list.now a.most, tables_start a.list.now)

pub loop-j-preserved : goal.loop-j-preserved
loop-j-preserved c =
    let l = c.loop-j.invariant in
    let s = c.slot-s.ensures.0 in
    let k = tables_held l.1 s c.last_at_slot.ensures in
    (rw c.least_with_update-least.ensures (looked_next _ l.0 c.loop-j-test.true k c.if-code-ge-RELEASES.false), tables_next l.1 s (omega arith))

pub returns : goal.returns
returns c =
    let a = c.args in
    looked_best (low_program a.image.now) a.contents.now c.loop-j-test.false c.loop-j.invariant.0
