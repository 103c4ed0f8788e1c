-- `clear_part` meets its contract.
use native.Mathlib.Omega.{arith}
use Rattle.engine_release.proofs.Upto.{upto_start, upto_pass, upto_one, upto_end}
use Rattle.engine_release.proofs.clear_part.Goals as goal

pub loop-i-init : goal.loop-i-init
loop-i-init c =
    let a = c.args in
    upto_start a.r a.part.now a.readers.now a.writers.now

pub loop-i-preserved : goal.loop-i-preserved
loop-i-preserved c =
    let a = c.args in
    let l = c.loop-i in
    let o = c.pass_over-i in
    upto_pass a.r a.part.now a.readers.now a.writers.now l.i l.part l.readers l.writers l.invariant o.result o.ensures.0 o.ensures.1 o.ensures.2

pub loop-i-preserved-then-i-part : goal.loop-i-preserved-then-i-part
loop-i-preserved-then-i-part c =
    let a = c.args in
    let l = c.loop-i in
    let o = c.pass_over-i in
    let one = c.clear_one in
    upto_one a.r a.part.now a.readers.now a.writers.now o.result l.part l.readers l.writers
    (upto_pass a.r a.part.now a.readers.now a.writers.now l.i l.part l.readers l.writers l.invariant o.result o.ensures.0 o.ensures.1 o.ensures.2)
    (omega (arith, l.invariant.contents.same, c.if-i-part.true))
    one.new.part one.new.readers one.new.writers one.ensures.part_after one.ensures.readers_after one.ensures.writers_after

pub returns : goal.returns
returns c =
    let a = c.args in
    let l = c.loop-i in
    let e = upto_end a.r a.part.now a.readers.now a.writers.now l.i l.part l.readers l.writers l.invariant (omega (arith, c.loop-i-test.false)) in
    record { part_after = e.0; writers_after = e.1.0; readers_after = e.1.1 }
