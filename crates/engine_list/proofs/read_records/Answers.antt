-- `read_records` meets its contract.
use Rattle.std.proofs.Common.{◌≡◌, arith, add-one}
use Rattle.engine_list.specs.Written.{through}
use Rattle.engine_list.proofs.Laws.{one_read}
use Rattle.engine_list.proofs.read_records.Goals as goal

pub loop-i-preserved : goal.loop-i-preserved
loop-i-preserved c =
    let l = c.loop-i in
    rw add-one (one_read l.i c.number_of.result c.args.list.now l.to (omega (arith, c.least-m.ensures)) (omega (arith, c.least-m.ensures)) c.number_of.ensures l.invariant)

pub returns : goal.returns
returns c =
    let l = c.loop-i in
    let e : l.i ≡ through c.args.n c.args.list.now c.args.to.now = omega (arith, c.least-m.ensures) in
    rw e at l.invariant
