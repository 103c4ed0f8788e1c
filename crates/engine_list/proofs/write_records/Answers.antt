-- `write_records` meets its contract.
use Rattle.std.proofs.Common.{◌∙◌, arith, add-one, sym}
use Rattle.engine_list.proofs.Laws.{none_written, one_written, all_written}
use Rattle.engine_list.proofs.write_records.Goals as goal

pub loop-i-init : goal.loop-i-init
loop-i-init c = sym (none_written c.args.from.now c.args.list.now)

pub loop-i-preserved : goal.loop-i-preserved
loop-i-preserved c =
    let l = c.loop-i in
    let next = one_written l.i c.args.from.now c.args.list.now (omega (arith, c.least-m.ensures)) (omega (arith, c.least-m.ensures)) in
    rw (add-one, c.record_of.ensures, l.invariant) next

pub returns : goal.returns
returns c =
    let l = c.loop-i in
    l.invariant ∙ all_written l.i c.args.n c.args.from.now c.args.list.now (omega (arith, c.least-m.ensures)) (λ a b d. omega (arith, c.least-m.ensures))
