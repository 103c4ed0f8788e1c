-- `make_moves` meets its contract.
use Rattle.std.proofs.Common.{arith}
use Rattle.order_run.proofs.Reasons.{next_finished_own}
use Rattle.order_entry.proofs.Moves.{so_far, next_so_far, ends_so_far}
use Rattle.order_entry.proofs.make_moves.Goals as goal

pub loop-state-init : goal.loop-state-init
loop-state-init c = so_far c.args.image.now c.args.order.now c.args.first c.args.contents.now c.args.readers.now c.args.writers.now c.args.instructions.now

pub loop-state-preserved : goal.loop-state-preserved
loop-state-preserved c =
    let a = c.args in
    let l = c.loop-state in
    let b = c.begin_next-begun in
    let p = c.pass in
    let f = c.finish_next-state in
    next_so_far a.image.now a.order.now a.first a.contents.now a.readers.now a.writers.now a.instructions.now c.in-Next.next l.contents l.readers l.writers l.instructions
    (rw (← c.in-Next.is) l.invariant)
    f.result b.result b.new.list b.new.readers p.new.list p.new.work f.new.contents f.new.readers f.new.writers b.ensures p.ensures (next_finished_own _ _ _ _ _ _ _ _ f.ensures).0 l.auto.instructions (omega arith) (omega arith)

pub returns-in-Over : goal.returns-in-Over
returns-in-Over c =
    let a = c.args in
    let l = c.loop-state in
    ends_so_far a.image.now a.order.now a.first a.contents.now a.readers.now a.writers.now a.instructions.now c.in-Over.result l.contents l.readers l.writers l.instructions
    (rw (← c.in-Over.is) l.invariant)

pub loop-state-smaller : goal.loop-state-smaller
loop-state-smaller c = rw c.in-Next.is (omega (arith, c.finish_next-state.ensures.left))
