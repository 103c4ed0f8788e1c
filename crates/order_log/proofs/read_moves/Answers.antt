-- `read_moves` meets its contract.
use borrow.Author.Tests.{not-true, not-false}
use Rattle.order_log.proofs.Loops.{moved_start, moved_stop, moved_turn, moved_end}
use native.Mathlib.Omega.{arith}
use Rattle.order_log.proofs.read_moves.Goals as goal

pub loop-i-init : goal.loop-i-init
loop-i-init c = moved_start c.args.agents c.args.log.now c.args.m c.args.order.now c.requires.1

pub returns-in_default : goal.returns-in_default
returns-in_default c = let a = c.args in let l = c.loop-i in moved_stop a.agents a.log.now a.m l.i l.order l.fault l.invariant c.loop-i-test.true c.parse.result c.parse.ensures c.in_default.is

pub loop-i-preserved : goal.loop-i-preserved
loop-i-preserved c =
    let a = c.args in
    let l = c.loop-i in
    let p = c.parse in
    moved_turn a.agents a.log.now a.m l.i l.order l.fault l.invariant c.loop-i-test.true p.result p.ensures c.requires.0
    _ c.in-Some.is c.bad_move.result c.bad_move.ensures c.or_here-fault.result c.or_here-fault.ensures

pub returns : goal.returns
returns c = let a = c.args in let l = c.loop-i in moved_end a.agents a.log.now a.m l.i l.order l.fault l.invariant (omega arith)
