-- `read_bounded` meets its contract.
use Rattle.order_lines.proofs.Loops.{turned_start, turned_stop, turned_turn, turned_end, left, left_all, left_turn, left_end}
use Rattle.order.specs.Log.{choice_at}
use Rattle.order_lines.specs.Lines.{pick_put}
use Rattle.order.specs.Log.{bad_choice}
use native.Mathlib.Omega.{arith}
use mathlib.Core.Path.{refl}
use borrow.Author.Tests.{not-true, not-false}
use Rattle.order_lines.proofs.read_bounded.Goals as goal

pub loop-i-init : goal.loop-i-init
loop-i-init c = turned_start _ _ _ _ _ _ _

pub returns-in_default : goal.returns-in_default
returns-in_default c = let a = c.args in let l = c.loop-i in let f = choice_at a.k a.log.now in
    rw (← left_all f a.n a.order.now) (turned_stop a.log.now a.k a.n (bad_choice a.elements a.m) (left f a.n) a.order.now l.i l.order l.before l.fault l.invariant c.loop-i-test.true c.parse.result c.parse.ensures c.in_default.is)

pub loop-i-preserved : goal.loop-i-preserved
loop-i-preserved c =
    let a = c.args in
    let l = c.loop-i in
    let p = c.parse in
    let f = choice_at a.k a.log.now in
    turned_turn a.log.now a.k a.n (bad_choice a.elements a.m) (left f a.n) a.order.now l.i l.order l.before l.fault l.invariant c.loop-i-test.true p.result p.ensures
    (λ j x. refl) _ c.in-Some.is c.bad_choice-bad.result c.bad_choice-bad.ensures c.or_here-fault.result c.or_here-fault.ensures c.put_pick.new.order
    (pick_put l.order l.i c.in-Some.l.a c.in-Some.l.b) c.put_pick.ensures (λ e. rw e (left_turn f a.n l.i l.order c.loop-i-test.true))

pub returns : goal.returns
returns c = let a = c.args in let l = c.loop-i in let f = choice_at a.k a.log.now in
    rw (← left_all f a.n a.order.now) (turned_end a.log.now a.k a.n (bad_choice a.elements a.m) (left f a.n) a.order.now l.i l.order l.before l.fault l.invariant (omega arith) (left_end f a.n l.i l.order (omega arith)))
