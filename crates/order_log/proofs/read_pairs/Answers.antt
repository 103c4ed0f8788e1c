-- `read_pairs` meets its contract.
use borrow.Author.Tests.{not-true, not-false}
use mathlib.Core.Path.{refl}
use Rattle.order.specs.Log.{bad_pair}
use Rattle.order_lines.proofs.Loops.{turned_start, turned_stop, turned_turn, turned_end}
use Rattle.order_log.specs.Read.{pair_at, pair_put}
use Rattle.order_log.proofs.Parts.{left, left_all, left_turn, left_end}
use native.Mathlib.Omega.{arith}
use Rattle.order_log.proofs.read_pairs.Goals as goal

pub loop-i-init : goal.loop-i-init
loop-i-init c = turned_start _ _ _ _ _ _ _

pub returns-in_default : goal.returns-in_default
returns-in_default c = let a = c.args in let l = c.loop-i in let f = pair_at a.m a.log.now in
    rw (← left_all f a.n a.order.now) (turned_stop a.log.now a.m a.n (bad_pair a.m) (left f a.n) a.order.now l.i l.order l.before l.fault l.invariant c.loop-i-test.true c.parse.result c.parse.ensures c.in_default.is)

pub loop-i-preserved : goal.loop-i-preserved
loop-i-preserved c =
    let a = c.args in
    let l = c.loop-i in
    let p = c.parse in
    let f = pair_at a.m a.log.now in
    turned_turn a.log.now a.m a.n (bad_pair a.m) (left f a.n) a.order.now l.i l.order l.before l.fault l.invariant c.loop-i-test.true p.result p.ensures
    (λ j x. refl) _ c.in-Some.is c.bad_pair-bad.result c.bad_pair-bad.ensures c.or_here-fault.result c.or_here-fault.ensures c.put_pair.new.order
    (pair_put l.order c.in-Some.l.a c.in-Some.l.b) c.put_pair.ensures (λ e. rw e (left_turn f a.n l.i l.order c.loop-i-test.true))

pub returns : goal.returns
returns c = let a = c.args in let l = c.loop-i in let f = pair_at a.m a.log.now in
    rw (← left_all f a.n a.order.now) (turned_end a.log.now a.m a.n (bad_pair a.m) (left f a.n) a.order.now l.i l.order l.before l.fault l.invariant (omega arith) (left_end f a.n l.i l.order (omega arith)))
