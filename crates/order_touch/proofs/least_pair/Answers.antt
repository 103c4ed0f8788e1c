-- `least_pair` meets its contract.
use Rattle.order_touch.proofs.Best.{pair_found, pair_none}
use native.Mathlib.Omega.{arith}
use mathlib.Core.Path.{◌≡◌}
use Rattle.order_touch.proofs.least_pair.Invariants.{pairs}
use Rattle.order_touch.proofs.least_pair.Goals as goal

pub returns-then-first-lt-MOST_MOVES : goal.returns-then-first-lt-MOST_MOVES
returns-then-first-lt-MOST_MOVES c = let a = c.args in let l = c.loop-j in let e : l.j ≡ a.m = omega arith in pair_found (pairs a.order.now a.touching.now) a.m l.first l.second (rw e at l.invariant.1) c.if-first-lt-MOST_MOVES.true

pub returns-else-first-lt-MOST_MOVES : goal.returns-else-first-lt-MOST_MOVES
returns-else-first-lt-MOST_MOVES c = let a = c.args in let l = c.loop-j in let e : l.j ≡ a.m = omega arith in pair_none (pairs a.order.now a.touching.now) a.m l.first l.second c.requires (rw e at l.invariant.1) c.if-first-lt-MOST_MOVES.false
