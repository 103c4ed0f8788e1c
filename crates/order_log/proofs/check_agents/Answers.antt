-- `check_agents` meets its contract.
use mathlib.Core.Path.{◌≡◌}
use Prim.Native.Nat.{◌<◌}
use Rattle.order.proofs.Best.{best_start, best_new, best_old}
use Rattle.order_log.specs.Agents.{one_agent_unordered_in}
use Rattle.order_log.proofs.Agents.{own_start, own_turn, own_hit, own_low, ten}
use native.Mathlib.Omega.{arith}
use borrow.Author.Rules.{rules}
use Rattle.text.specs.Words.{told}
use Rattle.order_log.proofs.check_agents.Goals as goal
use Rattle.order_log.proofs.check_agents.Goals.{then-i-first, else-i-first}

pub loop-j-init : goal.loop-j-init
loop-j-init c = (search rules, own_start _, best_start _)

pub loop-j-preserved : goal.loop-j-preserved
loop-j-preserved c =
    let o = c.args.order.now in
    let l = c.loop-j in
    let n = c.least_unordered-i in
    let lim : l.j < 64 = omega (arith, c.min-m.ensures) in
    let hit = own_hit o l.j l.own lim l.invariant.1 n.result n.ensures in
    let low = own_low o l.j l.own lim l.invariant.1 n.result n.ensures in
    elim c.if-i-first.branch [
      | then-i-first y ↦ rw (y.first-is, y.second-is) (omega arith, own_turn o l.j l.own lim l.invariant.1, best_new (one_agent_unordered_in o) l.j l.first l.second n.result lim l.invariant.2 hit low y.if-i-first.true)
      | else-i-first y ↦ rw (y.first-is, y.second-is) (omega arith, own_turn o l.j l.own lim l.invariant.1, best_old (one_agent_unordered_in o) l.j l.first l.second n.result lim l.invariant.2 hit low y.if-i-first.false)
    ]

pub returns : goal.returns
returns c =
    let a = c.args in
    let l = c.loop-j in
    let e : l.j ≡ c.min-m.result = omega arith in
    ten a.order.now c.min-m.result l.first l.second a.moves (told c.must.result) c.min-m.ensures (rw e at l.invariant.2) c.must.ensures
