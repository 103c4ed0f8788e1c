-- `check_agents` meets its contract.
use Prim.Native.Nat.{◌≤◌}
use Rattle.order.proofs.Best.{Best}
use Rattle.order_log.specs.Agents.{one_agent_unordered_in}
use Rattle.order_log.proofs.Agents.{Own}
use Rattle.order_log.proofs.check_agents.Given as goal

abbrev pub invariant-loop-j : goal.invariant-loop-j
invariant-loop-j l = (l.second ≤ 64) × Own l.order l.j l.own × Best (one_agent_unordered_in l.order) l.j l.first l.second
