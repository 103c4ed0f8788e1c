-- Refusal 10 from the table of an order, by sets of moves (SPECIFICATION 6.5).
use Rattle.std.specs.Prelude.{◌≡◌, Bool, true, ◌&&◌, not, List, ℕ, ◌%◌, ◌≤◌, ◌<◌, min, eqb}
use Rattle.text.specs.Words.{Checked}
use Rattle.text.specs.Refusals.{agent_unordered}
use Rattle.order.specs.Sets.{bit}
use Rattle.order.specs.Pairs.{ordered_by, least_pair, no_pair_at}
use Rattle.order.specs.Log.{most_moves}
use Rattle.order.specs.Table.{agent_in}

abbrev pub most_agents : ℕ
most_agents = 16

-- the agent of move i, modulo 16: no book has more agents
abbrev pub agent_below_16 : List ℕ → ℕ → ℕ
agent_below_16 t i = agent_in t i % most_agents

-- moves i and j are of one agent, and the table leaves them unordered
abbrev pub one_agent_unordered_in : List ℕ → ℕ → ℕ → Bool
one_agent_unordered_in t i j = eqb (agent_below_16 t i) (agent_below_16 t j) && not (ordered_by t i j)

-- Refusal 10: the least pair of the first m moves that are of one agent and unordered
unfoldable pub check_agents_in : List ℕ → ℕ → Checked (Unit {0})
check_agents_in t m = no_pair_at agent_unordered (least_pair (one_agent_unordered_in t) (min m most_moves))

-- r is the least move that is in the set `own` of one agent's moves and not in the set of predecessors; 64 for none
pub record LeastUnordered (own predecessors r : ℕ) : Type 0 where
  pub hit : r < 64 → (bit own r && not (bit predecessors r)) ≡ true
  pub low : (i : ℕ) → i < 64 → (bit own i && not (bit predecessors i)) ≡ true → r ≤ i
