-- The order of a log and its picks as the code holds them, in one table: for each of 64 moves the set of its predecessors, then for each its agent, then the
-- number of its first pick, then the number after its last; then 256 picks.
use Rattle.std.specs.Prelude.{◌≡◌, List, ℕ, ◌+◌, ◌-◌, ◌<◌, length, get_or, take, drop}
use Rattle.engine.specs.Move.{Input, input}
use Rattle.order.specs.Pairs.{predecessors}
use Rattle.order.specs.Log.{Log, most_moves, move_at}

-- the set of the predecessors of move j
abbrev pub predecessors_in : List ℕ → ℕ → ℕ
predecessors_in t j = get_or t j 0

-- the agent of move i
abbrev pub agent_in : List ℕ → ℕ → ℕ
agent_in t i = get_or t (most_moves + i) 0

-- the number of the first pick of move i
abbrev pub first_in : List ℕ → ℕ → ℕ
first_in t i = get_or t (128 + i) 0

-- the number after the last pick of move i
abbrev pub end_in : List ℕ → ℕ → ℕ
end_in t i = get_or t (192 + i) 0

-- the picks of move i
abbrev pub picks_in : List ℕ → ℕ → List ℕ
picks_in t i = take (end_in t i - first_in t i) (drop (256 + first_in t i) t)

-- what move i is made with: its agent and its picks
abbrev pub input_in : List ℕ → ℕ → Input
input_in t i = input (agent_in t i) (picks_in t i)

-- the table t is that of the log g
pub record OrderTable (g : Log) (t : List ℕ) : Type 0 where
  pub predecessors : (j : ℕ) → j < length g.moves → predecessors_in t j ≡ get_or (predecessors g.pairs (length g.moves)) j 0
  pub agents : (i : ℕ) → i < length g.moves → agent_in t i ≡ (move_at g i).agent
  pub picks : (i : ℕ) → i < length g.moves → picks_in t i ≡ (move_at g i).picks
