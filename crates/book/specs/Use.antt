-- Refusal 6, use: each node is used exactly once, as a root or as an operand (SPECIFICATION 2.8, 3.6).
use Rattle.std.specs.Prelude.{Bool, ◌&&◌, not, ℕ, zero, suc, ◌+◌, eqb, length}
use Rattle.text.specs.Words.{one_if, some_below}
use Rattle.book.specs.declared.Node.{Node}
use Rattle.book.specs.Book.{Program, node_at, agent_at}
use Rattle.book.specs.Kinds.{is_node}

-- an agent line names n as its root, whether or not the line itself is at fault
abbrev pub is_root : Program → ℕ → Bool
is_root B n = some_below (λ i. eqb (agent_at B i).root n) (length B.agents)

-- how many operand places of node y have n
abbrev pub places : Node → ℕ → ℕ
places y n = one_if (is_node y.kind 0 && eqb y.a n) + one_if (is_node y.kind 1 && eqb y.b n) + one_if (is_node y.kind 2 && eqb y.c n)

-- how many operand places of the first m nodes have n
unfoldable pub uses : Program → ℕ → ℕ → ℕ
uses B n zero = 0
uses B n (suc m) = uses B n m + places (node_at B m) n

-- Refusal 6, use: node n is not used exactly once
unfoldable pub bad_use : Program → ℕ → Bool
bad_use B n = not (eqb (one_if (is_root B n) + uses B n (length B.nodes)) 1)
