-- The tables that the code fills for refusal 6: how often each node is used, counted to 2, and what stands around it.
use Rattle.std.specs.Prelude.{Bool, true, false, List, ℕ, zero, suc, ◌+◌, ◌/◌, ◌%◌, eqb, ltb, get_or, set, if◌then◌else◌}
use Rattle.std.specs.Int.Bits.{bit_or}
use Rattle.book.specs.declared.Node.{Node}
use Rattle.book.specs.Book.{Program, node_at, agent_at}
use Rattle.book.specs.Kinds.{is_node, is_binder, forall_kind}
use Rattle.book.specs.Scopes.{bit_of, misplaced}

-- ---- how often each node is used

-- a count plus 1, which stops at 2: that is already too many
abbrev pub one_more : ℕ → ℕ
one_more k = if ltb k 2 then k + 1 else k

-- the counts s with one use more of node x, if the test passes
abbrev pub use_added : Bool → ℕ → List ℕ → List ℕ
use_added true x s = set s x (one_more (get_or s x 0))
use_added false x s = s

-- the counts s with the operand places of node y
abbrev pub operands_counted : Node → List ℕ → List ℕ
operands_counted y s = use_added (is_node y.kind 2) y.c (use_added (is_node y.kind 1) y.b (use_added (is_node y.kind 0) y.a s))

-- the table s with 1 at the roots of the first i agents
unfoldable pub roots_counted : Program → ℕ → List ℕ → List ℕ
roots_counted B zero s = s
roots_counted B (suc i) s = set (roots_counted B i s) (agent_at B i).root 1

-- the counts s with the operand places of the first m nodes
unfoldable pub uses_counted : Program → ℕ → List ℕ → List ℕ
uses_counted B zero s = s
uses_counted B (suc m) s = operands_counted (node_at B m) (uses_counted B m s)

-- ---- what stands around a node, as one number: a bit for each variable bound there, 256 for each forall, which are counted to 2, and 1024 for each
-- node above it, which are counted to 32. A root has 0

-- the depth in the number v
abbrev pub depth_of : ℕ → ℕ
depth_of v = v / 1024 + 1

-- how many foralls the number v says
abbrev pub foralls_of : ℕ → ℕ
foralls_of v = v / 256 % 4

-- the variables that the number v says are bound
abbrev pub bound_of : ℕ → ℕ
bound_of v = v % 256

-- what stands around the operands a and b of a node that has v around it: one node more
abbrev pub scope_below : ℕ → ℕ
scope_below v = if ltb (v / 1024) 32 then v + 1024 else v

-- what stands around the c of node y: one forall more if y is a forall
abbrev pub in_forall : Node → ℕ → ℕ
in_forall y v = if eqb y.kind forall_kind then (if ltb (foralls_of v) 2 then v + 256 else v) else v

-- what stands around the c of node y: one variable more if y is a binder
abbrev pub in_binder : Node → ℕ → ℕ
in_binder y v = if is_binder y.kind then bit_or v (bit_of y.a) else v

-- what node y, which has v around it, gives its operands a and b
abbrev pub to_ab : Node → ℕ → ℕ
to_ab y v = scope_below v

-- what node y, which has v around it, gives its operand c
abbrev pub to_c : Node → ℕ → ℕ
to_c y v = in_binder y (in_forall y (scope_below v))

-- node n is at fault, by the table s of what stands around each node
abbrev pub misplaced_at : Program → List ℕ → ℕ → Bool
misplaced_at B s n = misplaced (node_at B n) (depth_of (get_or s n 0)) (foralls_of (get_or s n 0)) (bound_of (get_or s n 0))
