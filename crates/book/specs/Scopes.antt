-- Refusal 6, binding, depth and nesting: each node, from the highest on, gives its operands what stands around them: their depth, the variables bound there
-- and the foralls around them (SPECIFICATION 2.8, 3.7).
use Rattle.std.specs.Prelude.{Bool, true, false, ◌&&◌, ◌||◌, not, List, [], ◌∷◌, ℕ, zero, suc, ◌+◌, ◌-◌, eqb, ltb, leb, length, get_or, set, replicate, if◌then◌else◌}
use Rattle.std.specs.Int.Bits.{bit_or, bit_and}
use Rattle.book.specs.declared.Node.{Node}
use Rattle.book.specs.Book.{Program, node_at}
use Rattle.book.specs.Kinds.{is_node, is_binder, variable_kind, forall_kind}

abbrev pub most_depth : ℕ
most_depth = 32

abbrev pub most_foralls : ℕ
most_foralls = 2

-- a set of variables is a number with a bit for each of the eight; these are the bits
abbrev pub bits : List ℕ
bits = 1 ∷ 2 ∷ 4 ∷ 8 ∷ 16 ∷ 32 ∷ 64 ∷ 128 ∷ []

-- the bit of variable v
unfoldable pub bit_of : ℕ → ℕ
bit_of v = get_or bits v 0

-- the set s has variable v
abbrev pub binds : ℕ → ℕ → Bool
binds s v = not (eqb (bit_and s (bit_of v)) 0)

-- ---- what a node gives its operands

-- the list s with v at place x, if the test passes
abbrev pub put_if : Bool → ℕ → ℕ → List ℕ → List ℕ
put_if true x v s = set s x v
put_if false x v s = s

-- the table s after node y has given v to its operands a and b, and w to its operand c
unfoldable pub operands_given : Node → ℕ → ℕ → List ℕ → List ℕ
operands_given y v w s = put_if (is_node y.kind 2) y.c w (put_if (is_node y.kind 1) y.b v (put_if (is_node y.kind 0) y.a v s))

-- The table s after the highest k nodes have given their operands what stands around them: from what a node has, `ab` says what its operands a and b get,
-- and `c` what its c gets
unfoldable pub all_given : Program → (Node → ℕ → ℕ) → (Node → ℕ → ℕ) → ℕ → List ℕ → List ℕ
all_given B ab c zero s = s
all_given B ab c (suc k) s =
    let t = all_given B ab c k s in
    let m = length B.nodes - suc k in
    let y = node_at B m in
    operands_given y (ab y (get_or t m 0)) (c y (get_or t m 0)) t

-- ---- what stands around each node: a root has depth 1, no forall around it and no variable bound

-- an operand is one deeper than the node that names it
abbrev pub deeper : Node → ℕ → ℕ
deeper y v = v + 1

-- an operand has around it what the node has
abbrev pub as_it_is : Node → ℕ → ℕ
as_it_is y v = v

-- in the c of a forall there is one forall more
abbrev pub forall_more : Node → ℕ → ℕ
forall_more y v = if eqb y.kind forall_kind then v + 1 else v

-- in the c of a binder its variable is bound
unfoldable pub bound_more : Node → ℕ → ℕ
bound_more y s = if is_binder y.kind then bit_or s (bit_of y.a) else s

-- the depth of each node
abbrev pub depths : Program → List ℕ
depths B = all_given B deeper deeper (length B.nodes) (replicate (length B.nodes) 1)

-- how many foralls stand around each node
abbrev pub foralls : Program → List ℕ
foralls B = all_given B as_it_is forall_more (length B.nodes) (replicate (length B.nodes) 0)

-- the variables bound at each node
abbrev pub bounds : Program → List ℕ
bounds B = all_given B as_it_is bound_more (length B.nodes) (replicate (length B.nodes) 0)

-- ---- nodes at fault

-- node y, with this around it, is at fault: an unbound variable, a binder of a variable already bound, a node too deep, or a third nested forall
unfoldable pub misplaced : Node → ℕ → ℕ → ℕ → Bool
misplaced y depth foralls bound =
    eqb y.kind variable_kind && not (binds bound y.a)
    || is_binder y.kind && binds bound y.a
    || ltb most_depth depth
    || eqb y.kind forall_kind && leb most_foralls foralls

-- node n is at fault by the tables of depths, foralls and bound variables
abbrev pub misplaced_by : Program → List ℕ → List ℕ → List ℕ → ℕ → Bool
misplaced_by B ds fs bs n = misplaced (node_at B n) (get_or ds n 0) (get_or fs n 0) (get_or bs n 0)

-- Refusal 6, binding, depth and nesting: node n is at fault
abbrev pub bad_scope : Program → ℕ → Bool
bad_scope B = misplaced_by B (depths B) (foralls B) (bounds B)
