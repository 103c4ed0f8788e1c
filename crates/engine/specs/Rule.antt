-- Rules: the tree that a node stands for, and the walk that gives a move's instructions or meets one of refusals 11 to 14, 18 and 19
-- (SPECIFICATION 4.2 to 4.6; Lipari Guide 3.1, 3.2, 4.1 and 5.3).
use Rattle.std.specs.Prelude.{Option, None, Some}
use Rattle.std.specs.Prelude.{Bool, true, false, ◌&&◌, ◌||◌, not, List, [], ◌∷◌, ◌++◌, ℕ, zero, suc, ◌-◌, eqb, ltb, leb, length, get_or, set, if◌then◌else◌}
use Rattle.text.specs.Refusals.{non_boolean, not_releasable, no_label_left, list_full, not_in_universe, pick_count}
use Rattle.book.specs.declared.Node.{Node}
use Rattle.book.specs.Book.{true_element, false_element, boolean, relation, Program, location, reserve, function_at, node_at, agent_at}
use Rattle.book.specs.Scopes.{most_depth}
use Rattle.engine.specs.declared.Instruction.{Instruction}
use Rattle.engine.specs.declared.Instruction.TheVariants.{Update, Release}
use Rattle.engine.specs.Reader.{Reader, done, read, ◌>>=◌}
use Rattle.engine.specs.Term.{Term, term_at, eval, target, function_of}

-- A rule, as a tree. One that can be refused has its node first; assign is kind 21, block 22, test 23, bind 24
pub data Rule : Type 0 where
  skip : Rule
  assign : ℕ → Term → Term → Rule
  block : Rule → Rule → Rule
  test : Term → Rule → Rule → Rule
  bind : ℕ → Term → Rule → Rule
  for_all : ℕ → ℕ → Rule → Rule
  import : ℕ → ℕ → ℕ → Rule → Rule
  release : ℕ → Term → Rule
  choose : ℕ → ℕ → ℕ → Rule → Rule

-- which rule a node is
pub data RuleShape : Type 0 where
  a_skip an_assign a_Block a_test a_bind a_for_all an_import a_release a_choose no_rule : RuleShape

-- the shapes of kinds 20 to 28
abbrev pub rule_shapes : List RuleShape
rule_shapes = a_skip ∷ an_assign ∷ a_Block ∷ a_test ∷ a_bind ∷ a_for_all ∷ an_import ∷ a_release ∷ a_choose ∷ []

-- the shape of a node; that of no rule if its kind is none
abbrev pub rule_shape : Node → RuleShape
rule_shape x = if leb 20 x.kind then get_or rule_shapes (x.kind - 20) no_rule else no_rule

-- The rule that node n, of this shape, stands for, built at most d nodes deep. A rule on the last level can have no operand: it is skip.
unfoldable pub rule_tree : (ℕ → Node) → ℕ → RuleShape → ℕ → Node → Rule
rule_tree ns zero s n x = skip
rule_tree ns (suc zero) s n x = skip
rule_tree ns (suc (suc d)) no_rule n x = skip
rule_tree ns (suc (suc d)) a_skip n x = skip
rule_tree ns (suc (suc d)) an_assign n x = assign n (term_at ns (suc d) x.a) (term_at ns (suc d) x.b)
rule_tree ns (suc (suc d)) a_Block n x =
    let a = ns x.a in
    let b = ns x.b in
    block (rule_tree ns (suc d) (rule_shape a) x.a a) (rule_tree ns (suc d) (rule_shape b) x.b b)
rule_tree ns (suc (suc d)) a_test n x =
    let b = ns x.b in
    let c = ns x.c in
    test (term_at ns (suc d) x.a) (rule_tree ns (suc d) (rule_shape b) x.b b) (rule_tree ns (suc d) (rule_shape c) x.c c)
rule_tree ns (suc (suc d)) a_bind n x =
    let c = ns x.c in
    bind x.a (term_at ns (suc d) x.b) (rule_tree ns (suc d) (rule_shape c) x.c c)
rule_tree ns (suc (suc d)) a_for_all n x =
    let c = ns x.c in
    for_all x.a x.b (rule_tree ns (suc d) (rule_shape c) x.c c)
rule_tree ns (suc (suc d)) an_import n x =
    let c = ns x.c in
    import n x.a x.b (rule_tree ns (suc d) (rule_shape c) x.c c)
rule_tree ns (suc (suc d)) a_release n x = release n (term_at ns (suc d) x.a)
rule_tree ns (suc (suc d)) a_choose n x =
    let c = ns x.c in
    choose n x.a x.b (rule_tree ns (suc d) (rule_shape c) x.c c)

-- the rule at node n
abbrev pub rule_from : (ℕ → Node) → ℕ → ℕ → Rule
rule_from ns d n = rule_tree ns d (rule_shape (ns n)) n (ns n)

-- the rule that node n stands for, built as deep as a book may be
abbrev pub rule_at : (ℕ → Node) → ℕ → Rule
rule_at ns n = rule_from ns most_depth n

-- ---- the walk's state, and the four ways to go on: read, give an instruction, take a label, take a pick

-- How far a walk is: the instructions so far, in order; the first label after those taken (labels are taken lowest first, so those on the roll that are not
-- yet taken are the ones from there on); and the picks that are left.
pub record Walk : Type 0 where
  pub made : List Instruction
  pub next : ℕ
  pub left : List ℕ

-- what a walk comes to: it goes on, or has met a refusal, with its number and its node
pub data Walked : Type 0 where
  walking : Walk → Walked
  refused_at : ℕ → ℕ → Walked

-- the next step of a walk, unless it is refused
infixl 15 ◌then◌
abbrev pub ◌then◌ : Walked → (Walk → Walked) → Walked
walking w then f = f w
refused_at n q then f = refused_at n q

-- the rest of a walk, which may read, unless it is refused
abbrev pub after : Walked → (Walk → Reader Walked) → Reader Walked
after (walking w) f = f w
after (refused_at n q) f = done (refused_at n q)

-- how many instructions a move may give
abbrev pub most_instructions : ℕ
most_instructions = 256

-- one more instruction, from node n; refusal 14 if it does not fit
abbrev pub emit : ℕ → Instruction → Walk → Walked
emit n i w =
    if ltb (length w.made) most_instructions then walking (record { made = w.made ++ (i ∷ []); next = w.next; left = w.left }) else refused_at list_full n

-- the walk after label x is taken
abbrev pub take_label : ℕ → Walk → Walk
take_label x w = record { made = w.made; next = suc x; left = w.left }

-- the walk after a pick is taken: the picks ys are left
abbrev pub take_pick : List ℕ → Walk → Walk
take_pick ys w = record { made = w.made; next = w.next; left = ys }

-- refusal r at node n if the test passes, otherwise the walk goes on
abbrev pub refuse_if : Bool → ℕ → ℕ → Walk → Walked
refuse_if false r n w = walking w
refuse_if true r n w = refused_at r n

-- ---- what rules read and search for

-- the members of the universe u among the n elements from x on: all n are read
unfoldable pub members : Program → ℕ → ℕ → ℕ → Reader (List ℕ)
unfolding ◌>>=◌
members B u x zero = done []
members B u x (suc n) = do
  v ← read (location B u x 0)
  ys ← members B u (suc x) n
  done (if eqb v true_element then x ∷ ys else ys)

-- walks f for each element of a list in turn
unfoldable pub each : (ℕ → Walk → Reader Walked) → List ℕ → Walk → Reader Walked
unfolding ◌>>=◌
each f [] w = done (walking w)
each f (x ∷ xs) w = do
  o ← f x w
  after o (each f xs)

-- the lowest label on the roll of the n elements from x on
unfoldable pub lowest : ℕ → ℕ → Reader (Option ℕ)
unfolding ◌>>=◌
lowest x zero = done None
lowest x (suc n) = do
  v ← read (reserve x)
  let r = lowest (suc x) n
  if eqb v true_element then done (Some x) else r

-- an import at node n into the universe u, of the label found; refusal 13 if there is none. body is the walk of its c
abbrev pub import_of : Program → ℕ → ℕ → Walk → (ℕ → Walk → Reader Walked) → Option ℕ → Reader Walked
import_of B n u w body None = done (refused_at no_label_left n)
import_of B n u w body (Some x) =
    after (emit n (Update (reserve x) false_element) (take_label x w) then emit n (Update (location B u x 0) true_element)) (body x)

-- Refusal 11: the function of the location term t is a relation, and v is no Boolean
abbrev pub not_boolean : Program → Term → ℕ → Bool
not_boolean B t v = relation (function_at B (function_of t)) && not (boolean v)

-- Refusal 12: x is no label, or is on the roll, Reserve at x being r
abbrev pub unreleasable : Program → ℕ → ℕ → Bool
unreleasable B x r = ltb x B.P || eqb r true_element

-- the value of the universe u at y. A number that is no element is in no universe, and nothing is read for it; no pick that passes refusal 9 is such
unfoldable pub universe_at : Program → ℕ → ℕ → Reader ℕ
universe_at B u y = if ltb y B.E then read (location B u y 0) else done false_element

-- Refusal 18: the universe has the value v at the pick, which is not true
abbrev pub not_member : ℕ → Bool
not_member v = not (eqb v true_element)

-- A choose at node n in the universe u, with the picks of the list left: refusal 19 if there is none, before anything is read; else the first is taken, and
-- the universe is read there before refusal 18 is checked. body is the walk of its c
abbrev pub choose_of : Program → ℕ → ℕ → Walk → (ℕ → Walk → Reader Walked) → List ℕ → Reader Walked
choose_of B n u w body [] = done (refused_at pick_count n)
choose_of B n u w body (y ∷ ys) =
    universe_at B u y >>= λ v. after (refuse_if (not_member v) not_in_universe n (take_pick ys w)) (body y)

-- Refusal 19 at the root q, if picks are left over
abbrev pub all_taken : ℕ → List ℕ → Walk → Walked
all_taken q [] w = walking w
all_taken q (y ∷ ys) w = refused_at pick_count q

-- ---- the walk of a rule by the agent whose element is me; vs are the variables' values

-- the walk of a rule, from the state w
unfoldable pub walk : Program → ℕ → Rule → List ℕ → Walk → Reader Walked
unfolding ◌>>=◌
walk B me skip vs w = done (walking w)
walk B me (assign n t u) vs w = do
  l ← target B me vs t
  v ← eval B me vs u
  done (refuse_if (not_boolean B t v) non_boolean n w then emit n (Update l v))
walk B me (block r s) vs w = do
  o ← walk B me r vs w
  after o (walk B me s vs)
walk B me (test t r s) vs w = do
  x ← eval B me vs t
  let yea = walk B me r vs w
  let nay = walk B me s vs w
  if eqb x true_element then yea else nay
walk B me (bind x t r) vs w = do
  y ← eval B me vs t
  walk B me r (set vs x y) w
walk B me (for_all x u r) vs w = do
  ys ← members B u 0 B.E
  each (λ y. walk B me r (set vs x y)) ys w
walk B me (import n x u r) vs w = do
  o ← lowest w.next (B.E - w.next)
  import_of B n u w (λ y. walk B me r (set vs x y)) o
walk B me (release n t) vs w = do
  x ← eval B me vs t
  r ← read (reserve x)
  done (refuse_if (unreleasable B x r) not_releasable n w then emit n (Release x))
walk B me (choose n x u r) vs w = choose_of B n u w (λ y. walk B me r (set vs x y)) w.left

-- each variable at undef
abbrev pub no_variables : List ℕ
no_variables = 0 ∷ 0 ∷ 0 ∷ 0 ∷ 0 ∷ 0 ∷ 0 ∷ 0 ∷ []

-- the walk of agent k's rule with these picks, all of which must be used
unfoldable pub agent_walk : Program → ℕ → List ℕ → Reader Walked
unfolding ◌>>=◌
agent_walk B k picks = do
  let g = agent_at B k
  o ← walk B g.element (rule_at (node_at B) g.root) no_variables (record { made = []; next = B.P; left = picks })
  done (o then λ w. all_taken g.root w.left w)
