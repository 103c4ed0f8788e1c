-- What a walk came to, the walk of the rule at a node, and what the functions of the walk promise, in one frame (`Frame`, the struct of engine_term).
use Rattle.text.specs.declared.Reason.{Reason}
use Rattle.std.specs.Prelude.{List, [], ℕ, set}
use Rattle.book.specs.Book.{node_at}
use Rattle.engine.specs.Reader.{Reader}
use Rattle.engine.specs.Term.{term_at}
use Rattle.engine.specs.Rule.{Rule, assign, bind, for_all, import, release, choose, Walk, Walked, walk, after, rule_from}
use Rattle.engine_term.specs.Bindings.{variables_of, agent_of}
use Rattle.book.specs.Image.{low_program}
use Rattle.book_parts.specs.declared.StoredNode.{StoredNode}
use Rattle.engine_term.specs.declared.Frame.{Frame}
use Rattle.engine_term.specs.Marks.{Runs}
use Rattle.engine_emit.specs.declared.Picks.{Picks}
use Rattle.engine_emit.specs.declared.Progress.{Progress}
use Rattle.engine_emit.specs.Emit.{picks_left, walk_from, reached}

-- what a walk that is over came to, by its state s and its list l: no pick is left
abbrev pub outcome : Progress Reason → List ℕ → Walked
outcome s l = reached [] s l

-- ---- the walk of the rule at node n, built at most d nodes deep, in the book of the image m with the bindings s

-- the walk of the rule at node n from the state w
abbrev pub walk_at : List ℕ → List ℕ → ℕ → ℕ → Walk → Reader Walked
walk_at m s d n w = walk (low_program m) (agent_of s) (rule_from (node_at (low_program m)) d n) (variables_of s) w

-- the walk of the rule at node n from the state w, with variable a at y
abbrev pub body_at : List ℕ → List ℕ → ℕ → ℕ → ℕ → ℕ → Walk → Reader Walked
body_at m s d n a y w = walk (low_program m) (agent_of s) (rule_from (node_at (low_program m)) d n) (set (variables_of s) a y) w

-- ---- the rule that a node of each kind stands for, its operands at most d nodes down

abbrev pub assign_rule : List ℕ → ℕ → ℕ → StoredNode → Rule
assign_rule m d n x = assign n (term_at (node_at (low_program m)) d x.a) (term_at (node_at (low_program m)) d x.b)

abbrev pub let_rule : List ℕ → ℕ → StoredNode → Rule
let_rule m d x = bind x.a (term_at (node_at (low_program m)) d x.b) (rule_from (node_at (low_program m)) d x.c)

abbrev pub forall_rule : List ℕ → ℕ → StoredNode → Rule
forall_rule m d x = for_all x.a x.b (rule_from (node_at (low_program m)) d x.c)

abbrev pub import_rule : List ℕ → ℕ → ℕ → StoredNode → Rule
import_rule m d n x = import n x.a x.b (rule_from (node_at (low_program m)) d x.c)

abbrev pub release_rule : List ℕ → ℕ → ℕ → StoredNode → Rule
release_rule m d n x = release n (term_at (node_at (low_program m)) d x.a)

abbrev pub choose_rule : List ℕ → ℕ → ℕ → StoredNode → Rule
choose_rule m d n x = choose n x.a x.b (rule_from (node_at (low_program m)) d x.c)

-- ---- what the walk's functions promise, in a frame, from state to state

-- how far a walk is: the picks left, its progress, the list with its instructions, and the reader marks
pub record WalkState : Type 0 where
  pub picks : List ℕ
  pub progress : Progress Reason
  pub list : List ℕ
  pub readers : List ℕ

abbrev pub state : Picks → Progress Reason → List ℕ → List ℕ → WalkState
state picks s list readers = record { picks = picks_left picks; progress = s; list = list; readers = readers }

-- a rule that takes no pick is walked with any picks left
abbrev pub state_with : List ℕ → Progress Reason → List ℕ → List ℕ → WalkState
state_with ys s list readers = record { picks = ys; progress = s; list = list; readers = readers }

-- this computation leads from x to y
abbrev pub Leads : Frame → Reader Walked → WalkState → WalkState → Type 0
Leads f w x y = Runs (low_program f.image.now) f.contents.now f.bit w (reached y.picks y.progress y.list) x.readers y.readers

-- the rule is walked from x, where the walk is not refused, to y
abbrev pub RuleWalked : Frame → Rule → WalkState → WalkState → Type 0
RuleWalked f r x y =
    Leads f (walk (low_program f.image.now) (agent_of f.bindings) r (variables_of f.bindings) (walk_from x.picks x.progress x.list)) x y

-- the rule at node n is walked, at most d nodes down, unless the walk is refused at x
abbrev pub NodeWalked : Frame → ℕ → ℕ → WalkState → WalkState → Type 0
NodeWalked f d n x y = Leads f (after (reached x.picks x.progress x.list) (walk_at f.image.now f.bindings d n)) x y

-- the body of the binder b is walked, at most d nodes down, with its variable at v, unless the walk is refused at x
abbrev pub BodyWalked : Frame → ℕ → StoredNode → ℕ → WalkState → WalkState → Type 0
BodyWalked f d b v x y = Leads f (after (reached x.picks x.progress x.list) (body_at f.image.now f.bindings d b.c b.a v)) x y
