-- What the code evaluates a term in: the program of an image, and the bindings: the values of the eight variables, and then the agent's element.
use Rattle.std.specs.Prelude.{List, ℕ, get_or, take}
use Rattle.book.specs.Book.{undef, node_at}
use Rattle.book.specs.Image.{low_program}
use Rattle.engine.specs.Reader.{Reader}
use Rattle.engine.specs.Term.{Shape, an_element, a_variable, the_agent, of_none, of_one, of_two, a_not, no_term, a_join, apply, term_at, eval, target}

-- the values of the variables in the bindings s
abbrev pub variables_of : List ℕ → List ℕ
variables_of s = take 8 s

-- the agent's element in the bindings s
abbrev pub agent_of : List ℕ → ℕ
agent_of s = get_or s 8 0

-- the value of the term at node n, built at most d nodes deep
abbrev pub value_at : List ℕ → List ℕ → ℕ → ℕ → Reader ℕ
value_at m s d n = eval (low_program m) (agent_of s) (variables_of s) (term_at (node_at (low_program m)) d n)

-- the location that the term at node n names
abbrev pub target_at : List ℕ → List ℕ → ℕ → ℕ → Reader ℕ
target_at m s d n = target (low_program m) (agent_of s) (variables_of s) (term_at (node_at (low_program m)) d n)

-- the value of the operation that a shape names, undef if it names none
abbrev pub operator_value : ℕ → Shape → ℕ → ℕ → ℕ
operator_value P (a_join o) x y = apply P o x y
operator_value P an_element x y = undef
operator_value P a_variable x y = undef
operator_value P the_agent x y = undef
operator_value P of_none x y = undef
operator_value P of_one x y = undef
operator_value P of_two x y = undef
operator_value P a_not x y = undef
operator_value P no_term x y = undef
