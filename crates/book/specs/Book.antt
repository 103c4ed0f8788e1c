-- The book: its program (elements, functions, nodes, agents) and its contents lines; locations and their defaults; the start of a run
-- (SPECIFICATION 2.1 to 2.6).
use Rattle.std.specs.Prelude.{Bool, true, false, ◌||◌, List, [], ◌∷◌, ℕ, ◌+◌, ◌-◌, ◌*◌, ◌/◌, ◌%◌, eqb, ltb, leb, get_or, set, if◌then◌else◌}
use Rattle.text.specs.Words.{has, table}
use Rattle.book.specs.declared.Function.{Function}
use Rattle.book.specs.declared.Node.{Node}
use Rattle.book.specs.declared.Agent.{Agent}
use Rattle.book.specs.declared.Entry.{Entry}

-- ---- elements. The first P are permanent; the others are labels, the specification's word for the elements that are given out again and again

abbrev pub undef : ℕ
undef = 0

abbrev pub false_element : ℕ
false_element = 1

abbrev pub true_element : ℕ
true_element = 2

-- the element of the number 0
abbrev pub zero_element : ℕ
zero_element = 3

-- the element is false or true
abbrev pub boolean : ℕ → Bool
boolean x = eqb x false_element || eqb x true_element

-- a test as a Boolean of the book
abbrev pub truth : Bool → ℕ
truth true = true_element
truth false = false_element

-- ---- functions. Kind 0 static function, 1 static relation, 2 dynamic function, 3 dynamic relation

abbrev pub dynamic_relation : ℕ
dynamic_relation = 3

-- the function is a relation, static or dynamic
abbrev pub relation : Function → Bool
relation f = eqb f.kind 1 || eqb f.kind dynamic_relation

-- moves may change the function's values
abbrev pub dynamic : Function → Bool
dynamic f = leb 2 f.kind

-- the value of the function where nothing else was written: false in a relation, undef elsewhere
abbrev pub default : Function → ℕ
default f = if relation f then false_element else undef

-- ---- the book: what moves are about, and its contents lines, from which a run starts

-- a book without its contents lines: E elements, of which P are permanent; functions, nodes and agents
pub record Program : Type 0 where
  pub E : ℕ
  pub P : ℕ
  pub functions : List Function
  pub nodes : List Node
  pub agents : List Agent

-- a book: its program, and its contents lines, here called entries
pub record Book : Type 0 where
  pub program : Program
  pub entries : List Entry

-- what stands past the end of a list of functions, and is never read in an accepted book
abbrev pub no_function : Function
no_function = record { first = 0; arity = 0; kind = 0; stride = 1 }

-- what stands past the end of a list of nodes
abbrev pub no_node : Node
no_node = record { kind = 0; a = 0; b = 0; c = 0 }

-- what stands past the end of a list of agents
abbrev pub no_agent : Agent
no_agent = record { root = 0; element = 0 }

-- what stands past the end of a list of entries
abbrev pub no_entry : Entry
no_entry = record { function = 0; arg1 = 0; arg2 = 0; value = 0 }

abbrev pub function_at : Program → ℕ → Function
function_at B f = get_or B.functions f no_function

abbrev pub node_at : Program → ℕ → Node
node_at B n = get_or B.nodes n no_node

abbrev pub agent_at : Program → ℕ → Agent
agent_at B i = get_or B.agents i no_agent

abbrev pub entry_at : List Entry → ℕ → Entry
entry_at es i = get_or es i no_entry

-- ---- locations. They are numbered function after function; within one, the argument, or first × E + second

-- how many locations a function of that arity has
abbrev pub size : ℕ → ℕ → ℕ
size E arity = if eqb arity 0 then 1 else if eqb arity 1 then E else E * E

-- how many locations these functions have together
unfoldable pub total : ℕ → List Function → ℕ
total E [] = 0
total E (f ∷ fs) = size E f.arity + total E fs

-- L, how many locations the program has
abbrev pub L : Program → ℕ
L B = total B.E B.functions

-- a location's number within its function
abbrev pub offset : ℕ → ℕ → ℕ → ℕ → ℕ
offset E arity x y = if eqb arity 0 then 0 else if eqb arity 1 then x else x * E + y

-- the location of function f at the arguments x and y, an argument that it has not being 0
abbrev pub location : Program → ℕ → ℕ → ℕ → ℕ
location B f x y = (function_at B f).first + offset B.E (function_at B f).arity x y

-- A function's stride: how far apart its locations are whose first arguments are neighbours. It is said here of an arity; where it serves, see Sum.
abbrev pub stride : ℕ → ℕ → ℕ
stride E arity = if eqb arity 0 || eqb arity 1 then 1 else E

-- the location of Reserve at x is location x, since Reserve is function 0 and unary
abbrev pub reserve : ℕ → ℕ
reserve x = x

-- the place of a location: its function, and its number within it
pub record Place : Type 0 where
  pub function : Function
  pub index : ℕ

-- the place of location l, the first of the functions having location 0. Past the last location there is none, which counts as static
unfoldable pub place_in : ℕ → List Function → ℕ → Place
place_in E [] l = record { function = no_function; index = 0 }
place_in E (f ∷ fs) l =
    let r = place_in E fs (l - size E f.arity) in
    if ltb l (size E f.arity) then record { function = f; index = l } else r

-- the place of location l of the program
abbrev pub place : Program → ℕ → Place
place B l = place_in B.E B.functions l

-- the arguments of the function's location i
abbrev pub arguments : ℕ → ℕ → ℕ → List ℕ
arguments E arity i = if eqb arity 0 then [] else if eqb arity 1 then i ∷ [] else (i / E) ∷ (i % E) ∷ []

-- the function of location l is dynamic
abbrev pub dynamic_at : Program → ℕ → Bool
dynamic_at B l = dynamic (place B l).function

-- the function of location l is a relation
abbrev pub relation_at : Program → ℕ → Bool
relation_at B l = relation (place B l).function

-- the default of the function of location l
abbrev pub default_at : Program → ℕ → ℕ
default_at B l = default (place B l).function

-- the arguments of location l
abbrev pub arguments_at : Program → ℕ → List ℕ
arguments_at B l = arguments B.E (place B l).function.arity (place B l).index

-- location l, which holds v, has x as argument or holds x
abbrev pub concerns : Program → ℕ → ℕ → ℕ → Bool
concerns B l v x = has (arguments_at B l) x || eqb v x

-- ---- contents: the value of each location, by its number

-- the location that an entry gives a value
abbrev pub entry_location : Program → Entry → ℕ
entry_location B e = location B e.function e.arg1 e.arg2

-- contents c with the value of each entry put at its location, one after the other
unfoldable pub enter : Program → List Entry → List ℕ → List ℕ
enter B [] c = c
enter B (e ∷ es) c = enter B es (set c (entry_location B e) e.value)

-- every location at its default
unfoldable pub defaults : Program → List ℕ
defaults B = table (default_at B) (L B)

-- the contents that a run starts from: the book's entries, all other locations at their default (SPECIFICATION 7.1)
unfoldable pub start : Book → List ℕ
start b = enter b.program b.entries (defaults b.program)
