-- Node kinds: which are terms, rules and binders, and the sorts of their three operands (SPECIFICATION 2.7).
use Rattle.std.specs.Prelude.{Bool, ◌||◌, List, [], ◌∷◌, ℕ, ◌+◌, ◌*◌, eqb, leb, get_or}
use Rattle.text.specs.Words.{within}

-- the kind is that of a term
abbrev pub is_term : ℕ → Bool
is_term kind = within 1 kind 13

-- the kind is that of a rule
abbrev pub is_rule : ℕ → Bool
is_rule kind = within 20 kind 28

abbrev pub choose_kind : ℕ
choose_kind = 28

-- the kind binds a variable: let, forall, import or choose
abbrev pub is_binder : ℕ → Bool
is_binder kind = within 24 kind 26 || eqb kind choose_kind

-- the kind is that of a term that names a location
abbrev pub names_location : ℕ → Bool
names_location kind = within 4 kind 6

abbrev pub variable_kind : ℕ
variable_kind = 2

abbrev pub forall_kind : ℕ
forall_kind = 25

-- how many variables there are
abbrev pub variables : ℕ
variables = 8

-- ---- sorts: what an operand may be; sort 0 is that of no kind

-- a field without a use, which is 0
abbrev pub unused : ℕ
unused = 1

-- a permanent element
abbrev pub permanent : ℕ
permanent = 2

-- a variable
abbrev pub variable : ℕ
variable = 3

-- a function of arity 0, not Reserve
abbrev pub function0 : ℕ
function0 = 4

-- a function of arity 1, not Reserve
abbrev pub function1 : ℕ
function1 = 5

-- a function of arity 2, not Reserve
abbrev pub function2 : ℕ
function2 = 6

-- a relation of arity 1, not Reserve
abbrev pub universe : ℕ
universe = 7

-- a dynamic relation of arity 1, not Reserve
abbrev pub dynamic_universe : ℕ
dynamic_universe = 8

-- a node that is a term. From this sort on an operand is a node
abbrev pub term : ℕ
term = 9

-- a node that is a rule
abbrev pub rule : ℕ
rule = 10

-- a term that names a dynamic location
abbrev pub target_sort : ℕ
target_sort = 11

-- the three operand sorts of each node kind, from 0 to 28
abbrev pub sort_table : List ℕ
sort_table =
    0 ∷ 0 ∷ 0
    ∷ permanent ∷ unused ∷ unused
    ∷ variable ∷ unused ∷ unused
    ∷ unused ∷ unused ∷ unused
    ∷ function0 ∷ unused ∷ unused
    ∷ function1 ∷ term ∷ unused
    ∷ function2 ∷ term ∷ term
    ∷ term ∷ term ∷ unused
    ∷ term ∷ unused ∷ unused
    ∷ term ∷ term ∷ unused
    ∷ term ∷ term ∷ unused
    ∷ term ∷ term ∷ unused
    ∷ term ∷ term ∷ unused
    ∷ term ∷ term ∷ unused
    ∷ 0 ∷ 0 ∷ 0 ∷ 0 ∷ 0 ∷ 0 ∷ 0 ∷ 0 ∷ 0 ∷ 0 ∷ 0 ∷ 0 ∷ 0 ∷ 0 ∷ 0 ∷ 0 ∷ 0 ∷ 0
    ∷ unused ∷ unused ∷ unused
    ∷ target_sort ∷ term ∷ unused
    ∷ rule ∷ rule ∷ unused
    ∷ term ∷ rule ∷ rule
    ∷ variable ∷ term ∷ rule
    ∷ variable ∷ universe ∷ rule
    ∷ variable ∷ dynamic_universe ∷ rule
    ∷ term ∷ unused ∷ unused
    ∷ variable ∷ universe ∷ rule
    ∷ []

-- the sort of operand j, 0 to 2, of a node kind
unfoldable pub sort : ℕ → ℕ → ℕ
sort kind j = get_or sort_table (kind * 3 + j) 0

-- operand j of a node of that kind is a node
abbrev pub is_node : ℕ → ℕ → Bool
is_node kind j = leb term (sort kind j)
