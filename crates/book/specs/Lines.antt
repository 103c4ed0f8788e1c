-- Refusals 3, 4, 5 and 7: the header, function, node and agent lines, each a test of one line; and the book that the lines say
-- (SPECIFICATION 2.6, 3.2, 3.4, 3.5, 3.8).
use Rattle.std.specs.Prelude.{Bool, ◌&&◌, ◌||◌, not, List, [], ◌∷◌, ℕ, ◌+◌, ◌-◌, eqb, ltb, leb, length}
use Rattle.text.specs.declared.Line.{Line}
use Rattle.text.specs.Words.{within, table}
use Rattle.text.specs.Text.{line}
use Rattle.book.specs.declared.Header.{Header}
use Rattle.book.specs.declared.Function.{Function}
use Rattle.book.specs.declared.Node.{Node}
use Rattle.book.specs.declared.Agent.{Agent}
use Rattle.book.specs.declared.Entry.{Entry}
use Rattle.book.specs.Book.{Program, Book, size, stride, relation, dynamic, dynamic_relation, function_at, node_at, agent_at}
use Rattle.book.specs.Kinds.{is_term, is_rule, names_location, variables, sort, unused, permanent, variable, function0, function1, function2, universe, dynamic_universe, term, rule, target_sort}

-- ---- Refusal 3: the header

-- the header that the two header lines k and l say
abbrev pub header_of : Line → Line → Header
header_of k l =
    record { elements = k.a; permanent = k.b; functions = k.c; nodes = k.d; agents = l.a; contents = l.b }

-- Refusal 3: field i of the header, 0 to 7, is outside its bounds; k and l are the two header lines
unfoldable pub bad_field : Line → Line → ℕ → Bool
bad_field k l i =
    eqb i 0 && not (within 4 k.a 10000)
    || eqb i 1 && not (within 4 k.b k.a)
    || eqb i 2 && not (within 1 k.c 32)
    || eqb i 3 && not (within 1 k.d 1024)
    || eqb i 4 && not (within 1 l.a 16)
    || eqb i 5 && not (leb l.b 65536)
    || eqb i 6 && not (eqb l.c 0)
    || eqb i 7 && not (eqb l.d 0)

-- the bound of L, which refusal 3 calls field 8
abbrev pub most_locations : ℕ
most_locations = 65536

-- ---- the lines at which the header says that functions, nodes, agents and contents lines start

abbrev pub first_function : ℕ
first_function = 2

abbrev pub first_node : Header → ℕ
first_node h = first_function + h.functions

abbrev pub first_agent : Header → ℕ
first_agent h = first_node h + h.nodes

abbrev pub first_entry : Header → ℕ
first_entry h = first_agent h + h.agents

-- how many lines the book has
abbrev pub line_count : Header → ℕ
line_count h = first_entry h + h.contents

-- ---- the book that the lines say

-- the functions of these lines, the first of which has its first location at `first`
unfoldable pub lay_out : ℕ → ℕ → List Line → List Function
lay_out E first [] = []
lay_out E first (l ∷ ls) = record { first = first; arity = l.a; kind = l.b; stride = stride E l.a } ∷ lay_out E (first + size E l.a) ls

-- the node that a node line says
abbrev pub node_of : Line → Node
node_of l = record { kind = l.a; a = l.b; b = l.c; c = l.d }

-- the agent that an agent line says
abbrev pub line_agent : Line → Agent
line_agent l = record { root = l.a; element = l.b }

-- the entry that a contents line says
abbrev pub entry_of : Line → Entry
entry_of l = record { function = l.a; arg1 = l.b; arg2 = l.c; value = l.d }

-- the program that the text with this header says
unfoldable pub program_of : Header → List ℕ → Program
program_of h text =
    record {
      E = h.elements;
      P = h.permanent;
      functions = lay_out h.elements 0 (table (λ i. line text (first_function + i)) h.functions);
      nodes = table (λ i. node_of (line text (first_node h + i))) h.nodes;
      agents = table (λ i. line_agent (line text (first_agent h + i))) h.agents;
    }

-- the entries of the contents lines
unfoldable pub entries_of : Header → List ℕ → List Entry
entries_of h text = table (λ i. entry_of (line text (first_entry h + i))) h.contents

-- the book that the text with this header says
abbrev pub book_of : Header → List ℕ → Book
book_of h text = record { program = program_of h text; entries = entries_of h text }

-- ---- Refusal 4: function lines

-- Refusal 4: function line f, which says l, is at fault
unfoldable pub bad_function : Line → ℕ → Bool
bad_function l f =
    not
    (leb l.a 2 && leb l.b 3 && eqb l.c 0 && eqb l.d 0
    && (not (eqb f 0) || eqb l.a 1 && eqb l.b dynamic_relation))

-- ---- Refusal 5: node lines

-- x is a function that nodes may name: any but Reserve
abbrev pub named : Program → ℕ → Bool
named B x = ltb 0 x && ltb x (length B.functions)

-- x fits the sort s as an operand of node n
unfoldable pub fits : Program → ℕ → ℕ → ℕ → Bool
fits B n s x =
    let f = function_at B x in
    let y = node_at B x in
    eqb s unused && eqb x 0
    || eqb s permanent && ltb x B.P
    || eqb s variable && ltb x variables
    || eqb s function0 && named B x && eqb f.arity 0
    || eqb s function1 && named B x && eqb f.arity 1
    || eqb s function2 && named B x && eqb f.arity 2
    || eqb s universe && named B x && eqb f.arity 1 && relation f
    || eqb s dynamic_universe && named B x && eqb f.arity 1 && eqb f.kind dynamic_relation
    || eqb s term && ltb x n && is_term y.kind
    || eqb s rule && ltb x n && is_rule y.kind
    || eqb s target_sort && ltb x n && names_location y.kind && dynamic (function_at B y.a)

-- Refusal 5: node n is at fault, since an operand does not fit its sort
unfoldable pub bad_node : Program → ℕ → Bool
bad_node B n =
    let y = node_at B n in
    not (fits B n (sort y.kind 0) y.a && fits B n (sort y.kind 1) y.b && fits B n (sort y.kind 2) y.c)

-- ---- Refusal 7: agent lines

-- Refusal 7: the line l of agent i is at fault: its root is no rule, its element is not permanent or not above that of the agent before, or a field without
-- a use is not 0
unfoldable pub bad_agent : Program → Line → ℕ → Bool
bad_agent B l i =
    not
    (ltb l.a (length B.nodes) && is_rule (node_at B l.a).kind && ltb l.b B.P
    && (eqb i 0 || ltb (agent_at B (i - 1)).element l.b)
    && eqb l.c 0
    && eqb l.d 0)
