-- The image of a program, which the code holds: words of 32 bits. The first 200 are rows of four. Rows 0 and 1 are `E P F N` and `A C L 0`; function f is
-- row 2 + f (first, arity, kind, stride), agent i row 34 + i (root, element). After them each node has two words: kind and a, b and c. A count past its bound counts
-- as the bound: every image holds a program.
use Rattle.std.specs.Prelude.{◌≡◌, List, map, ℕ, zero, suc, ◌+◌, ◌*◌, ◌/◌, ◌%◌, ◌≤◌, ltb, length, get_or, set, if◌then◌else◌}
use Rattle.text.specs.declared.Line.{Line}
use Rattle.text.specs.Words.{table}
use Rattle.book.specs.declared.Header.{Header}
use Rattle.book.specs.declared.Function.{Function}
use Rattle.book.specs.declared.Node.{Node}
use Rattle.book.specs.declared.Agent.{Agent}
use Rattle.book.specs.Book.{Program, L, size, stride}
use Rattle.book.specs.Lines.{first_function, line_agent, program_of}

abbrev pub image_length : ℕ
image_length = 2248

-- word i of an image
abbrev pub word : List ℕ → ℕ → ℕ
word m i = get_or m i 0

-- row r of an image
abbrev pub image_row : List ℕ → ℕ → Line
image_row m r = record { a = word m (r * 4); b = word m (r * 4 + 1); c = word m (r * 4 + 2); d = word m (r * 4 + 3) }

-- n, or `most` if n is past it
abbrev pub capped : ℕ → ℕ → ℕ
capped n most = if ltb n most then n else most

-- the word at which node n starts
abbrev pub node_place : ℕ → ℕ
node_place n = 200 + n * 2

-- node n of an image. In its first word the kind stands above a, which has twenty bits; in its second b stands above c, which has sixteen
abbrev pub node_in : List ℕ → ℕ → Node
node_in m n =
    let v = word m (node_place n) in
    let w = word m (node_place n + 1) in
    record { kind = v / 1048576; a = v % 1048576; b = w / 65536; c = w % 65536 }

-- the function that a row of an image says
abbrev pub image_function : Line → Function
image_function l = record { first = l.a; arity = l.b; kind = l.c; stride = l.d }

-- the program that an image holds
unfoldable pub program_in : List ℕ → Program
program_in m =
    record {
      E = capped (word m 0) 10000;
      P = word m 1;
      functions = table (λ f. image_function (image_row m (2 + f))) (capped (word m 2) 32);
      nodes = table (node_in m) (capped (word m 3) 1024);
      agents = table (λ i. line_agent (image_row m (34 + i))) (capped (word m 4) 16);
    }

-- the line of the text at which the contents lines start, by an image's counts
abbrev pub first_entry_in : List ℕ → ℕ
first_entry_in m = first_function + length (program_in m).functions + length (program_in m).nodes + length (program_in m).agents

-- how many contents lines an image says that there are
abbrev pub entry_count_in : List ℕ → ℕ
entry_count_in m = capped (word m 5) 65536

-- the low sixteen bits of a number
abbrev pub low : ℕ → ℕ
low x = x % 65536

-- a node, with its numbers in sixteen bits
abbrev pub low_node : Node → Node
low_node y = record { kind = low y.kind; a = low y.a; b = low y.b; c = low y.c }

-- an agent, with its numbers in sixteen bits
abbrev pub low_agent : Agent → Agent
low_agent i = record { root = low i.root; element = low i.element }

-- What the engine takes an image to hold: the program, with elements and the numbers of nodes in sixteen bits. Of an accepted book it is the program itself.
unfoldable pub low_program : List ℕ → Program
low_program m =
    let B = program_in m in
    record {
      E = B.E;
      P = low B.P;
      functions = B.functions;
      nodes = map low_node B.nodes;
      agents = map low_agent B.agents;
    }

-- What an image keeps of a node: a field that has too few bits becomes the largest number that they hold. No field of a node that passes check 5 is so large,
-- and of a node that does not pass, check 5 says the same.
abbrev pub kept_node : Node → Node
kept_node y = record { kind = capped y.kind 4095; a = capped y.a 1048575; b = capped y.b 65535; c = capped y.c 65535 }

-- what an image keeps of a program
unfoldable pub kept_program : Program → Program
kept_program B = record { E = B.E; P = B.P; functions = B.functions; nodes = map kept_node B.nodes; agents = B.agents }

-- the image m is that of the program that a text with the header h says
pub record HoldsText (m : List ℕ) (h : Header) (text : List ℕ) : Type 0 where
  pub program : program_in m ≡ kept_program (program_of h text)
  pub contents : word m 5 ≡ h.contents
  pub locations : word m 6 ≡ L (program_of h text)

-- the program of this header fits in an image
pub record FitsImage (h : Header) : Type 0 where
  pub elements : h.elements ≤ 10000
  pub permanent : h.permanent ≤ 10000
  pub functions : h.functions ≤ 32
  pub nodes : h.nodes ≤ 1024
  pub agents : h.agents ≤ 16
  pub contents : h.contents ≤ 65536

-- a header with each number that is past its bound at the bound
abbrev pub capped_header : Header → Header
capped_header h =
    record {
      elements = capped h.elements 10000;
      permanent = capped h.permanent 10000;
      functions = capped h.functions 32;
      nodes = capped h.nodes 1024;
      agents = capped h.agents 16;
      contents = capped h.contents 65536;
    }

-- ---- rows and nodes stored

-- image m with the line l as row r
unfoldable pub stored : ℕ → Line → List ℕ → List ℕ
stored r l m = set (set (set (set m (r * 4) l.a) (r * 4 + 1) l.b) (r * 4 + 2) l.c) (r * 4 + 3) l.d

-- image m with node n stored as y
unfoldable pub node_stored : ℕ → Node → List ℕ → List ℕ
node_stored n y m =
    let k = kept_node y in
    set (set m (node_place n) (k.kind * 1048576 + k.a)) (node_place n + 1) (k.b * 65536 + k.c)

-- image m with `left` rows from base + i on stored: f i, then f (i + 1), and so on
unfoldable pub filled : (ℕ → Line) → ℕ → ℕ → ℕ → List ℕ → List ℕ
filled f base zero i m = m
filled f base (suc left) i m = filled f base left (suc i) (stored (base + i) (f i) m)

-- the first location of function f, line f being `at f`; of the function past the last, L
unfoldable pub first_location : (ℕ → Line) → ℕ → ℕ → ℕ
first_location at E zero = 0
first_location at E (suc f) = first_location at E f + size E (at f).a

-- the row of function f: its first location, its arity, its kind and its stride
abbrev pub laid_row : (ℕ → Line) → ℕ → ℕ → Line
laid_row at E f = record { a = first_location at E f; b = (at f).a; c = (at f).b; d = stride E (at f).a }
