-- The log: its lines and their checks, refusals 1, 9 and 10 (SPECIFICATION 6.1 to 6.5).
use Rattle.std.specs.Prelude.{Bool, ◌&&◌, ◌||◌, not, List, [], ◌∷◌, ℕ, ◌+◌, ◌*◌, eqb, ltb, leb, length, get_or, if◌then◌else◌}
use Rattle.text.specs.declared.Line.{Line}
use Rattle.text.specs.Words.{table, least, Checked, good, ◌>>=◌, ◌>>◌, none_at, must}
use Rattle.text.specs.Refusals.{ill_formed, log_text, log_line, agent_unordered}
use Rattle.text.specs.Text.{line_length, bad_line, line}
use Rattle.book.specs.Book.{Program}
use Rattle.engine.specs.Move.{Input, input}
use Rattle.order.specs.Pairs.{Pair, predecessors, ordered_by, least_pair, no_pair_at}

-- a log: its moves in the listed order, and its pairs
pub record Log : Type 0 where
  pub moves : List Input
  pub pairs : List Pair

-- what stands past the end of a list of moves
abbrev pub no_input : Input
no_input = input 0 []

-- what move i is made with: its agent and its picks
abbrev pub move_at : Log → ℕ → Input
move_at g i = get_or g.moves i no_input

-- ---- the lines

abbrev pub most_moves : ℕ
most_moves = 64

abbrev pub most_pairs : ℕ
most_pairs = 2016

-- how many choice lines a log may have
abbrev pub most_picks : ℕ
most_picks = 256

-- the header `m k c 0`, how many moves, pairs and choice lines, is within its bounds
abbrev pub log_header_ok : Line → Bool
log_header_ok h = leb h.a most_moves && leb h.b most_pairs && leb h.c most_picks && eqb h.d 0

-- how many lines the log has
abbrev pub log_lines : Line → ℕ
log_lines h = 1 + h.a + h.b + h.c

-- Refusal 9: a move line `agent 0 0 0` is at fault, A being how many agents there are
abbrev pub bad_move : ℕ → Line → Bool
bad_move A l = not (ltb l.a A && eqb l.b 0 && eqb l.c 0 && eqb l.d 0)

-- the pair of line l comes after that of line k
abbrev pub ascends : Line → Line → Bool
ascends k l = ltb k.a l.a || eqb k.a l.a && ltb k.b l.b

-- Refusal 9: pair line i, `earlier later 0 0`, of m moves, is at fault; k is the pair line before
abbrev pub bad_pair : ℕ → Line → Line → ℕ → Bool
bad_pair m k l i = not (ltb l.a l.b && ltb l.b m && (eqb i 0 || ascends k l) && eqb l.c 0 && eqb l.d 0)

-- Refusal 9: choice line i, `move element 0 0`, of m moves and E elements, is at fault; k is the choice line before
abbrev pub bad_choice : ℕ → ℕ → Line → Line → ℕ → Bool
bad_choice E m k l i = not (ltb l.a m && ltb l.b E && (eqb i 0 || leb k.a l.a) && eqb l.c 0 && eqb l.d 0)

-- what a choice line says: the move, and the element that is picked for it
pub record Choice : Type 0 where
  pub move : ℕ
  pub element : ℕ

-- the choice that a line says
abbrev pub choice_of : Line → Choice
choice_of l = record { move = l.a; element = l.b }

-- the picks of move i, in order
unfoldable pub picks_of : List Choice → ℕ → List ℕ
picks_of [] i = []
picks_of (x ∷ xs) i = let r = picks_of xs i in if eqb x.move i then x.element ∷ r else r

-- what the move of a line is made with, given its picks
abbrev pub input_of : Line → List ℕ → Input
input_of l picks = input l.a picks

-- the pair that a line says
abbrev pub pair_of : Line → Pair
pair_of l = record { earlier = l.a; later = l.b }

-- the choice of line i, counted from the line after line k
abbrev pub choice_at : ℕ → List ℕ → ℕ → Choice
choice_at k text i = choice_of (line text (1 + k + i))

-- the choices of a log with the header h
unfoldable pub choices_of : Line → List ℕ → List Choice
choices_of h text = table (choice_at (h.a + h.b) text) h.c

-- the log that the text with the header h says
unfoldable pub log_of : Line → List ℕ → Log
log_of h text =
    let cs = choices_of h text in
    record {
      moves = table (λ i. input_of (line text (1 + i)) (picks_of cs i)) h.a;
      pairs = table (λ i. pair_of (line text (1 + h.a + i))) h.b;
    }

-- ---- Refusal 10

-- moves i < j are of one agent, and the predecessors rs leave them unordered
abbrev pub one_agent_unordered : List ℕ → Log → ℕ → ℕ → Bool
one_agent_unordered rs g i j = eqb (move_at g i).agent (move_at g j).agent && not (ordered_by rs i j)

-- Refusal 10: the least pair of moves of one agent that are unordered
unfoldable pub check_agents : Log → Checked (Unit {0})
check_agents g =
    let m = length g.moves in
    no_pair_at agent_unordered (least_pair (one_agent_unordered (predecessors g.pairs m) g) m)

-- ---- the log's checks, in order

-- Refusals 1 and 9, in this order, on the header line
unfoldable pub check_log_header : List ℕ → Checked Line
check_log_header text = do
  none_at ill_formed 0 log_text (least (bad_line text) 1)
  must (log_header_ok (line text 0)) log_line 0 0
  good (line text 0)

-- Refusal 1 on the whole log: the least line that is ill-formed or missing, or a surplus line
unfoldable pub check_log_text : Line → List ℕ → Checked (Unit {0})
check_log_text h text = do
  none_at ill_formed 0 log_text (least (bad_line text) (log_lines h))
  must (leb (length text) (line_length * log_lines h)) ill_formed (log_lines h) log_text

-- Refusal 9: move line i of a text is at fault, A being how many agents there are
abbrev pub bad_move_at : ℕ → List ℕ → ℕ → Bool
bad_move_at A text i = bad_move A (line text (1 + i))

-- Refusal 9: pair line i of a text, of m moves, is at fault
abbrev pub bad_pair_at : ℕ → List ℕ → ℕ → Bool
bad_pair_at m text i = bad_pair m (line text (m + i)) (line text (1 + m + i)) i

-- Refusal 9: choice line i of a text, of m moves, is at fault; the choice lines begin after line k
abbrev pub bad_choice_at : ℕ → ℕ → ℕ → List ℕ → ℕ → Bool
bad_choice_at E m k text i = bad_choice E m (line text (k + i)) (line text (1 + k + i)) i

-- Refusal 9 on the lines: moves, then pairs, then choices
unfoldable pub check_log_lines : ℕ → ℕ → Line → List ℕ → Checked (Unit {0})
check_log_lines A E h text = do
  none_at log_line 1 0 (least (bad_move_at A text) h.a)
  none_at log_line (1 + h.a) 0 (least (bad_pair_at h.a text) h.b)
  none_at log_line (1 + h.a + h.b) 0 (least (bad_choice_at E h.a (h.a + h.b) text) h.c)

-- Refusals 1 and 9: the log that a text says, for a book of A agents and E elements
unfoldable pub read_log : ℕ → ℕ → List ℕ → Checked Log
read_log A E text = do
  h ← check_log_header text
  check_log_text h text
  check_log_lines A E h text
  good (log_of h text)

-- the checks of a log, refusals 1, 9 and 10: the log that a text says, or the first refusal
unfoldable pub check_log : Program → List ℕ → Checked Log
check_log B text = do
  g ← read_log (length B.agents) B.E text
  check_agents g
  good g
