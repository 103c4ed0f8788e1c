-- What reading a log's text leaves on the way, and what it gives a caller (SPECIFICATION 6.1 to 6.4).
use Rattle.std.specs.Prelude.{Option, None, Some, Result, IfOk, ◌≡◌, List, [], ◌∷◌, ℕ, ◌+◌, ◌*◌, ◌<◌, leb, length, get_or, set}
use Rattle.std.specs.Int.Bits.{bit_or}
use Rattle.text.specs.declared.Reason.{Reason}
use Rattle.text.specs.declared.Line.{Line}
use Rattle.text.specs.declared.Refusal.{Refusal}
use Rattle.text.specs.Words.{table, least_from, least, Checked, good, refused, ◌>>◌, none_at, must, answer_of, told}
use Rattle.text.specs.Refusals.{ill_formed, log_text, log_line}
use Rattle.text.specs.Text.{line_length, bad_line, line}
use Rattle.order.specs.Sets.{with_move}
use Rattle.order.specs.Pairs.{Pair}
use Rattle.order.specs.Log.{Log, log_header_ok, pair_of, log_of, bad_move_at, bad_pair_at, check_log_lines, read_log}
use Rattle.order.specs.Table.{predecessors_in, agent_in, first_in, end_in, OrderTable}
use Rattle.text.specs.declared.LineFaults.{LineFaults}
use Rattle.order_lines.specs.Lines.{first_found, shifted, KindRead}

-- ---- the header

-- Refusals 1 and 9, in this order, on the header line as it is read
unfoldable pub header_checked : Option Line → Checked (Unit {0})
header_checked None = refused ill_formed 0 log_text
header_checked (Some h) = must (log_header_ok h) log_line 0 0

-- ---- the lines after the header

-- the m move lines are read: r has what is found, and in the table t each move has its agent, no predecessors and no picks
pub record MovesRead (A : ℕ) (text : List ℕ) (m : ℕ) (t : List ℕ) (r : LineFaults) : Type 0 where
  pub ill : r.ill ≡ least_from (bad_line text) m 1
  pub fault : r.ill ≡ None → r.fault ≡ shifted 1 (least (bad_move_at A text) m)
  pub predecessors : r.ill ≡ None → (j : ℕ) → j < m → predecessors_in t j ≡ 0
  pub agents : r.ill ≡ None → (i : ℕ) → i < m → agent_in t i ≡ (line text (1 + i)).a
  pub picks : r.ill ≡ None → (i : ℕ) → i < m → (first_in t i ≡ 0) × (end_in t i ≡ 0)

-- the pair of pair line i, of m moves
abbrev pub pair_at : ℕ → List ℕ → ℕ → Pair
pair_at m text i = pair_of (line text (1 + m + i))

-- the table t with the pair (a, b) put in: to the predecessors of b come those of a, and a
abbrev pub pair_put : List ℕ → ℕ → ℕ → List ℕ
pair_put t a b = set t b (bit_or (get_or t b 0) (with_move (get_or t a 0) a))

-- the table t with the pairs put in one after the other
unfoldable pub pairs_put : List Pair → List ℕ → List ℕ
pairs_put [] t = t
pairs_put (p ∷ ps) t = pairs_put ps (pair_put t p.earlier p.later)

-- the n pair lines of m moves are read: if none is at fault they are put into the table s
abbrev pub PairsRead : List ℕ → ℕ → ℕ → List ℕ → List ℕ → LineFaults → Type 0
PairsRead text m n s t r = KindRead text m n (bad_pair_at m text) (pairs_put (table (pair_at m text) n) s) t r

-- what is found in the lines of two kinds, the first before the second
abbrev pub join_faults : LineFaults → LineFaults → LineFaults
join_faults a b = record { ill = first_found a.ill b.ill; fault = first_found a.fault b.fault }

-- the lines after the header h are read: r has what refusals 1 and 9 find in them; if nothing is found, the table t is that of the log
pub record LinesRead (A E : ℕ) (text : List ℕ) (h : Line) (t : List ℕ) (r : LineFaults) : Type 0 where
  pub ill : r.ill ≡ least_from (bad_line text) (h.a + h.b + h.c) 1
  pub fault : r.ill ≡ None → check_log_lines A E h text ≡ none_at log_line 0 0 r.fault
  pub order : r.ill ≡ None → r.fault ≡ None → OrderTable (log_of h text) t

-- Refusals 1 and 9 on a log of `size` bytes and n lines, from what is found in its lines
unfoldable pub lines_checked : ℕ → ℕ → Option ℕ → Option ℕ → Checked (Unit {0})
lines_checked size n ill fault = do
  none_at ill_formed 0 log_text ill
  must (leb size (line_length * n)) ill_formed n log_text
  none_at log_line 0 0 fault

-- ---- the log

-- a log is read: r has its answer and, of a log that passes, how many moves it has; then the table t has its order and picks
pub record LogIsRead (A E : ℕ) (text t : List ℕ) (r : Result ℕ (Refusal Reason)) : Type 0 where
  pub answer : told r ≡ answer_of (read_log A E text)
  pub moves : (g : Log) → read_log A E text ≡ good g → IfOk r (λ n. n ≡ length g.moves)
  pub order : (g : Log) → read_log A E text ≡ good g → OrderTable g t
