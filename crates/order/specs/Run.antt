-- A log's run: its moves in turn, the marks that they leave, refusal 17, and the label tally (SPECIFICATION 5.5, 5.6, 7.1 to 7.3, 7.5, 8.3).
use Rattle.std.specs.Prelude.{Bool, ◌&&◌, ◌||◌, not, List, [], ◌∷◌, ◌++◌, ℕ, zero, suc, length, get_or, if◌then◌else◌}
use Rattle.text.specs.Words.{has, table, some_below}
use Rattle.text.specs.Refusals.{unordered_touch}
use Rattle.text.specs.Words.{Answer}
use Rattle.book.specs.Book.{Program, Book, L, start}
use Rattle.engine.specs.declared.Tally.{Tally}
use Rattle.engine.specs.Move.{Input, Fired, Moved, fires, move_refused, move, fire, writes}
use Rattle.engine.specs.Labels.{tally}
use Rattle.order.specs.Sets.{with_move}
use Rattle.order.specs.Pairs.{predecessors, ordered_by, PairFound, no_pair, a_pair, least_pair}
use Rattle.order.specs.Log.{Log, move_at}

-- ---- the moves in turn

-- how far a run is: the contents, and what the moves so far have done, in order
pub record Run : Type 0 where
  pub contents : List ℕ
  pub fired : List Fired

-- what a run comes to: all moves so far have fired, or one was refused: its number and place, and what the moves before it left
pub data RunOutcome : Type 0 where
  ran : Run → RunOutcome
  halted : ℕ → ℕ → ℕ → Run → RunOutcome

-- what a run comes to by move i, made on the state s
abbrev pub moved : ℕ → Run → Moved → RunOutcome
moved i s (fires f) = ran (record { contents = fire f.updates s.contents; fired = s.fired ++ (f ∷ []) })
moved i s (move_refused n q) = halted n i q s

-- what a run comes to by move i, made with m, unless a move before it was refused
abbrev pub next_move : Program → ℕ → Input → RunOutcome → RunOutcome
next_move B i m (ran s) = moved i s (move B s.contents m)
next_move B i m (halted n p q s) = halted n p q s

-- the run of the first n moves of the log g, from the contents c
unfoldable pub run : Program → Log → List ℕ → ℕ → RunOutcome
run B g c zero = ran (record { contents = c; fired = [] })
run B g c (suc n) = next_move B n (move_at g n) (run B g c n)

-- ---- marks

-- the set of the moves that pass the test t, the first of the list being move i
unfoldable pub moves_that : (Fired → Bool) → ℕ → List Fired → ℕ
moves_that t i [] = 0
moves_that t i (f ∷ fs) = let r = moves_that t (suc i) fs in if t f then with_move r i else r

-- the move reads location l
abbrev pub reads_at : ℕ → Fired → Bool
reads_at l f = has f.reads l

-- the move writes location l
abbrev pub writes_at : ℕ → Fired → Bool
writes_at l f = writes f.updates l

-- the reader marks: for each of the first n locations the set of the moves that read it
unfoldable pub readers : ℕ → List Fired → List ℕ
readers n fs = table (λ l. moves_that (reads_at l) 0 fs) n

-- the writer marks: for each of the first n locations the set of the moves that write it
unfoldable pub writers : ℕ → List Fired → List ℕ
writers n fs = table (λ l. moves_that (writes_at l) 0 fs) n

-- ---- Refusal 17

-- at location l one of two moves writes, and the other reads or writes
abbrev pub touch_at : Fired → Fired → ℕ → Bool
touch_at f g l = writes_at l f && (reads_at l g || writes_at l g) || writes_at l g && (reads_at l f || writes_at l f)

-- two moves touch at one of the first n locations
abbrev pub touch : ℕ → Fired → Fired → Bool
touch n f g = some_below (touch_at f g) n

-- what stands past the end of a list of moves that fired
abbrev pub no_fired : Fired
no_fired = record { instructions = []; updates = []; reads = [] }

-- what move i did
abbrev pub fired_at : List Fired → ℕ → Fired
fired_at fs i = get_or fs i no_fired

-- moves i < j touch, and the predecessors rs leave them unordered
abbrev pub unordered_touching : List ℕ → ℕ → List Fired → ℕ → ℕ → Bool
unordered_touching rs n fs i j = not (ordered_by rs i j) && touch n (fired_at fs i) (fired_at fs j)

-- the least pair of moves that are unordered and touch
abbrev pub touching : Program → Log → List Fired → PairFound
touching B g fs =
    let m = length g.moves in
    least_pair (unordered_touching (predecessors g.pairs m) (L B) fs) m

-- ---- what a log's run leaves

-- what a log's run leaves: its answer, which is 0 0 0 when accepted, the label tally of the moves that fired, the contents, and the marks
pub record LogAnswer : Type 0 where
  pub answer : Answer
  pub tally : Tally
  pub contents : List ℕ
  pub readers : List ℕ
  pub writers : List ℕ

-- what a run that came to s leaves, with this answer
abbrev pub left_by : Program → Run → ℕ → ℕ → ℕ → LogAnswer
left_by B s n p q =
    record {
      answer = record { number = n; p = p; q = q };
      tally = tally B s.fired;
      contents = s.contents;
      readers = readers (L B) s.fired;
      writers = writers (L B) s.fired;
    }

-- what a run in which all moves fired leaves: refusal 17 at the pair found, or accepted
abbrev pub order_checked : Program → Run → PairFound → LogAnswer
order_checked B s no_pair = left_by B s 0 0 0
order_checked B s (a_pair i j) = left_by B s unordered_touch i j

-- what a run leaves: a move's refusal, or else refusal 17, or accepted
unfoldable pub run_answer : Program → Log → RunOutcome → LogAnswer
run_answer B g (halted n p q s) = left_by B s n p q
run_answer B g (ran s) = order_checked B s (touching B g s.fired)

-- what the run of a log from the contents c leaves
unfoldable pub run_from : Program → Log → List ℕ → LogAnswer
run_from B g c = run_answer B g (run B g c (length g.moves))

-- what the run of a log leaves, from the start of its book
abbrev pub run_log : Book → Log → LogAnswer
run_log b g = run_from b.program g (start b)
