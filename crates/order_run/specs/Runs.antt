-- What a log's run holds on the way: what its moves are made on, and the tables after some of them (SPECIFICATION 7.2, 8.3).
use Rattle.std.specs.Prelude.{◌≡◌, ℕ, ◌*◌, ◌<◌, ◌≤◌, List, length}
use Rattle.text.specs.Words.{good}
use Rattle.book.specs.Book.{Program, Book, L, start}
use Rattle.book.specs.Check.{check_book}
use Rattle.book.specs.Image.{word, program_in, low_program}
use Rattle.book.specs.Sound.{Lawful, Sound}
use Rattle.engine.specs.declared.Tally.{Tally}
use Rattle.engine.specs.Labels.{TalliedAnswer}
use Rattle.engine.specs.Rule.{most_instructions}
use Rattle.engine.specs.Labels.{tally}
use Rattle.order.specs.Log.{Log, most_moves, move_at}
use Rattle.order.specs.Run.{Run, ran, run, LogAnswer}
use Rattle.order.specs.Table.{OrderTable}
use Rattle.order_run.specs.RunTables.{RunTables}

-- what a run leaves, from its answer with its tally, and its tables
abbrev pub answer_with : TalliedAnswer → List ℕ → List ℕ → List ℕ → LogAnswer
answer_with r c rs ws = record { answer = r.answer; tally = r.tally; contents = c; readers = rs; writers = ws }

-- what the moves are made on: the image m holds a lawful program, the table o is the order of the log g, whose moves are its agents', and the
-- contents c that the run starts from are sound
pub record Runnable (m o : List ℕ) (g : Log) (c : List ℕ) : Type 0 where
  pub lawful : Lawful (low_program m)
  pub sound : Sound (low_program m) c
  pub order : OrderTable g o
  pub few : length g.moves ≤ most_moves
  pub agents : (i : ℕ) → i < length g.moves → (move_at g i).agent < length (low_program m).agents

-- from the contents c the first i moves have fired, with the tally k, and left the contents d and these marks
pub record AfterMoves (B : Program) (g : Log) (c : List ℕ) (i : ℕ) (k : Tally) (d rs ws : List ℕ) : Type 0 where
  pub state : Run
  pub goes : run B g c i ≡ ran state
  pub tally : k ≡ tally B state.fired
  -- a move has at most 256 instructions, so that the tally never leaves its 64 bits
  pub few : (k.issued ≤ most_instructions * i) × (k.returned ≤ most_instructions * i)
  pub sound : Sound B d
  pub tables : RunTables B state d rs ws

-- the texts passed their checks: the image m holds the program of the book b, and the log g, of n moves, runs from the book's start; the tables have just
-- the records needed
pub record Startable (text m o : List ℕ) (b : Book) (g : Log) (n : ℕ) (d rs ws : List ℕ) : Type 0 where
  pub book : check_book text ≡ good b
  pub image : low_program m ≡ b.program
  pub program : program_in m ≡ b.program
  pub entries : word m 5 ≡ length b.entries
  pub runs : Runnable m o g (start b)
  pub moves : n ≡ length g.moves
  pub contents : length d ≡ L (low_program m)
  pub readers : length rs ≡ L (low_program m)
  pub writers : length ws ≡ L (low_program m)
