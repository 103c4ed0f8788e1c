-- What the checks before the first move leave: the image of the book and the order table of the log.
use Rattle.std.specs.Prelude.{Result, IfOk, ◌≡◌, ℕ, ◌≤◌, List, length}
use Rattle.text.specs.declared.Reason.{Reason}
use Rattle.text.specs.Words.{good, answer_of, told}
use Rattle.text.specs.declared.Refusal.{Refusal}
use Rattle.book.specs.Book.{Book, L, start}
use Rattle.book.specs.Check.{check_book}
use Rattle.book.specs.Image.{word, program_in, low_program}
use Rattle.order.specs.declared.Lengths.{Lengths}
use Rattle.order.specs.Log.{Log}
use Rattle.engine.specs.declared.Instruction.{Instruction}
use Rattle.engine.specs.Rule.{most_instructions}
use Rattle.order.specs.Call.{check_all}
use Rattle.order.specs.Lists.{lists_from}
use Rattle.order.specs.Table.{OrderTable}
use Rattle.book_check.specs.ImageOf as image
use Rattle.order_run.specs.declared.CheckedCall.{CheckedCall}
use Rattle.engine.specs.Tables.{Tables}

-- the image m and the order table o are those of the book b and the log g, which passed
pub record CallHolds (b : Book) (g : Log) (r : CheckedCall) (m o : List ℕ) : Type 0 where
  pub image : low_program m ≡ b.program
  pub program : program_in m ≡ b.program
  pub entries : word m 5 ≡ length b.entries
  pub locations : (r.locations ≡ word m 6) × (word m 6 ≡ L b.program)
  pub moves : r.moves ≡ length g.moves
  pub order : OrderTable g o

-- the checks of a call are made: r has their answer; of a call that passes, m and o are its image and its order table; of a refused one they may hold
-- anything
pub record CallChecked (book log : List ℕ) (lent : Lengths) (r : Result CheckedCall (Refusal Reason)) (m o : List ℕ) : Type 0 where
  pub answer : told r ≡ answer_of (check_all book log lent)
  pub held : (b : Book) (g : Log) → check_all book log lent ≡ good (b, g) → IfOk r (λ x. CallHolds b g x m o)
  pub image : image.ImageOf m (check_book book)

-- ---- a call that passed its checks

-- the call may start on the tables t, which have the records that it needs, and with n instruction records
pub record CallPassed (book : List ℕ) (b : Book) (g : Log) (r : CheckedCall) (m o : List ℕ) (t : Tables) (n : ℕ) : Type 0 where
  pub log : List ℕ
  pub lent : Lengths
  pub checks : check_all book log lent ≡ good (b, g)
  pub holds : CallHolds b g r m o
  pub contents : L b.program ≤ length t.contents
  pub readers : L b.program ≤ length t.readers
  pub writers : L b.program ≤ length t.writers
  pub records : most_instructions ≤ n

-- the instructions that the run of a log gives, move by move
abbrev pub run_lists : Book → Log → List (List Instruction)
run_lists b g = lists_from b.program g (start b) (length g.moves) 0
