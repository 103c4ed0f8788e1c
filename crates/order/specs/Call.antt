-- The log entry: a book, a log and the tables that the caller lends; what it answers and leaves, for all inputs (SPECIFICATION 8.3, 9.3, 9.4).
use Rattle.std.specs.Prelude.{List, ℕ, leb, length}
use Rattle.text.specs.Words.{Checked, good, refused, ◌>>=◌, ◌>>◌, must}
use Rattle.text.specs.Refusals.{lent_short, contents_table, readers_table, writers_table, instructions_table}
use Rattle.book.specs.Book.{Program, Book, L}
use Rattle.book.specs.Check.{check_book}
use Rattle.engine.specs.Rule.{most_instructions}
use Rattle.engine.specs.Labels.{no_labels}
use Rattle.engine.specs.Single.{over_first}
use Rattle.engine.specs.Tables.{Tables}
use Rattle.order.specs.declared.Lengths.{Lengths}
use Rattle.order.specs.Log.{Log, check_log}
use Rattle.order.specs.Run.{LogAnswer, run_log}

-- Refusal 2, lowest table first, where there are so many locations
unfoldable pub check_lengths : ℕ → Lengths → Checked (Unit {0})
check_lengths locations n = do
  must (leb locations n.contents) lent_short locations contents_table
  must (leb locations n.readers) lent_short locations readers_table
  must (leb locations n.writers) lent_short locations writers_table
  must (leb most_instructions n.instructions) lent_short most_instructions instructions_table

-- Refusal 2 of a log call on the book B
abbrev pub check_lent : Program → Lengths → Checked (Unit {0})
check_lent B n = check_lengths (L B) n

-- all checks before the first move, in their order; the book and the log if they pass
unfoldable pub check_all : List ℕ → List ℕ → Lengths → Checked (Book × Log)
check_all book log n = do
  b ← check_book book
  g ← check_log b.program log
  check_lent b.program n
  good (b, g)

-- the lengths of the lent tables, n instruction records being lent
abbrev pub lengths : Tables → ℕ → Lengths
lengths t n = record { contents = length t.contents; readers = length t.readers; writers = length t.writers; instructions = n }

-- what a run leaves, on the lent tables t: records past the length needed stay as they were
abbrev pub left_past : Tables → LogAnswer → LogAnswer
left_past t a =
    record {
      answer = a.answer;
      tally = a.tally;
      contents = over_first a.contents t.contents;
      readers = over_first a.readers t.readers;
      writers = over_first a.writers t.writers;
    }

-- what a log call leaves, by its checks: refusals 1 to 10 write nothing, and no move has fired
abbrev pub log_answer : Tables → Checked (Book × Log) → LogAnswer
log_answer t (refused n p q) =
    record { answer = record { number = n; p = p; q = q }; tally = no_labels; contents = t.contents; readers = t.readers; writers = t.writers }
log_answer t (good x) = left_past t (run_log x.0 x.1)

-- the log entry: a book's text, a log's text, the lent tables, and how many instruction records are lent
unfoldable pub log_call : List ℕ → List ℕ → Tables → ℕ → LogAnswer
log_call book log t n = log_answer t (check_all book log (lengths t n))
