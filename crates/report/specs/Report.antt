-- What the program `rental` prints for the bytes that it reads, and the label tally of their run (SPECIFICATION 10.1, 10.2).
use Rattle.std.specs.Prelude.{List, [], ◌∷◌, ◌++◌, ℕ, zero, suc, ◌+◌, ◌*◌, eqb, leb, length, get_or, drop, if◌then◌else◌}
use Rattle.text.specs.declared.Line.{Line}
use Rattle.text.specs.Words.{Answer}
use Rattle.text.specs.Words.{Checked, good, refused, ◌>>=◌, ◌>>◌, must}
use Rattle.text.specs.Refusals.{lent_short, input_table}
use Rattle.text.specs.Text.{line_length, written}
use Rattle.book.specs.Book.{Program, Book, size, default, arguments, function_at}
use Rattle.book.specs.Lines.{line_count}
use Rattle.book.specs.Check.{check_header, check_present, check_lines}
use Rattle.engine.specs.declared.Tally.{Tally}
use Rattle.engine.specs.Labels.{no_labels}
use Rattle.order.specs.Log.{Log, check_log}
use Rattle.order.specs.Run.{LogAnswer, run_log}
use Rattle.order.specs.declared.Lengths.{Lengths}
use Rattle.order.specs.Call.{check_lent}

abbrev pub most_input : ℕ
most_input = 60000

-- the tables of `rental` have 2,048 records each
abbrev pub own_tables : Lengths
own_tables = record { contents = 2048; readers = 2048; writers = 2048; instructions = 2048 }

-- the checks of an input, a book and then a log: the log starts after the last line that the book's header calls for
unfoldable pub check_input : List ℕ → Checked (Book × Log)
check_input text = do
  must (leb (length text) most_input) lent_short most_input input_table
  h ← check_header text
  check_present h text
  b ← check_lines h text
  g ← check_log b.program (drop (line_length * line_count h) text)
  check_lent b.program own_tables
  good (b, g)

-- ---- contents as the lines of a book

-- the line of location i of function k, which holds v
abbrev pub contents_line : Program → ℕ → ℕ → ℕ → Line
contents_line B k i v =
    let xs = arguments B.E (function_at B k).arity i in
    record { a = k; b = get_or xs 0 0; c = get_or xs 1 0; d = v }

-- the lines of those of the n locations of function k, from its location i on, that are not at their default
unfoldable pub part_lines : Program → List ℕ → ℕ → ℕ → ℕ → List Line
part_lines B c k i zero = []
part_lines B c k i (suc n) =
    let f = function_at B k in
    let v = get_or c (f.first + i) 0 in
    let r = part_lines B c k (suc i) n in
    if eqb v (default f) then r else contents_line B k i v ∷ r

-- the lines of the locations of the n functions from k on that are not at their default
unfoldable pub lines_from : Program → List ℕ → ℕ → ℕ → List Line
lines_from B c k zero = []
lines_from B c k (suc n) = part_lines B c k 0 (size B.E (function_at B k).arity) ++ lines_from B c (suc k) n

-- the lines of all locations that are not at their default
abbrev pub contents_lines : Program → List ℕ → List Line
contents_lines B c = lines_from B c 0 (length B.functions)

-- ---- the printed bytes

-- the bytes of lines
unfoldable pub lines_written : List Line → List ℕ
lines_written [] = []
lines_written (l ∷ ls) = written l ++ lines_written ls

-- the first line printed, `number p q count`
abbrev pub first_line : Answer → ℕ → Line
first_line a count = record { a = a.number; b = a.p; c = a.q; d = count }

-- what is printed of a run: its answer, and if it is accepted the contents
unfoldable pub print_answer : Program → LogAnswer → List ℕ
print_answer B r =
    let ls = if eqb r.answer.number 0 then contents_lines B r.contents else [] in
    written (first_line r.answer (length ls)) ++ lines_written ls

-- what is printed, by the checks of the input
abbrev pub print_checked : Checked (Book × Log) → List ℕ
print_checked (refused n p q) = written (first_line (record { number = n; p = p; q = q }) 0)
print_checked (good x) = print_answer x.0.program (run_log x.0 x.1)

-- the label tally of the run, by the checks of the input: none if it is refused before its first move. It is not printed.
abbrev pub tally_checked : Checked (Book × Log) → Tally
tally_checked (refused n p q) = no_labels
tally_checked (good x) = (run_log x.0 x.1).tally

-- what `rental` prints for its input
unfoldable pub rental : List ℕ → List ℕ
rental text = print_checked (check_input text)

-- the label tally of the run of an input
unfoldable pub input_tally : List ℕ → Tally
input_tally text = tally_checked (check_input text)
