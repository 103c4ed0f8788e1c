-- What the code prints, line by line: lines put into the output after others.
use Rattle.std.specs.Prelude.{◌≡◌, List, [], ◌∷◌, ◌++◌, ℕ, ◌+◌, ◌*◌, ◌≤◌, eqb, length, drop, if◌then◌else◌}
use Rattle.text.specs.declared.Line.{Line}
use Rattle.text.specs.Words.{Answer}
use Rattle.text.specs.Text.{line_length}
use Rattle.book.specs.declared.Function.{Function}
use Rattle.book.specs.Book.{Program, L, size, default, function_at}
use Rattle.book.specs.Sum.{Strided, first_argument, second_argument}
use Rattle.engine.specs.Labels.{no_labels}
use Rattle.report_print.specs.declared.Answer.{Answer as Triple}
use Rattle.report.specs.Report.{part_lines, lines_written, print_answer}
use Rattle.text_write.specs.Bytes.{put_bytes}

-- the answer that the code prints, as the specification has it
abbrev pub triple_of : Triple → Answer
triple_of a = record { number = a.number; p = a.p; q = a.q }

-- the line of location i of function k, which is f and holds v there, with the arguments that the stride gives
abbrev pub line_for : Function → ℕ → ℕ → ℕ → Line
line_for f k i v = record { a = k; b = first_argument f i; c = second_argument f i; d = v }

-- the lines of location i of function k, which is f and holds v there: one, or none if v is the default
unfoldable pub location_lines : Function → ℕ → ℕ → ℕ → List Line
location_lines f k i v = if eqb v (default f) then [] else line_for f k i v ∷ []

-- the lines of all locations of function k that are not at their default
abbrev pub function_lines : Program → List ℕ → ℕ → List Line
function_lines B c k = part_lines B c k 0 (size B.E (function_at B k).arity)

-- the output m with the lines ls put after the first line and n others
unfoldable pub lines_printed : ℕ → List Line → List ℕ → List ℕ
lines_printed n ls m = put_bytes (line_length + line_length * n) (lines_written ls) m

-- the text of an answer a that leaves the contents c; tally and marks are not printed
abbrev pub answer_printed : Program → Answer → List ℕ → List ℕ
answer_printed B a c = print_answer B (record { answer = a; tally = no_labels; contents = c; readers = []; writers = [] })

-- the output's length: the first line, and one for each of 2,048 locations
abbrev pub most_output : ℕ
most_output = 51225

-- what a call that prints an answer gives, r, and leaves of the output m, `after`; the text stands in front if it fits
pub record Prints (B : Program) (a : Answer) (c m : List ℕ) (r : ℕ) (after : List ℕ) : Type 0 where
  pub long : r ≡ length (answer_printed B a c)
  pub put : after ≡ put_bytes 0 (answer_printed B a c) m
  pub whole : L B ≤ 2048 → most_output ≤ length m → after ≡ answer_printed B a c ++ drop (length (answer_printed B a c)) m

-- the lines of function k stand in the output m after n others, and it becomes m'; r lines are there then. Every function has the stride of its arity
abbrev pub FunctionPrinted : Program → List ℕ → ℕ → ℕ → List ℕ → ℕ → List ℕ → Type 0
FunctionPrinted B c k n m r m' =
    (Strided B → (r ≡ n + length (function_lines B c k)) × (m' ≡ lines_printed n (function_lines B c k) m)) × (r ≤ n + 100000000)
