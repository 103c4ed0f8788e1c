-- What is written at the start of a run: every location's default, then one contents line of the book after the other.
use Rattle.std.specs.Prelude.{List, [], ◌∷◌, ◌++◌, ℕ, ◌+◌, ◌%◌, length, get_or, take, drop, if◌then◌else◌}
use Rattle.text.specs.declared.Line.{Line}
use Rattle.text.specs.Words.{table}
use Rattle.text.specs.Text.{line}
use Rattle.book.specs.declared.Function.{Function}
use Rattle.book.specs.Book.{Program, L, size, function_at, defaults}
use Rattle.book.specs.Sum.{sum}
use Rattle.book.specs.Image.{first_entry_in, entry_count_in, low_program}
use Rattle.book_parts.specs.Part.{between, put_in}

-- contents c with v at the locations from `first` up to `end`, the others as they were
abbrev pub function_filled : ℕ → ℕ → ℕ → List ℕ → List ℕ
function_filled first end v c = table (λ l. if between first end l then v else get_or c l 0) (length c)

-- contents c with each location's default, as far as the table goes; past the last location they are as they were
abbrev pub defaults_in : Program → List ℕ → List ℕ
defaults_in B c = take (length c) (defaults B) ++ drop (L B) c

-- contents c with v at location l, if l is in the part of function g, which starts at its first location
abbrev pub function_put : ℕ → Function → ℕ → ℕ → List ℕ → List ℕ
function_put E g l v c = put_in g.first (g.first + size E g.arity) l v c

-- contents c with the value of the contents line l at its location: in an accepted book each of its numbers fits in sixteen bits
abbrev pub entry_put : Program → Line → List ℕ → List ℕ
entry_put B l c =
    function_put B.E (function_at B (l.a % 65536)) (sum (function_at B (l.a % 65536)) (l.b % 65536) (l.c % 65536)) (l.d % 65536) c

-- contents c with the value of each contents line at its location, one after the other
unfoldable pub entries_put : Program → List Line → List ℕ → List ℕ
entries_put B [] c = c
entries_put B (l ∷ ls) c = entries_put B ls (entry_put B l c)

-- the contents lines of a book's text, where its image says that they are
abbrev pub entry_lines : List ℕ → List ℕ → List Line
entry_lines m text = table (λ i. line text (first_entry_in m + i)) (entry_count_in m)

-- the start of a run written into the table c: each function's part filled with its default, then each contents line put at its location
abbrev pub started : List ℕ → List ℕ → List ℕ → List ℕ
started m text c = entries_put (low_program m) (entry_lines m text) (defaults_in (low_program m) c)
