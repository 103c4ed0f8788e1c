-- Where the book of an input ends (SPECIFICATION 10.1).
use Rattle.std.specs.Prelude.{List, ℕ, ◌*◌, min, length}
use Rattle.text.specs.Words.{Checked, good, refused}
use Rattle.text.specs.Text.{line_length}
use Rattle.book.specs.declared.Header.{Header}
use Rattle.book.specs.Lines.{line_count}
use Rattle.book.specs.Check.{check_header}

-- of n bytes of input those of the lines that the header calls for; all, if the header is refused
abbrev pub called_for : ℕ → Checked Header → ℕ
called_for n (good h) = min (line_length * line_count h) n
called_for n (refused r p q) = n

-- how many bytes of an input are its book
unfoldable pub book_length : List ℕ → ℕ
book_length text = called_for (length text) (check_header text)
