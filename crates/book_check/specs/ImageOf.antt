-- What a check of a book that passes leaves in the image: the program accepted, how many locations it has, and how many entries.
use Rattle.std.specs.Prelude.{◌≡◌, List, ℕ, length}
use Rattle.text.specs.Words.{Checked, good, ◌>>◌}
use Rattle.book.specs.declared.Header.{Header}
use Rattle.book.specs.Book.{Book, L}
use Rattle.book.specs.Image.{word, program_in}
use Rattle.book.specs.Check.{check_present, check_surplus, check_lines}

-- the image m holds the book that a check accepts; of a refused book it may hold anything
abbrev pub ImageOf : List ℕ → Checked Book → Type 0
ImageOf m r = (b : Book) → r ≡ good b → (program_in m ≡ b.program) × (word m 6 ≡ L b.program) × (word m 5 ≡ length b.entries)

-- the check of a book whose header is known: refusal 1 on its lines, 4, 3 for L, and 5 to 8
abbrev pub check_text : Header → List ℕ → Checked Book
check_text h text = check_present h text >> (check_surplus h text >> check_lines h text)
