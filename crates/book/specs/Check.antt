-- The checks of a book, refusals 1 and 3 to 8, in their order (SPECIFICATION 3, 8.2); and what the exported check answers (SPECIFICATION 9.6).
use Rattle.std.specs.Prelude.{List, ℕ, ◌+◌, ◌*◌, leb, length}
use Rattle.text.specs.Words.{Answer}
use Rattle.text.specs.Words.{least, Checked, good, ◌>>=◌, ◌>>◌, none_at, must}
use Rattle.text.specs.Refusals.{ill_formed, book_text, header_bounds, function_line, node_line, node_use, agent_line, contents_rule}
use Rattle.text.specs.Text.{line_length, bad_line, line}
use Rattle.book.specs.declared.Header.{Header}
use Rattle.book.specs.Book.{Book, L}
use Rattle.book.specs.Lines.{header_of, bad_field, most_locations, first_function, first_agent, first_entry, line_count, program_of, entries_of, book_of, bad_function, bad_node, bad_agent}
use Rattle.book.specs.Use.{bad_use}
use Rattle.book.specs.Scopes.{bad_scope}
use Rattle.book.specs.Contents.{bad_entry}

-- Refusals 1 and 3, in this order, on the two header lines
unfoldable pub check_header : List ℕ → Checked Header
check_header text = do
  none_at ill_formed 0 book_text (least (bad_line text) 2)
  none_at header_bounds 0 0 (least (bad_field (line text 0) (line text 1)) 8)
  good (header_of (line text 0) (line text 1))

-- Refusal 1 on the lines that the header calls for
unfoldable pub check_present : Header → List ℕ → Checked (Unit {0})
check_present h text = none_at ill_formed 0 book_text (least (bad_line text) (line_count h))

-- Refusal 1 on a line that the header does not call for
unfoldable pub check_surplus : Header → List ℕ → Checked (Unit {0})
check_surplus h text = must (leb (length text) (line_length * line_count h)) ill_formed (line_count h) book_text

-- Refusal 4, refusal 3 for L, and refusals 5, 6 and 7, in this order
unfoldable pub check_program : Header → List ℕ → Checked (Unit {0})
check_program h text = do
  let B = program_of h text
  none_at function_line 0 0 (least (λ f. bad_function (line text (first_function + f)) f) h.functions)
  must (leb (L B) most_locations) header_bounds 8 0
  none_at node_line 0 0 (least (bad_node B) h.nodes)
  none_at node_use 0 0 (least (bad_use B) h.nodes)
  none_at node_use 0 0 (least (bad_scope B) h.nodes)
  none_at agent_line 0 0 (least (λ i. bad_agent B (line text (first_agent h + i)) i) h.agents)

-- refusals 4, 3 for L, 5, 6 and 7, and then refusal 8, on lines that are all in form and none too many
unfoldable pub check_lines : Header → List ℕ → Checked Book
check_lines h text = do
  check_program h text
  none_at contents_rule (first_entry h) 0 (least (bad_entry (program_of h text) (entries_of h text)) h.contents)
  good (book_of h text)

-- the whole check of a book: the book that the text says, or the first refusal
unfoldable pub check_book : List ℕ → Checked Book
check_book text = do
  h ← check_header text
  check_present h text
  check_surplus h text
  check_lines h text

-- the answer of the book check as one number, for C: number × 2^32 + p. Each refusal of a book has q 0
abbrev pub packed : Answer → ℕ
packed a = a.number * 4294967296 + a.p
