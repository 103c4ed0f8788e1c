-- The checks of an input are those of its book's lines and of what stands after them, as the log entry makes them.
use mathlib.Core.Path.{◌≡◌, refl, sym, ap, ◌∙◌}
use mathlib.Core.List.{List}
use Prim.Native.Nat.{ℕ, ◌+◌, ◌*◌, ◌≤◌, ◌<◌}
use native.Mathlib.Nat.{min-le_left}
use native.Mathlib.Omega.{arith}
use lib.ListN.{length, take, drop, length-take}
use borrow.Author.Tests.{le-leb, lt-leb}
use Rattle.text.specs.Words.{least, Checked, good, refused, ◌>>=◌, ◌>>◌, must}
use Rattle.text.specs.Text.{line_bytes, numbers_of, line, bad_line}
use Rattle.text.proofs.Words.{least_same, table_ext}
use Rattle.text.proofs.Fields.{part_of_front}
use Rattle.book.specs.declared.Header.{Header}
use Rattle.book.specs.Book.{Book}
use Rattle.book.specs.Lines.{first_node, first_agent, first_entry, line_count, program_of, entries_of, node_of, line_agent, entry_of, bad_function, bad_agent}
use Rattle.book.specs.Check.{check_header, check_present, check_surplus, check_program, check_lines, check_book}
use Rattle.order.specs.Log.{Log, check_log}
use Rattle.order.specs.declared.Lengths.{Lengths}
use Rattle.order.specs.Call.{check_lent, check_all}
use Rattle.report.specs.Report.{most_input, own_tables, check_input}

-- ---- the first n lines of a text

module _ (text : List ℕ) (n : ℕ) where
  front : List ℕ
  front = take (25 * n) text

  bytes_front : (i : ℕ) → i < n → line_bytes front i ≡ line_bytes text i
  unfolding front
  bytes_front i h = part_of_front (25 * i) 25 (25 * n) text (omega arith)

  line_front : (i : ℕ) → i < n → line front i ≡ line text i
  line_front i h = ap numbers_of (bytes_front i h)

  form_front : (k : ℕ) → k ≤ n → least (bad_line front) k ≡ least (bad_line text) k
  form_front k h = least_same (bad_line front) (bad_line text) k (λ i l. rw (bytes_front i (omega arith)))

  header_front : 2 ≤ n → check_header front ≡ check_header text
  unfolding check_header
  header_front h = rw (form_front 2 h, line_front 0 (omega arith), line_front 1 (omega arith))

-- ---- the lines that a header calls for

module _ (text : List ℕ) (h : Header) where
  book_part : List ℕ
  book_part = take (25 * line_count h) text

  at : (i : ℕ) → i < line_count h → line book_part i ≡ line text i
  unfolding book_part front
  at i l = line_front text (line_count h) i l

  present_same : check_present h book_part ≡ check_present h text
  unfolding check_present book_part front
  present_same = rw (form_front text (line_count h) (line_count h) (omega arith))

  -- the book's lines have no line too many
  no_surplus : check_surplus h book_part ≡ good tt
  unfolding check_surplus must book_part
  no_surplus = rw (le-leb (length (take (25 * line_count h) text)) (25 * line_count h) (rw (length-take (25 * line_count h) text) (min-le_left (25 * line_count h) (length text))))

  program_same : program_of h book_part ≡ program_of h text
  unfolding program_of
  program_same =
      rw (
        table_ext (λ i. line book_part (2 + i)) (λ i. line text (2 + i)) h.functions (λ i l. at (2 + i) (omega arith)),
        table_ext (λ i. node_of (line book_part (first_node h + i))) (λ i. node_of (line text (first_node h + i))) h.nodes
            (λ i l. ap node_of (at (first_node h + i) (omega arith))),
        table_ext (λ i. line_agent (line book_part (first_agent h + i))) (λ i. line_agent (line text (first_agent h + i))) h.agents
            (λ i l. ap line_agent (at (first_agent h + i) (omega arith))),
      )

  entries_same : entries_of h book_part ≡ entries_of h text
  unfolding entries_of
  entries_same =
      table_ext (λ i. entry_of (line book_part (first_entry h + i))) (λ i. entry_of (line text (first_entry h + i))) h.contents
      (λ i l. ap entry_of (at (first_entry h + i) (omega arith)))

  lines_same : check_lines h book_part ≡ check_lines h text
  unfolding check_lines check_program
  lines_same =
      let B = program_of h text in
      rw (
        program_same,
        entries_same,
        least_same (λ f. bad_function (line book_part (2 + f)) f) (λ f. bad_function (line text (2 + f)) f) h.functions
            (λ f l. rw (at (2 + f) (omega arith))),
        least_same (λ i. bad_agent B (line book_part (first_agent h + i)) i) (λ i. bad_agent B (line text (first_agent h + i)) i) h.agents
            (λ i l. rw (at (first_agent h + i) (omega arith))),
      )

  header_same : check_header book_part ≡ check_header text
  unfolding book_part front
  header_same = header_front text (line_count h) (omega arith)

  -- the check of the book's lines is the check of the input without a surplus line
  book_checked : check_header text ≡ good h → check_book book_part ≡ (check_present h text >> check_lines h text)
  unfolding check_book ◌>>=◌ ◌>>◌
  book_checked e = rw (header_same ∙ e, present_same, no_surplus, lines_same)

-- ---- the split

then_bind : {A B C : Type 0} (a : Checked A) (b : Checked B) (k : B → Checked C) → ((a >> b) >>= k) ≡ (a >> (b >>= k))
unfolding ◌>>◌ ◌>>=◌
then_bind (good a) b k = refl
then_bind (refused n p q) b k = refl

-- the checks of an input whose book's header passes
pub input_split :
    (text : List ℕ) (h : Header) → check_header text ≡ good h → length text ≤ most_input →
    check_input text ≡ check_all (take (25 * line_count h) text) (drop (25 * line_count h) text) own_tables
unfolding check_input check_all must ◌>>=◌ ◌>>◌ book_part
input_split text h e l =
    let k : Book → Checked (Book × Log) = λ b. check_log b.program (drop (25 * line_count h) text) >>= (λ g. check_lent b.program own_tables >> good (b, g)) in
    rw (le-leb (length text) most_input l, e, book_checked text h e) (sym (then_bind (check_present h text) (check_lines h text) k))

-- the checks of an input whose book's header is refused; as a book with no log it is refused alike
pub input_header :
    (text : List ℕ) (n p q : ℕ) → check_header text ≡ refused n p q → length text ≤ most_input → check_input text ≡ refused n p q
unfolding check_input must ◌>>=◌ ◌>>◌
input_header text n p q e l = rw (le-leb (length text) most_input l, e)

pub all_header : (book log : List ℕ) (t : Lengths) (n p q : ℕ) → check_header book ≡ refused n p q → check_all book log t ≡ refused n p q
unfolding check_all check_book ◌>>=◌ ◌>>◌
all_header book log t n p q e = rw e

-- the checks of an input that is too long
pub input_long : (text : List ℕ) → most_input < length text → check_input text ≡ refused 2 60000 4
unfolding check_input must ◌>>◌
input_long text h = rw (lt-leb (length text) most_input h)
