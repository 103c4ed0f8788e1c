-- One name that opens on an `unfolding` line what the check of a book is computed from, for theorems by computation; not what Image and Scan define.
use Rattle.std.specs.Prelude.{ℕ}
use Rattle.text.specs.Words.{table_from, some_below, least_from, ◌>>◌, none_at, must, ◌>>=◌}
use Rattle.text.specs.Text.{digits, field_ok, value_of, well_formed, numbers_of}
use Rattle.text.specs.Quoted.{same}
use Rattle.book.specs.Book.{total, place_in, enter, defaults, start}
use Rattle.book.specs.Kinds.{sort}
use Rattle.book.specs.Lines.{bad_field, lay_out, program_of, entries_of, bad_function, fits, bad_node, bad_agent}
use Rattle.book.specs.Use.{uses, bad_use}
use Rattle.book.specs.Scopes.{bit_of, operands_given, all_given, bound_more, misplaced}
use Rattle.book.specs.Contents.{in_bounds, entry_fits, least_location, rolled, untraced, bad_entry, some_on_roll, all_permanent, bad_value}
use Rattle.book.specs.Check.{check_header, check_present, check_surplus, check_program, check_lines, check_book}

unfoldable pub open_book : ℕ
unfolding table_from some_below least_from ◌>>◌ none_at must ◌>>=◌ digits field_ok value_of well_formed numbers_of same total place_in enter defaults start sort bad_field lay_out program_of entries_of bad_function fits bad_node bad_agent uses bad_use bit_of operands_given all_given bound_more misplaced in_bounds entry_fits least_location rolled untraced bad_entry some_on_roll all_permanent bad_value check_header check_present check_surplus check_program check_lines check_book
open_book = 0
