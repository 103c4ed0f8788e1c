-- One name that opens on an `unfolding` line what the printing is computed from, for theorems by computation.
use Rattle.std.specs.Prelude.{ℕ}
use Rattle.order.specs.Open.{open_order}
use Rattle.report.specs.Report.{check_input, part_lines, lines_from, lines_written, print_answer, rental, input_tally}

unfoldable pub everything : ℕ
unfolding open_order check_input part_lines lines_from lines_written print_answer rental input_tally
everything = 0
