-- `check_entries` meets its contract.
use native.Mathlib.Omega.{arith}
use Rattle.book.specs.Image.{word, program_in}
use Rattle.book.proofs.Image.{capped_most, elements_most, functions_most, nodes_most, agents_most}
use Rattle.book_entries.proofs.Roll.{clear}
use Rattle.book_entries.proofs.check_entries.Goals as goal

pub overflow_add-end : goal.overflow_add-end
overflow_add-end c = let m = c.args.image.now in omega (arith, c.first_entry-first.ensures, functions_most m, nodes_most m, agents_most m, c.entries.ensures, capped_most (word m 5) 65536)

pub check_entry_lines-requires : goal.check_entry_lines-requires
check_entry_lines-requires c = let m = c.args.image.now in clear (program_in m).E 256 (omega (arith, c.elements.ensures, c.if-elements-le256.true))

pub check_entry_lines-requires-else-elements-le256 : goal.check_entry_lines-requires-else-elements-le256
check_entry_lines-requires-else-elements-le256 c = let m = c.args.image.now in clear (program_in m).E 10000 (elements_most m)
