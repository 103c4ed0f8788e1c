-- `check_book` meets its contract.

use Rattle.book_check.proofs.check_book.Goals as goal

pub check_into-requires : goal.check_into-requires
check_into-requires c = tt

pub returns : goal.returns
returns c = c.check_into.ensures.0
