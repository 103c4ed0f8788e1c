-- `row` meets its contract.
use Rattle.book_image.proofs.row.Goals as goal

pub returns : goal.returns
returns c = cc
