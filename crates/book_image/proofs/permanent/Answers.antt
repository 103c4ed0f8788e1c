-- `permanent` meets its contract.
use mathlib.Core.Path.{refl}
use Rattle.book.specs.Image.{program_in}
use Rattle.book_image.proofs.permanent.Goals as goal

pub returns : goal.returns
unfolding program_in
returns c = refl
