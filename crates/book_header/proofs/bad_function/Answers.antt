-- `bad_function` meets its contract.
use Rattle.book.specs.Lines.{bad_function}
use mathlib.Core.Path.{refl}
use Rattle.book_header.proofs.bad_function.Goals as goal

pub returns : goal.returns
unfolding bad_function
returns c = refl
