-- `bad_field` meets its contract.
use Rattle.book.specs.Lines.{bad_field}
use mathlib.Core.Path.{refl}
use Rattle.book_header.proofs.bad_field.Goals as goal

pub returns : goal.returns
unfolding bad_field
returns c = refl
