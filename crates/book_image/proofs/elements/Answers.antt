-- `elements` meets its contract.
use mathlib.Core.Path.{◌∙◌}
use Rattle.book.specs.Image.{program_in}
use Rattle.book_image.proofs.Bounds.{min_capped}
use Rattle.book_image.proofs.elements.Goals as goal

pub returns : goal.returns
unfolding program_in
returns c = c.min.ensures ∙ min_capped _ _
