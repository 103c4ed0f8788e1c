-- `functions` meets its contract.
use mathlib.Core.Path.{sym, ◌∙◌}
use Rattle.book.proofs.Image.{functions_long}
use Rattle.book_image.proofs.Bounds.{min_capped}
use Rattle.book_image.proofs.functions.Goals as goal

pub returns : goal.returns
returns c = c.min.ensures ∙ min_capped _ _ ∙ sym (functions_long c.args.image.now)
