-- `nodes` meets its contract.
use mathlib.Core.Path.{sym, ◌∙◌}
use Rattle.book.proofs.Image.{nodes_long}
use Rattle.book_image.proofs.Bounds.{min_capped}
use Rattle.book_image.proofs.nodes.Goals as goal

pub returns : goal.returns
returns c = c.min.ensures ∙ min_capped _ _ ∙ sym (nodes_long c.args.image.now)
