-- `store_node` meets its contract.
use mathlib.Core.Path.{◌∙◌}
use Rattle.book.specs.Image.{node_stored}
use Rattle.book_image.proofs.Bounds.{min_capped}
use Rattle.book_image.proofs.store_node.Goals as goal

pub returns : goal.returns
unfolding node_stored
returns c =
    let kind = c.min.ensures ∙ min_capped _ _ in
    let a = c.min-2.ensures ∙ min_capped _ _ in
    let b = c.min-3.ensures ∙ min_capped _ _ in
    let d = c.min-4.ensures ∙ min_capped _ _ in
    cc
