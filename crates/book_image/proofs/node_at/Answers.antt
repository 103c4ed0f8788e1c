-- `node_at` meets its contract.
use mathlib.Core.Path.{sym, ◌∙◌}
use mathlib.Core.Logic.{inl, inr}
use Rattle.book.specs.Image.{word}
use Rattle.book.proofs.Image.{node_inside, node_past}
use Rattle.book_image.proofs.Bounds.{capped_above, capped_reached}
use Rattle.book_image.proofs.node_at.Goals as goal

pub returns-then-image-n : goal.returns-then-image-n
returns-then-image-n c = let a = c.args in c.no_node.ensures ∙ sym (node_past a.image.now a.n (capped_reached a.n (word a.image.now 3) 1024 (inl c.if-image-n.true)))

pub returns-then-n-ge-MOST_NODES : goal.returns-then-n-ge-MOST_NODES
returns-then-n-ge-MOST_NODES c = let a = c.args in c.no_node-then-n-ge-MOST_NODES.ensures ∙ sym (node_past a.image.now a.n (capped_reached a.n (word a.image.now 3) 1024 (inr c.if-n-ge-MOST_NODES.true)))

pub returns : goal.returns
returns c = let a = c.args in sym (node_inside a.image.now a.n (capped_above a.n (word a.image.now 3) 1024 c.if-image-n.false c.if-n-ge-MOST_NODES.false))
