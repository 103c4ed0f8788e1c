-- `node` meets its contract.
use mathlib.Core.Path.{sym}
use Rattle.book.proofs.Held.{held_node}
use Rattle.book_parts.proofs.node.Goals as goal

pub returns : goal.returns
returns c = let a = c.args in rw (c.low.ensures, c.low-2.ensures, c.low-3.ensures, c.low-4.ensures, c.node_at-w.ensures) (sym (held_node a.image.now a.n))
