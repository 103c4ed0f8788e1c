-- `bad_node` meets its contract.
use Rattle.book.specs.Lines.{bad_node}
use Rattle.book_nodes.proofs.bad_node.Goals as goal

pub returns : goal.returns
unfolding bad_node
returns c = rw (c.fits-3.ensures, c.fits-2.ensures, c.fits.ensures, c.sorts_of-a.ensures.0, c.sorts_of-a.ensures.1, c.sorts_of-a.ensures.2, c.node_at-y.ensures)
