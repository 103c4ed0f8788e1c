-- `give_operands` meets its contract.
use Rattle.book.specs.Scopes.{operands_given}
use Rattle.book_scopes.proofs.give_operands.Goals as goal

pub returns : goal.returns
unfolding operands_given
returns c = rw (c.put_if-3.ensures, c.put_if-2.ensures, c.put_if.ensures, c.is_node-3.ensures, c.is_node-2.ensures, c.is_node.ensures, c.sorts_of-a.ensures.0, c.sorts_of-a.ensures.1, c.sorts_of-a.ensures.2)
