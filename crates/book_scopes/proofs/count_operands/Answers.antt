-- `count_operands` meets its contract.
use Rattle.book_scopes.proofs.count_operands.Goals as goal

pub returns : goal.returns
returns c = rw (c.add_use-3.ensures, c.add_use-2.ensures, c.add_use.ensures, c.is_node-3.ensures, c.is_node-2.ensures, c.is_node.ensures, c.sorts_of-a.ensures.0, c.sorts_of-a.ensures.1, c.sorts_of-a.ensures.2)
