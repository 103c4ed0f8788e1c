-- `part_from` meets its contract.
use Rattle.book.proofs.Held.{elements_held, function_held}
use Rattle.book_parts.proofs.part_from.Goals as goal

pub returns : goal.returns
returns c = rw (c.size-size.ensures, (elements_held _ _ c.elements.ensures).0, function_held _ _ _ c.function_at-f.ensures)
