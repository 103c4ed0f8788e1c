-- `is_number` meets its contract.
use borrow.Author.Tests.{le-leb, lt-leb}
use Rattle.engine_term.proofs.is_number.Goals as goal

pub returns-then-x-ge3 : goal.returns-then-x-ge3
returns-then-x-ge3 c = rw (le-leb 3 _ c.if-x-ge3.true)

pub returns-else-x-ge3 : goal.returns-else-x-ge3
returns-else-x-ge3 c = rw (lt-leb 3 _ c.if-x-ge3.false)
