-- `store` meets its contract.
use Rattle.book.specs.Image.{stored}
use Rattle.book_image.proofs.Bounds.{unmapped}
use borrow.Author.Rules.{rules}
use Rattle.book_image.proofs.store.Goals as goal

pub returns : goal.returns
unfolding stored
returns c = (cc, search (rules, unmapped))
