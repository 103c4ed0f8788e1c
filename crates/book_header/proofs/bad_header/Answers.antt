-- `bad_header` meets its contract.
use Rattle.std.proofs.Common.{rules, tests, refl}
use Rattle.book.specs.Lines.{bad_field}
use Rattle.text.proofs.Found.{least_found_below}
use Rattle.book_header.proofs.bad_header.Goals as goal

pub returns : goal.returns
returns c = least_found_below (bad_field c.args.k c.args.l) _ _ _ refl c.find.ensures.ran (λ x b q k. search (rules, tests))
