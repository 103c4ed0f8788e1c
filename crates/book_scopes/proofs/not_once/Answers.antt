-- `not_once` meets its contract.
use Rattle.std.proofs.Common.{rules, tests, refl, not, eqb, get_or}
use Rattle.text.proofs.Found.{least_found_below}
use Rattle.book_scopes.proofs.not_once.Goals as goal

pub returns : goal.returns
returns c = least_found_below (λ i. not (eqb (get_or c.args.s.now i 0) 1)) _ _ _ refl c.find.ensures.ran (λ x b q k. search (rules, tests))
