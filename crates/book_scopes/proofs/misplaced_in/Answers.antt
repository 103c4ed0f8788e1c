-- `misplaced_in` meets its contract.
use Rattle.std.proofs.Common.{rules, tests, refl}
use Rattle.book.specs.Image.{program_in}
use Rattle.book_scopes.specs.Tables.{misplaced_at}
use Rattle.text.proofs.Found.{least_found_below}
use Rattle.book_scopes.proofs.misplaced_in.Goals as goal

pub returns : goal.returns
returns c =
    let a = c.args in
    least_found_below (misplaced_at (program_in a.image.now) a.s.now) _ _ _ refl c.find.ensures.ran (λ x b q k. search (rules, tests))
