-- `bad_functions` meets its contract.
use Rattle.std.proofs.Common.{rules, tests, ◌+◌}
use Rattle.book.specs.Image.{image_row}
use Rattle.book.specs.Lines.{bad_function}
use Rattle.text.proofs.Found.{least_found_below}
use Rattle.book_header.proofs.bad_functions.Goals as goal

pub returns : goal.returns
returns c =
    least_found_below (λ f. bad_function (image_row c.args.image.now (2 + f)) f) _ _ _ c.functions-n.ensures c.find.ensures.ran (λ x b q k. search (rules, tests))
