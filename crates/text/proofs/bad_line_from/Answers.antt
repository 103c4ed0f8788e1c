-- `bad_line_from` meets its contract.
use Rattle.std.proofs.Common.{rules, tests}
use Rattle.text.specs.Text.{bad_line}
use Rattle.text.proofs.Found.{least_found}
use Rattle.text.proofs.bad_line_from.Goals as goal

pub returns : goal.returns
returns c = least_found (bad_line c.args.text.now) _ _ _ _ c.find.ensures.ran (λ x b q k. search (rules, tests))
