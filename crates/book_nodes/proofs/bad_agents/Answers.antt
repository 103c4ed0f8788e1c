-- `bad_agents` meets its contract.
use Rattle.std.proofs.Common.{rules, tests, ◌+◌}
use Rattle.book.specs.Image.{image_row, program_in}
use Rattle.book.specs.Lines.{bad_agent}
use Rattle.text.proofs.Found.{least_found_below}
use Rattle.book_nodes.proofs.bad_agents.Goals as goal

pub returns : goal.returns
returns c =
    let m = c.args.image.now in
    least_found_below (λ i. bad_agent (program_in m) (image_row m (34 + i)) i) _ _ _ c.agents-n.ensures c.find.ensures.ran (λ x b q k. search (rules, tests))
