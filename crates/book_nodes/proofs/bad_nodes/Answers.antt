-- `bad_nodes` meets its contract.
use Rattle.std.proofs.Common.{rules, tests}
use Rattle.book.specs.Image.{program_in}
use Rattle.book.specs.Lines.{bad_node}
use Rattle.text.proofs.Found.{least_found_below}
use Rattle.book_nodes.proofs.bad_nodes.Goals as goal

pub returns : goal.returns
returns c = least_found_below (bad_node (program_in c.args.image.now)) _ _ _ c.nodes-n.ensures c.find.ensures.ran (λ x b q k. search (rules, tests))
