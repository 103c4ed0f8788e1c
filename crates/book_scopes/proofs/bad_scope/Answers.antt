-- `bad_scope` meets its contract.
use lib.ListN.{length}
use mathlib.Core.Path.{◌∙◌}
use Rattle.text.proofs.Words.{least_same}
use Rattle.book.specs.Scopes.{bad_scope}
use Rattle.book.specs.Image.{program_in}
use Rattle.book.proofs.Image.{nodes_most}
use Rattle.book_scopes.proofs.Tables.{misplaced_same}
use Rattle.book_scopes.proofs.bad_scope.Goals as goal

pub returns : goal.returns
returns c = let m = c.args.image.now in c.misplaced_in.ensures ∙ rw (c.give_all.ensures, c.nodes-n.ensures) (least_same _ (bad_scope (program_in m)) (length (program_in m).nodes) (λ j l. misplaced_same (program_in m) (nodes_most m) j l))
