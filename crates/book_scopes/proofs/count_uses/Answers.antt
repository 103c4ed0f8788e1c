-- `count_uses` meets its contract.
use Rattle.std.proofs.Common.{◌∙◌}
use Rattle.book.specs.Image.{program_in}
use Rattle.book_scopes.proofs.Tables.{tally_step, tally_none}
use Rattle.book_scopes.proofs.count_uses.Goals as goal

pub loop-i-init : goal.loop-i-init
loop-i-init c = tally_none _ _

pub loop-i-preserved : goal.loop-i-preserved
loop-i-preserved c =
    let a = c.args in
    rw (tally_step (program_in a.image.now) c.loop-i.i a.s.now) (c.count_operands.ensures ∙ rw (c.node_at.ensures, c.loop-i.invariant))
