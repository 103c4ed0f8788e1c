-- `count_roots` meets its contract.
use Rattle.std.proofs.Common.{◌∙◌}
use Rattle.book.specs.Image.{program_in}
use Rattle.book_scopes.proofs.Tables.{roots_step, roots_none}
use Rattle.book_scopes.proofs.count_roots.Goals as goal

pub loop-i-init : goal.loop-i-init
loop-i-init c = roots_none _ _

pub loop-i-preserved : goal.loop-i-preserved
loop-i-preserved c =
    let a = c.args in
    rw (roots_step (program_in a.image.now) c.loop-i.i a.s.now) (c.put.ensures ∙ rw (c.agent_at-a.ensures, c.loop-i.invariant))
