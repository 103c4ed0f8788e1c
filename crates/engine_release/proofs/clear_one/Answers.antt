-- Where the label's release clears nothing, nothing is read.
use Rattle.std.proofs.Common.{◌≡◌, ◌∙◌, sym, false, get_or}
use Rattle.engine_term.specs.Marks.{marked}
use Rattle.engine_instruction.specs.Given.{clears_in}
use Rattle.engine_release.proofs.clear_one.Goals as goal

pub returns-else-clears_at-clause-readers_after : goal.returns-else-clears_at-clause-readers_after
unfolding marked
returns-else-clears_at-clause-readers_after c =
    let a = c.args in
    let kept : clears_in a.r.function a.i (get_or a.part.now a.i 0) a.r.label ≡ false =
    sym (c.clears_at.ensures ∙ rw (c.take_apart-a.ensures.0, c.take_apart-a.ensures.1)) ∙ c.if-clears_at.false in
    rw kept
