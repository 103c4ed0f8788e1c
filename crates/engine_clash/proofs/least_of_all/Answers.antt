-- `least_of_all` meets its contract.
use Rattle.engine_clash.specs.LeastClash.{least_clash}
use Rattle.engine_instruction.proofs.Laws.{left_next, left_none}
use Rattle.engine_clash.proofs.least_of_all.Goals as goal

pub loop-code-preserved : goal.loop-code-preserved
unfolding least_clash
loop-code-preserved c =
    rw (c.least_with-least.ensures, c.decode-what.ensures) (rw (left_next _ _ c.loop-code-test.true) at c.loop-code.invariant)

pub returns : goal.returns
unfolding least_clash
returns c = rw (left_none _ _ c.loop-code-test.false) at c.loop-code.invariant
