-- `branch` meets its contract.
use borrow.Author.Tests.{eq-eqb, ne_eqb}
use Rattle.engine_walk.proofs.branch.Goals as goal

pub returns-then-x-eq2 : goal.returns-then-x-eq2
returns-then-x-eq2 c = rw (eq-eqb _ _ c.if-x-eq2.true)

pub returns-else-x-eq2 : goal.returns-else-x-eq2
returns-else-x-eq2 c = rw (ne_eqb _ _ c.if-x-eq2.false)
