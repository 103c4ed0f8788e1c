-- `must` meets its contract.
use Rattle.std.proofs.Common.{ap}
use Rattle.text.specs.Words.{must, told}
use Rattle.text.proofs.must.Goals as goal

pub returns-then-test : goal.returns-then-test
unfolding must
returns-then-test c = rw c.if-test.true

pub returns-else-test : goal.returns-else-test
unfolding must
returns-else-test c = rw c.if-test.false (ap told c.refused.ensures)
