-- `variable` meets its contract.
use Rattle.engine_term.proofs.Leaves.{variable_in, variable_past}
use Rattle.engine_term.proofs.Frame.variable.Goals as goal

pub returns-then-a-lt8 : goal.returns-then-a-lt8
returns-then-a-lt8 c = variable_in c.args.self.now.bindings c.args.a c.if-a-lt8.true

pub returns-else-a-lt8 : goal.returns-else-a-lt8
returns-else-a-lt8 c = variable_past c.args.self.now.bindings c.args.a c.if-a-lt8.false
