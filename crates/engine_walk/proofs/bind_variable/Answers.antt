-- `bind_variable` meets its contract.
use mathlib.Core.Path.{refl}
use Rattle.engine_walk.proofs.Steps.{bind_in, bind_past, bind_agent}
use Rattle.engine_walk.proofs.bind_variable.Goals as goal

pub returns-then-a-lt8 : goal.returns-then-a-lt8
returns-then-a-lt8 c = let a = c.args in (bind_in a.bindings.now a.a a.x c.if-a-lt8.true, bind_agent a.bindings.now a.a a.x c.if-a-lt8.true)

pub returns-else-a-lt8 : goal.returns-else-a-lt8
returns-else-a-lt8 c = let a = c.args in (bind_past a.bindings.now a.a a.x c.if-a-lt8.false, refl)
