-- `refuse_at` meets its contract.
use mathlib.Core.Path.{refl}
use Rattle.engine_emit.proofs.Stepped.{stepped_over, stepped_on}
use Rattle.engine_emit.proofs.refuse_at.Goals as goal

pub returns-then-is_some : goal.returns-then-is_some
returns-then-is_some g c = λ ys l. stepped_over c.is_some.ensures c.if-is_some.true refl refl

pub returns : goal.returns
returns g c = λ ys l. stepped_on c.is_some.ensures c.if-is_some.false (c.args.reason, c.from.result, c.from.ensures, refl, refl, refl)
