-- `number` meets its contract.
use Rattle.text.proofs.Fields.{two_value}
use Rattle.text.proofs.number.Goals as goal

pub returns-then-short : goal.returns-then-short
returns-then-short c = let a = c.args in two_value a.text.now a.at _ _ (c.short.ensures c.if-short.true) c.push-e.ensures.0 c.push.ensures.0
