-- `columns` meets its contract.
use Rattle.text.proofs.Fields.{six}
use borrow.Author.Rules.{rules}
use Rattle.text.proofs.columns.Goals as goal

pub returns : goal.returns
returns c = let a = c.args in (six a.text.now a.at _ _ _ _ _ _ c.push-a.ensures.0 c.push-b.ensures.0 c.push-c.ensures.0 c.push-d.ensures.0 c.push-e.ensures.0 c.push.ensures.0, search rules)
