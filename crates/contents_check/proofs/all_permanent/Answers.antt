-- `all_permanent` meets its contract.
use Rattle.contents_check.proofs.Laws.{permanent_by}
use Rattle.contents_check.proofs.all_permanent.Goals as goal

pub returns : goal.returns
returns c = let a = c.args in permanent_by a.p a.arity a.a.first a.a.second
