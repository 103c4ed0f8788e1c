-- `some_on_roll` meets its contract.
use Rattle.contents_check.proofs.Laws.{roll_by}
use Rattle.contents_check.proofs.some_on_roll.Goals as goal

pub returns : goal.returns
returns c =
    λ B e.
    let a = c.args in
    rw (c.on_roll.ensures, c.on_roll-2.ensures, ← e) (roll_by B a.contents.now a.arity a.a.first a.a.second)
