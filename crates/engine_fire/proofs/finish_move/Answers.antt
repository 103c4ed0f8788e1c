-- `finish_move` meets its contract.
use mathlib.Core.Path.{refl}
use Rattle.engine_fire.proofs.Reasons.{finishes_over, finishes_on}
use Rattle.engine_fire.proofs.finish_move.Goals as goal

pub returns-in-Some : goal.returns-in-Some
returns-in-Some g c = finishes_over c.in-Some.is c.refused_result.ensures refl

pub returns : goal.returns
returns g c =
    let a = c.args in
    finishes_on c.in_default.is (c.settle_listed-done.result, c.convert_result.ensures, c.settle_listed-done.ensures a.s.label)
