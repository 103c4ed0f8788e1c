-- `add_touching` meets its contract.
use Rattle.order_touch.proofs.Sets.{others, others_all, others_writers, sofar_turn, sofar_end}
use lib.Count.{count_trailing_zeros}
use mathlib.Core.Path.{◌≡◌, ◌∙◌}
use Rattle.order_touch.proofs.add_touching.Goals as goal
use Rattle.order_touch.proofs.add_touching.Goals.{then-writers-j-eq1, else-writers-j-eq1}

pub loop-left-preserved : goal.loop-left-preserved
loop-left-preserved c =
    let a = c.args in
    let l = c.loop-left in
    let j = count_trailing_zeros 64 l.left in
    let i = c.if-writers-j-eq1 in
    let e : i.others ≡ others a.readers a.writers j =
    elim i.branch [
      | then-writers-j-eq1 w ↦ w.others-is ∙ others_all a.readers a.writers j w.if-writers-j-eq1.true
      | else-writers-j-eq1 w ↦ w.others-is ∙ others_writers a.readers a.writers j w.if-writers-j-eq1.false
    ] in
    sofar_turn a.readers a.writers a.touching.now l.touching l.left l.auto.left-fits.fits c.loop-left-test.true l.invariant (l.invariant.long ∙ c.requires) i.others e

pub returns : goal.returns
returns c = let a = c.args in let l = c.loop-left in sofar_end a.readers a.writers a.touching.now l.touching l.left c.loop-left-test.false l.invariant
