-- `settle_listed` meets its contract.
use mathlib.Core.Path.{sym, ap, ap₂, ◌∙◌}
use native.Mathlib.Omega.{arith}
use lib.ListN.{take}
use Rattle.engine.specs.Labels.{TalliedAnswer}
use Rattle.engine.specs.Move.{settle}
use Rattle.engine_instruction.proofs.Lists.{clipped}
use Rattle.engine_fire.specs.Outcome.{move_by}
use Rattle.engine_fire.specs.Effect.{move_answer}
use Rattle.engine_fire.specs.Finish.{readers_kept}
use Rattle.engine_fire.proofs.settle_listed.Goals as goal

pub returns : goal.returns
unfolding settle
returns c =
    let s = c.settle-what in
    let e = c.answer_move.ensures in
    λ next strides.
    let a = c.args in
    let f = move_by a.image.now a.contents.now (take c.min-n.result a.list.now) in
    let t = s.ensures strides in
    rw (← clipped a.list.now a.len c.min-n.result (omega (arith, c.min-n.ensures)))
    (record {
      answer = λ ls. ap (λ (r : TalliedAnswer). r.answer) (e.value (f ls)) ∙ ap (move_answer a.at) (sym (t.outcome ls));
      tally = λ ls. ap (λ (r : TalliedAnswer). r.tally) (e.value (f ls)) ∙ t.tally ls;
      contents = t.contents;
      readers = λ ls. e.readers_after (f ls) ∙ ap₂ (readers_kept a.bit) (sym (t.outcome ls)) (t.readers ls);
      writers = t.writers;
    })
