-- `finish_call` meets its contract.
use Rattle.std.proofs.Common.{Ok}
use Rattle.engine_step.proofs.Stages.{refused_as, concluded_as, refusal_passed, accepted_passed}
use Rattle.engine_step.proofs.finish_call.Goals as goal

pub returns-in_err-walk : goal.returns-in_err-walk
returns-in_err-walk g c =
    let a = c.args in
    refused_as _ _ a.image.now a.contents.now a.work.now a.call _ c.in_err-walk.was _ c.from_residual.ensures.1

pub returns-in_err-done : goal.returns-in_err-done
returns-in_err-done g c =
    let a = c.args in
    let m = c.finish_move-done in
    concluded_as _ _ a.image.now a.contents.now a.work.now a.call _ c.in_ok-walk.was _ _ c.locations-all.ensures c.min-n.ensures m.result m.new.contents m.new.readers m.new.writers m.ensures
    _ (refusal_passed _ m.result.answer _ c.in_err-done.was _ c.from_residual-in_err-done.ensures.1)

pub returns : goal.returns
returns g c =
    let a = c.args in
    let m = c.finish_move-done in
    concluded_as _ _ a.image.now a.contents.now a.work.now a.call _ c.in_ok-walk.was _ _ c.locations-all.ensures c.min-n.ensures m.result m.new.contents m.new.readers m.new.writers m.ensures
    (Ok tt) (accepted_passed _ m.result.answer c.in_ok-done.was)
