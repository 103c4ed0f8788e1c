-- `begin_call` meets its contract.
use Rattle.std.proofs.Common.{arith}
use Rattle.text.specs.Words.{told}
use Rattle.text.proofs.Checks.{passing, refusing, refused_alike}
use Rattle.engine_step.proofs.Stages.{halted_call, begun_call}
use Rattle.engine_step.proofs.Whole.{refused_book, refused_call, cleared}
use Rattle.engine.specs.Move.{input}
use Rattle.book.proofs.Held.{held_agents_most}
use Rattle.engine_step.proofs.begin_call.Goals as goal

pub returns-in_err-check_into : goal.returns-in_err-check_into
returns-in_err-check_into c =
    let a = c.args in
    let o = c.check_into in
    halted_call a.book.now a.contents.now (input a.agent a.picks.now) a.lent o.new.image a.work.now _ (told o.result)
    (refused_alike _ c.in_err-check_into.was c.from_residual.ensures.1) c.from_residual.ensures.0
    (refused_book a.book.now a.contents.now a.work.now (input a.agent a.picks.now) a.lent (told o.result) o.ensures.0 (refusing c.in_err-check_into.was))

pub returns-in_err-check_call : goal.returns-in_err-check_call
returns-in_err-check_call c =
    let a = c.args in
    let o = c.check_into in
    let d = c.check_call in
    halted_call a.book.now a.contents.now (input a.agent a.picks.now) a.lent o.new.image a.work.now _ (told d.result)
    (refused_alike _ c.in_err-check_call.was c.from_residual-in_err-check_call.ensures.1) c.from_residual-in_err-check_call.ensures.0
    (refused_call a.book.now a.contents.now a.work.now (input a.agent a.picks.now) a.lent o.new.image o.ensures.1 (told o.result) o.ensures.0
    (passing c.in_ok-check_into.was) (told d.result) d.ensures (refusing c.in_err-check_call.was))

pub overflow_cast-agent : goal.overflow_cast-agent
overflow_cast-agent c =
    let a = c.args in
    let o = c.check_into in
    let d = c.check_call in
    let e =
    cleared a.book.now a.contents.now a.work.now (input a.agent a.picks.now) a.lent o.new.image o.ensures.1 (told o.result) o.ensures.0
    (passing c.in_ok-check_into.was) (told d.result) d.ensures (passing c.in_ok-check_call.was) in
    record { fits = omega (arith, e.passed.agent, held_agents_most o.new.image) }

pub returns : goal.returns
returns c =
    let a = c.args in
    let o = c.check_into in
    let d = c.check_call in
    let b = c.walk_call in
    let e =
    cleared a.book.now a.contents.now a.work.now (input a.agent a.picks.now) a.lent o.new.image o.ensures.1 (told o.result) o.ensures.0
    (passing c.in_ok-check_into.was) (told d.result) d.ensures (passing c.in_ok-check_call.was) in
    begun_call a.book.now a.contents.now (input a.agent a.picks.now) a.lent o.new.image b.new.work b.result e b.ensures
