-- `step` meets its contract: what went through the lent list is what the walk gave.
use Rattle.std.proofs.Common.{◌≡◌, ◌∙◌, ap, arith, List, length}
use Rattle.text.specs.Words.{told}
use Rattle.engine.specs.declared.Instruction.{Instruction}
use Rattle.engine.specs.Move.{input}
use Rattle.engine_instruction.specs.Code.{items}
use Rattle.engine_list.specs.Written.{records_written}
use Rattle.engine_list.proofs.Laws.{all_through}
use Rattle.engine_step.proofs.Stages.{call_made, call_few, call_through, call_concluded, call_finished, any_call_own}
use Rattle.engine_step.proofs.step.Goals as goal

pub returns : goal.returns
returns c =
    let a = c.args in
    let text = a.book.now in
    let cs = a.contents.now in
    let who = input a.agent a.picks.now in
    let n = length a.instructions.now in
    let m = c.begin_call-call.new.image in
    let us = c.begin_call-call.new.work in
    let us' = c.pass.new.work in
    let p = c.begin_call-call.result in
    let begun = c.begin_call-call.ensures in
    let passed = c.pass.ensures in
    let few = call_few text cs who n m us p begun in
    let long : length us ≡ 256 = c.begin_call-call.array_long2 in
    let same : length us' ≡ length us = c.pass.auto.work in
    let through = all_through c.given.result us a.instructions.now us' passed.1 (omega (arith, few, c.given.ensures)) (omega (arith, few, c.given.ensures)) in
    let again = call_through text cs who n m us p begun us' (omega arith) (rw c.given.ensures at through) in
    let f = call_concluded text cs who n m us' p again (told c.finish_call.result) c.finish_call.new.contents (call_finished _ _ _ p _ _ (any_call_own _ _ _ _ p _ _ c.finish_call.ensures)) in
    record {
      answer = f.answer;
      contents = f.contents;
      written = passed.0 ∙ ap (λ (is : List Instruction). records_written is a.instructions.now) (ap (items us) c.given.ensures ∙ call_made text cs who n m us p begun);
    }
