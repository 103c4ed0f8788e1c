-- `read_log` meets its contract.
use Rattle.std.proofs.lemmas.Result.{IfOk-from_err, IfOk-at_ok}
use Rattle.std.specs.Prelude.{Result, Some}
use Rattle.text.specs.declared.Reason.{Reason}
use Rattle.text.specs.declared.Refusal.{Refusal}
use Rattle.text.specs.Words.{told}
use Rattle.text.proofs.Checks.{passing, refusing, refused_alike}
use mathlib.Core.Path.{◌≡◌, sym, ap, refl, ◌∙◌}
use mathlib.Core.Bool.{true}
use native.Mathlib.Omega.{arith}
use Rattle.order.specs.Log.{log_header_ok}
use Rattle.order_log.proofs.Lines.{header_small}
use Rattle.order_log.proofs.Answers.{header_ok, header_refused, past_header, lines_read}
use Rattle.order_log.proofs.read_log.Goals as goal
use Rattle.order_log.proofs.read_log.Goals.{In_ok-h}

-- the header that passed is what is read of the first line
head : (c : In_ok-h) → c.parse.result ≡ Some c.in_ok-h.h
head c = IfOk-at_ok _ c.in_ok-h.was c.check_header.ensures.header

fits : (c : In_ok-h) → log_header_ok c.in_ok-h.h ≡ true
fits c = (header_ok c.args.log.now c.parse.result c.parse.ensures (told c.check_header.result) c.check_header.ensures.answer (passing c.in_ok-h.was) _ (head c)).2

pub returns-in_err-h : goal.returns-in_err-h
returns-in_err-h c =
    let a = c.args in
    header_refused a.log.now c.parse.result c.parse.ensures (told c.check_header.result) c.check_header.ensures.answer a.agents a.elements
    (refusing c.in_err-h.was) _ _ (refused_alike _ c.in_err-h.was c.from_residual.ensures.1)

pub read_lines-found-requires : goal.read_lines-found-requires
read_lines-found-requires c = fits (goal.at.read_lines-found-requires c).In_ok-h

pub overflow_add-h : goal.overflow_add-h
overflow_add-h c = omega (arith, header_small c.in_ok-h.h (fits (goal.at.overflow_add-h c).In_ok-h))

pub overflow_add-h-2 : goal.overflow_add-h-2
overflow_add-h-2 c = omega (arith, header_small c.in_ok-h.h (fits (goal.at.overflow_add-h-2 c).In_ok-h))

pub overflow_add-h-3 : goal.overflow_add-h-3
overflow_add-h-3 c = omega (arith, header_small c.in_ok-h.h (fits (goal.at.overflow_add-h-3 c).In_ok-h))

pub returns-in_err-answer : goal.returns-in_err-answer
returns-in_err-answer c =
    let a = c.args in
    let k = (goal.at.returns-in_err-answer c).In_ok-h in
    let p = c.parse in
    let h = c.check_header in
    let lines = c.read_lines-found in
    lines_read a.agents a.elements a.log.now c.in_ok-h.h
    (header_ok a.log.now p.result p.ensures (told h.result) h.ensures.answer (passing c.in_ok-h.was) _ (head k)).0
    (past_header a.log.now p.result p.ensures (told h.result) h.ensures.answer a.agents a.elements (passing c.in_ok-h.was) _ (head k))
    lines.new.order lines.result lines.ensures (told c.check_lines-answer.result) c.check_lines-answer.ensures
    _ (refused_alike _ c.in_err-answer.was c.from_residual-in_err-answer.ensures.1) (IfOk-from_err _ _ c.from_residual-in_err-answer.ensures.0)

pub returns : goal.returns
returns c =
    let a = c.args in
    let k = (goal.at.returns c).In_ok-h in
    let p = c.parse in
    let h = c.check_header in
    let lines = c.read_lines-found in
    lines_read a.agents a.elements a.log.now c.in_ok-h.h
    (header_ok a.log.now p.result p.ensures (told h.result) h.ensures.answer (passing c.in_ok-h.was) _ (head k)).0
    (past_header a.log.now p.result p.ensures (told h.result) h.ensures.answer a.agents a.elements (passing c.in_ok-h.was) _ (head k))
    lines.new.order lines.result lines.ensures (told c.check_lines-answer.result) c.check_lines-answer.ensures
    _ (sym (ap (λ (x : Result (Unit {0}) (Refusal Reason)). told x) c.in_ok-answer.was)) refl
