-- `check_lines` meets its contract.
use Rattle.std.proofs.Common.{◌∙◌}
use Prim.Native.Nat.{◌*◌}
use Rattle.text.specs.Words.{told, none_at, must}
use Rattle.order_log.proofs.Answers.{stops, goes}
use Rattle.text.proofs.Checks.{passing, refusing, refused_alike, none_numbered, must_numbered}
use Rattle.order_log.specs.Read.{lines_checked}
use lib.Dec.{leb}
use native.Mathlib.Omega.{arith}
use Rattle.order_log.proofs.check_lines.Goals as goal

pub returns-in_err-form : goal.returns-in_err-form
unfolding lines_checked
returns-in_err-form c = refused_alike _ c.in_err-form.was c.from_residual.ensures.1 ∙ stops (told c.none_at-form.result) _ _ c.none_at-form.ensures (refusing c.in_err-form.was)

pub returns-in_err-surplus : goal.returns-in_err-surplus
unfolding lines_checked
returns-in_err-surplus c =
    let a = c.args in
    refused_alike _ c.in_err-surplus.was c.from_residual-in_err-surplus.ensures.1 ∙ goes (told c.none_at-form.result) (none_at 1 0 1 a.ill) _ (told c.must-surplus.result) (none_numbered 1 0 1 a.ill (omega arith)) c.none_at-form.ensures (passing c.in_ok-form.was)
    (stops (told c.must-surplus.result) _ _ c.must-surplus.ensures (refusing c.in_err-surplus.was))

pub returns : goal.returns
unfolding lines_checked
returns c =
    let a = c.args in
    let whole = leb a.size (25 * a.lines) in
    goes (told c.none_at-form.result) (none_at 1 0 1 a.ill) _ (told c.none_at.result) (none_numbered 1 0 1 a.ill (omega arith)) c.none_at-form.ensures (passing c.in_ok-form.was)
    (goes (told c.must-surplus.result) (must whole 1 a.lines 1) _ (told c.none_at.result) (must_numbered whole 1 a.lines 1 (omega arith)) c.must-surplus.ensures (passing c.in_ok-surplus.was)
    c.none_at.ensures)
