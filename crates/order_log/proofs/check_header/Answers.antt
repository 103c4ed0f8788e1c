-- `check_header` meets its contract.
use Rattle.std.proofs.Common.{ap, sym, ◌∙◌}
use Rattle.std.proofs.lemmas.Result.{IfOk-from_err}
use Rattle.std.specs.Prelude.{Result}
use mathlib.Core.Bool.{Bool}
use Rattle.text.specs.declared.Reason.{Reason}
use Rattle.text.specs.declared.Refusal.{Refusal}
use Rattle.text.specs.Words.{must, answer_of, told}
use Rattle.text.proofs.Checks.{refused_alike}
use Rattle.order_log.specs.Read.{header_checked}
use Rattle.order_log.proofs.check_header.Goals as goal

pub returns-in_default : goal.returns-in_default
unfolding header_checked
returns-in_default c = record { answer = rw c.in_default.is; header = tt }

pub returns-in_err-must : goal.returns-in_err-must
unfolding header_checked
returns-in_err-must c = record {
  answer = rw c.in-Some.is
      (refused_alike _ c.in_err-must.was c.from_residual.ensures.1 ∙ c.must.ensures ∙ ap (λ (b : Bool). answer_of (must b 9 0 0)) c.header_fits.ensures);
  header = IfOk-from_err _ _ c.from_residual.ensures.0;
}

pub returns : goal.returns
unfolding header_checked
returns c = record {
  answer = rw c.in-Some.is
      (sym (ap (λ (x : Result (Unit {0}) (Refusal Reason)). told x) c.in_ok-must.was) ∙ c.must.ensures ∙ ap (λ (b : Bool). answer_of (must b 9 0 0)) c.header_fits.ensures);
  header = c.in-Some.is;
}
