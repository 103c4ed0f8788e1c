-- `check_all` meets its contract.
use Rattle.std.proofs.Common.{sym, ap, refl}
use Rattle.std.proofs.lemmas.Result.{IfOk-from_err}
use Rattle.std.specs.Prelude.{Result}
use Rattle.text.specs.declared.Reason.{Reason}
use Rattle.text.specs.declared.Refusal.{Refusal}
use Rattle.text.specs.Words.{told}
use Rattle.text.proofs.Checks.{passing, refusing, refused_alike}
use Rattle.order_run.proofs.Checks.{off_book, off_log, off_agents, opened_last}
use Rattle.book.proofs.Held.{agents_held, elements_held}
use Rattle.order_run.proofs.check_all.Goals as goal

pub returns-in_err-check_into : goal.returns-in_err-check_into
returns-in_err-check_into c = let a = c.args in let o = c.check_into in off_book a.book.now a.log.now a.lent o.new.image (told o.result) o.ensures.0 o.ensures.1 _ a.order.now (refused_alike _ c.in_err-check_into.was c.from_residual.ensures.1) (refusing c.in_err-check_into.was)

pub returns-in_err-moves : goal.returns-in_err-moves
returns-in_err-moves c = let a = c.args in let o = c.check_into in let k = c.read_log in off_log a.book.now a.log.now a.lent o.new.image (told o.result) o.ensures.0 o.ensures.1 (passing c.in_ok-check_into.was) c.agents.result c.elements.result (agents_held _ _ c.agents.ensures).0 (elements_held _ _ c.elements.ensures).0 k.new.order k.result k.ensures _ (refused_alike _ c.in_err-moves.was c.from_residual-in_err-moves.ensures.1) (refusing c.in_err-moves.was)

pub returns-in_err-check_agents : goal.returns-in_err-check_agents
returns-in_err-check_agents c = let a = c.args in let o = c.check_into in let k = c.read_log in off_agents a.book.now a.log.now a.lent o.new.image (told o.result) o.ensures.0 o.ensures.1 (passing c.in_ok-check_into.was) c.agents.result c.elements.result (agents_held _ _ c.agents.ensures).0 (elements_held _ _ c.elements.ensures).0 k.new.order k.result k.ensures _ c.in_ok-moves.was (told c.check_agents.result) c.check_agents.ensures _ (refused_alike _ c.in_err-check_agents.was c.from_residual-in_err-check_agents.ensures.1) (refusing c.in_err-check_agents.was)

pub returns-in_err-check_lent : goal.returns-in_err-check_lent
returns-in_err-check_lent c = let a = c.args in let o = c.check_into in let k = c.read_log in opened_last a.book.now a.log.now a.lent o.new.image (told o.result) o.ensures.0 o.ensures.1 (passing c.in_ok-check_into.was) c.agents.result c.elements.result (agents_held _ _ c.agents.ensures).0 (elements_held _ _ c.elements.ensures).0 k.new.order k.result k.ensures _ c.in_ok-moves.was (told c.check_agents.result) c.check_agents.ensures (passing c.in_ok-check_agents.was) c.locations-locations.result c.locations-locations.ensures (told c.check_lent.result) c.check_lent.ensures _ (refused_alike _ c.in_err-check_lent.was c.from_residual-in_err-check_lent.ensures.1) (IfOk-from_err _ _ c.from_residual-in_err-check_lent.ensures.0)

pub returns : goal.returns
returns c = let a = c.args in let o = c.check_into in let k = c.read_log in opened_last a.book.now a.log.now a.lent o.new.image (told o.result) o.ensures.0 o.ensures.1 (passing c.in_ok-check_into.was) c.agents.result c.elements.result (agents_held _ _ c.agents.ensures).0 (elements_held _ _ c.elements.ensures).0 k.new.order k.result k.ensures _ c.in_ok-moves.was (told c.check_agents.result) c.check_agents.ensures (passing c.in_ok-check_agents.was) c.locations-locations.result c.locations-locations.ensures (told c.check_lent.result) c.check_lent.ensures _ (sym (ap (λ (x : Result (Unit {0}) (Refusal Reason)). told x) c.in_ok-check_lent.was)) refl
