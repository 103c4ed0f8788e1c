-- `run` meets its contract.
use Rattle.engine.specs.Tables.{tables}
use Rattle.order.specs.Call.{log_call}
use Rattle.order.specs.Lists.{call_lists}
use Rattle.order.proofs.Claim.{demand3}
use Rattle.order.proofs.Tallied.{tallied}
use Rattle.std.proofs.Common.{length}
use Rattle.order_entry.proofs.Moves.{run_to_end}
use Rattle.order_entry.proofs.run.Goals as goal

pub returns : goal.returns
returns c =
    let a = c.args in
    let lent = tables a.contents.now a.readers.now a.writers.now in
    let n = length a.instructions.now in
    let p = c.prepare-state in
    let q = c.run_from in
    let ends = run_to_end p.new.image p.new.order p.result (tables p.new.contents p.new.readers p.new.writers) a.instructions.now q.result (tables q.new.contents q.new.readers q.new.writers) q.new.instructions q.ensures in
    let made = ends lent (log_call a.book.now a.log.now lent n) (call_lists a.book.now a.log.now lent n) p.ensures in
    record { answer = made.0; written = made.1; demand3 = demand3 a.book.now a.log.now lent n; tallied = tallied a.book.now a.log.now lent n }
