-- `prepare` meets its contract.
use Rattle.std.proofs.Common.{Err, ap, ◌∙◌}
use Rattle.engine.specs.declared.Tally.{Tally}
use Rattle.order_run.specs.declared.RunState.TheVariants.{Over}
use Rattle.order_run.proofs.Opens.{off, opens}
use Rattle.engine.specs.Tables.{tables}
use Rattle.order_run.proofs.prepare.Goals as goal

pub returns-in-Err : goal.returns-in-Err
returns-in-Err c =
    let a = c.args in
    let k = c.check_all in
    off a.book.now a.log.now (tables a.contents.now a.readers.now a.writers.now) a.lent k.new.image k.new.order
    k.result k.ensures c.in-Err.refusal c.in-Err.is c.run_over.result
    (c.run_over.ensures ∙ ap (λ (t : Tally). Over (record { answer = Err c.in-Err.refusal; tally = t })) c.no_labels.ensures)

pub returns-in-Ok : goal.returns-in-Ok
returns-in-Ok c =
    let a = c.args in
    let k = c.check_all in
    let s = c.start_run in
    opens a.book.now a.log.now (tables a.contents.now a.readers.now a.writers.now) a.lent k.new.image k.new.order
    k.result k.ensures c.in-Ok.checked c.in-Ok.is s.result s.new.contents s.new.readers s.new.writers s.ensures
