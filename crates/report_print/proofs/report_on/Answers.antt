-- `report_on` meets its contract.
use Rattle.text.proofs.Checks.{refusing}
use Rattle.engine.specs.Labels.{tallied}
use Rattle.engine.specs.Tables.{tables}
use Rattle.report_print.proofs.Printed.{run_shown, halt_shown}
use Rattle.order_entry.proofs.Moves.{run_to_end_own}
use Rattle.report_print.proofs.report_on.Goals as goal

pub returns-in-Err : goal.returns-in-Err
returns-in-Err c = λ b g p.
    let k = c.print_refusal in
    let s = c.start_run-state in
    let q = c.run_from_own_list-ended in
    let ends = run_to_end_own c.args.image.now c.args.order.now s.result (tables s.new.contents s.new.readers s.new.writers) 2048 q.result (tables q.new.contents q.new.readers q.new.writers) q.ensures in
    halt_shown _ b g _ _ _ _ p (tallied q.result) q.new.contents q.new.readers q.new.writers (ends _ _ _ (s.ensures b g 2048 p.passed)) _ c.requires k.new.output k.result (refusing c.in-Err.is) (rw c.in-Err.is k.ensures)

pub returns : goal.returns
returns c = λ b g p.
    let k = c.print_image-bytes in
    let s = c.start_run-state in
    let q = c.run_from_own_list-ended in
    let ends = run_to_end_own c.args.image.now c.args.order.now s.result (tables s.new.contents s.new.readers s.new.writers) 2048 q.result (tables q.new.contents q.new.readers q.new.writers) q.ensures in
    run_shown _ b g _ _ _ _ p (tallied q.result) q.new.contents q.new.readers q.new.writers (ends _ _ _ (s.ensures b g 2048 p.passed)) _ c.requires k.new.output k.result (rw c.in_default.is k.ensures)
