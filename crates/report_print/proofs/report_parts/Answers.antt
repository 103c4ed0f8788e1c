-- `report_parts` meets its contract.
use Rattle.report_print.proofs.Printed.{parts_refused, parts_passed, parts_few}
use Rattle.report_print.proofs.report_parts.Goals as goal

pub returns-in-Err : goal.returns-in-Err
returns-in-Err c =
    let k = c.print_refusal in
    parts_refused _ _ _ _ _ c.check_all.ensures _ k.result k.new.output _ c.in-Err.is (rw (← c.no_labels.ensures) k.ensures)

pub returns-then-checked-le256 : goal.returns-then-checked-le256
returns-then-checked-le256 c =
    let k = c.report_with in
    parts_passed _ _ _ _ _ c.check_all.ensures _ k.result k.new.output _ c.in-Ok.is 256 c.if-checked-le256.true k.ensures

pub returns-else-checked-le256 : goal.returns-else-checked-le256
returns-else-checked-le256 c =
    let k = c.report_with-else-checked-le256 in
    let s = c.check_all.ensures in
    parts_passed _ _ _ _ _ s _ k.result k.new.output _ c.in-Ok.is 2048 (parts_few _ _ _ _ _ s _ c.in-Ok.is) k.ensures
