-- `add_if_written` meets its contract.
use Rattle.order_touch.proofs.Sets.{touching_unwritten}
use Rattle.order_touch.proofs.add_if_written.Goals as goal

pub returns-else-writers-ne0 : goal.returns-else-writers-ne0
returns-else-writers-ne0 c = touching_unwritten _ _ _ c.if-writers-ne0.false
