-- `column` meets its contract.
use Rattle.text_write.proofs.column.Goals as goal

pub returns-then-n-p : goal.returns-then-n-p
returns-then-n-p c = rw c.if-n-p.true

pub returns-else-n-p : goal.returns-else-n-p
returns-else-n-p c = rw c.if-n-p.false
