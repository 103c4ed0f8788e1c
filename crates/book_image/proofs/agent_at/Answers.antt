-- `agent_at` meets its contract.
use mathlib.Core.Path.{sym}
use Rattle.book.proofs.Image.{agent_inside, agent_past}
use Rattle.book_image.proofs.Bounds.{min_capped}
use Rattle.book_image.proofs.agent_at.Goals as goal

pub returns-then-i-min : goal.returns-then-i-min
returns-then-i-min c = let a = c.args in sym (agent_inside a.image.now a.i (rw (← min_capped _ _, ← c.min.ensures) c.if-i-min.true))

pub returns-else-i-min : goal.returns-else-i-min
returns-else-i-min c = let a = c.args in sym (agent_past a.image.now a.i (rw (← min_capped _ _, ← c.min.ensures) c.if-i-min.false))
