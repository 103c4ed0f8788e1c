-- `clear_marks` meets its contract.
use mathlib.Core.Path.{◌∙◌}
use borrow.Author.Tests.{eq-eqb, ne_eqb}
use Rattle.engine_walk.proofs.clear_marks.Goals as goal

pub returns-then-bit-ne0 : goal.returns-then-bit-ne0
returns-then-bit-ne0 c = c.mask_marks.ensures ∙ rw (ne_eqb c.args.bit 0 c.if-bit-ne0.true)

pub returns-else-bit-ne0 : goal.returns-else-bit-ne0
returns-else-bit-ne0 c = rw (eq-eqb c.args.bit 0 c.if-bit-ne0.false)
