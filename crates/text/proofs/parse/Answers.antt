-- `parse` meets its contract.
use native.Mathlib.Omega.{arith}
use Rattle.text.proofs.Fields.{line_read, line_unread, cut_line}
use mathlib.Core.Path.{◌∙◌}
use Rattle.text.proofs.parse.Goals as goal

pub returns-then-a-b : goal.returns-then-a-b
returns-then-a-b c = let a = c.args in line_read a.text.now a.i _ _ _ _ (omega (arith, c.if-text-at.false)) c.field-a.ensures c.field-b.ensures c.field-c.ensures c.field-d.ensures c.if-a-b.true

pub returns : goal.returns
returns c = let a = c.args in line_unread a.text.now a.i _ _ _ _ (omega (arith, c.if-text-at.false)) c.field-a.ensures c.field-b.ensures c.field-c.ensures c.field-d.ensures c.if-a-b.false

pub returns-then-text-at : goal.returns-then-text-at
returns-then-text-at c = let a = c.args in rw (cut_line a.text.now a.i (omega (arith, c.if-text-at.true)))
