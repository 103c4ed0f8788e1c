-- `push` meets its contract.
use mathlib.Core.Path.{sym, ◌∙◌}
use Rattle.text.proofs.Fields.{pushed, ended}
use borrow.Author.Tests.{eq-eqb, ne_eqb}
use native.Mathlib.Omega.{arith}
use Rattle.text.proofs.push.Goals as goal

pub returns-then-b-eq32 : goal.returns-then-b-eq32
returns-then-b-eq32 c = let a = c.args in (sym (pushed a.text.now a.at a.n c.if-at-text.true ∙ rw (eq-eqb _ _ c.if-b-eq32.true)), omega arith)

pub returns-then-b-lt48 : goal.returns-then-b-lt48
returns-then-b-lt48 c = let a = c.args in let b = c.shared_slice_known-1.given a.at in (sym (pushed a.text.now a.at a.n c.if-at-text.true ∙ rw (ne_eqb _ _ c.if-b-eq32.false) (omega arith)), omega arith)

pub returns-else-b-lt48 : goal.returns-else-b-lt48
returns-else-b-lt48 c = let a = c.args in let b = c.shared_slice_known-1.given a.at in (sym (pushed a.text.now a.at a.n c.if-at-text.true ∙ rw (ne_eqb _ _ c.if-b-eq32.false) (omega arith)), omega (arith, b))

pub returns-else-at-text : goal.returns-else-at-text
returns-else-at-text c = let a = c.args in (sym (ended a.text.now a.at a.n c.if-at-text.false), omega arith)
