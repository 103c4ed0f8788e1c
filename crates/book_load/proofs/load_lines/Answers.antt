-- `load_lines` meets its contract.
use borrow.Author.Tests.{not-false}
use native.Mathlib.Omega.{arith}
use Rattle.book_load.proofs.Loaded.{taken_none, taken_step}
use Rattle.book.specs.Lines.{first_entry}
use Rattle.text.proofs.Fields.{parsed_none, parsed_some}
use Rattle.text.proofs.Words.{least_pass, least_stop, least_end}
use Rattle.text.specs.Text.{bad_line}
use mathlib.Core.Bool.{not}
use mathlib.Core.Path.{◌≡◌, refl, sym, ap, ◌∙◌}
use Rattle.book_load.proofs.load_lines.Goals as goal

pub loop-i-init : goal.loop-i-init
loop-i-init c = let a = c.args in (refl, sym (taken_none a.h a.text.now a.image.now))

pub returns-in_default : goal.returns-in_default
returns-in_default c = let a = c.args in let l = c.loop-i in let w = parsed_none a.text.now l.i _ c.parse.ensures c.in_default.is in (least_stop (bad_line a.text.now) (first_entry a.h) l.i c.loop-i-test.true (ap not w) l.invariant.0, l.invariant.1)

pub loop-i-preserved : goal.loop-i-preserved
loop-i-preserved c = let a = c.args in let l = c.loop-i in let w = parsed_some a.text.now l.i _ c.parse.ensures _ c.in-Some.is in (least_pass (bad_line a.text.now) (first_entry a.h) l.i c.loop-i-test.true (ap not w.0) l.invariant.0, c.put_line.ensures ∙ rw (w.1, l.invariant.1) (sym (taken_step a.h a.text.now a.image.now l.i (omega arith))))

pub returns : goal.returns
returns c = let a = c.args in let l = c.loop-i in let e : l.i ≡ first_entry a.h = omega arith in (least_end (bad_line a.text.now) (first_entry a.h) l.i c.loop-i-test.false l.invariant.0, l.invariant.1 ∙ rw e)
