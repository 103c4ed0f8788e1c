-- `lay_functions` meets its contract.
use native.Mathlib.Omega.{arith}
use Rattle.book_load.proofs.Loaded.{other_rows}
use Rattle.book.proofs.Image.{first_none, first_step, filled_start, filled_step, filled_end, size_most}
use Rattle.book.specs.Image.{image_row, laid_row}
use Rattle.text.specs.declared.Line.{Line}
use Prim.Native.Nat.{ℕ, ◌+◌}
use mathlib.Core.Path.{◌≡◌, refl, sym, ◌∙◌}
use Rattle.book_load.proofs.lay_functions.Goals as goal

pub loop-i-init : goal.loop-i-init
loop-i-init c = let a = c.args in (first_none (λ f. image_row a.image.now (2 + f)) a.e, omega arith, λ j g. refl, filled_start (laid_row (λ f. image_row a.image.now (2 + f)) a.e) 2 a.n a.image.now)

pub loop-i-preserved : goal.loop-i-preserved
loop-i-preserved c = let a = c.args in let l = c.loop-i in let at : ℕ → Line = (λ f. image_row a.image.now (2 + f)) in let s = size_most a.e c.row-l.result.a c.requires.0 in let r : c.row-l.result ≡ at l.i = c.row-l.ensures ∙ l.invariant.2 l.i (omega arith) in (rw (first_step at a.e l.i, c.size-sum.ensures, r, l.invariant.0), omega (arith, c.size-sum.ensures, s, l.invariant.1), rw c.store.ensures.0 (other_rows _ l.image a.image.now l.i l.invariant.2), rw (c.store.ensures.0, c.stride.ensures, r, l.invariant.0) (filled_step (laid_row at a.e) 2 a.n l.i l.image c.loop-i-test.true ∙ l.invariant.3))

pub returns : goal.returns
returns c = let a = c.args in let l = c.loop-i in let e : l.i ≡ a.n = omega arith in (l.invariant.0 ∙ rw e, sym (filled_end (laid_row (λ f. image_row a.image.now (2 + f)) a.e) 2 a.n l.i l.image c.loop-i-test.false) ∙ l.invariant.3)
