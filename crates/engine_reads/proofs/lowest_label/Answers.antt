-- `lowest_label` meets its contract.
use Rattle.std.proofs.Common.{◌≡◌, sym, ◌∙◌, arith, get_or}
use borrow.Author.Tests.{lt-ltb, le-ltb}
use Rattle.book.specs.Image.{low_program}
use Rattle.engine_term.specs.Marks.{marked}
use Rattle.engine_reads.proofs.Labels.{lowest_stop, lowest_pass, lowest_end, runs_lowest}
use Rattle.book.proofs.Held.{elements_held}
use Rattle.engine_reads.proofs.lowest_label.Goals as goal

pub returns-then-fetch-eq2 : goal.returns-then-fetch-eq2
unfolding marked
returns-then-fetch-eq2 c =
    let a = c.args in
    let f = a.frame.now in
    let e = c.elements-e.result in
    let l = c.loop-x in
    let h = c.loop-x-test.true in
    let q = lowest_stop f.contents.now e l.x h (omega (arith, c.fetch.ensures, c.if-fetch-eq2.true)) in
    runs_lowest (low_program f.image.now) f.contents.now f.bit a.from e l.x _ _ (elements_held _ _ c.elements-e.ensures).0 (rw (lt-ltb l.x e h) (sym q.0 ∙ l.invariant.0)) (c.mark.ensures ∙ (rw q.1 at l.invariant.1))

pub loop-x-preserved : goal.loop-x-preserved
unfolding marked
loop-x-preserved c =
    let a = c.args in
    let f = a.frame.now in
    let l = c.loop-x in
    let g : (get_or f.contents.now l.x 0 ≡ 2) → ⊥ = λ z. c.if-fetch-eq2.false (omega (arith, c.fetch.ensures, z)) in
    let q = lowest_pass f.contents.now c.elements-e.result l.x c.loop-x-test.true g in
    (sym q.0 ∙ l.invariant.0, rw c.mark.ensures (rw q.1 at l.invariant.1))

pub returns : goal.returns
unfolding marked
returns c =
    let a = c.args in
    let f = a.frame.now in
    let e = c.elements-e.result in
    let l = c.loop-x in
    let h = c.loop-x-test.false in
    let q = lowest_end f.contents.now e l.x h in
    runs_lowest (low_program f.image.now) f.contents.now f.bit a.from e e _ _ (elements_held _ _ c.elements-e.ensures).0 (rw (le-ltb e e (omega arith)) (sym q.0 ∙ l.invariant.0)) (rw q.1 at l.invariant.1)
