-- `faultless_value` meets its contract.
use mathlib.Core.Path.{◌≡◌, ◌∙◌}
use mathlib.Core.Bool.{not}
use Prim.Native.Nat.{◌<◌}
use borrow.Author.Tests.{ltb-true, eqb-false, not-true}
use lib.Dec.{eqb, ltb}
use lib.ListN.{get_or}
use Rattle.text.proofs.Words.{and_cases}
use Rattle.book.specs.Book.{default}
use Rattle.contents_check.proofs.Faults.{at_rest}
use Rattle.contents_check.proofs.faultless_value.Goals as goal

pub returns-then-v-e : goal.returns-then-v-e
returns-then-v-e c =
    λ B l e q h.
    let a = c.args in
    let d = c.default_of-v in
    let w = c.fetch in
    let t = and_cases (ltb d.result a.e) (not (eqb w.result 2)) c.if-v-e.true in
    let low : default a.f < B.E = rw (← d.ensures, e) (ltb-true d.result a.e t.0) in
    let off : get_or a.contents.now (default a.f) 0 ≡ 2 → ⊥ = rw (← d.ensures, ← w.ensures) (eqb-false w.result 2 (not-true (eqb w.result 2) t.1)) in
    at_rest B a.contents.now l a.f q (h ∙ d.ensures) low off
