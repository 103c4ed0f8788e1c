-- `next` meets its contract.
use mathlib.Core.Path.{sym, ◌∙◌}
use Prim.Native.Nat.{◌<◌, ◌≤◌}
use native.Mathlib.Omega.{arith}
use lib.ListN.{get_or}
use Rattle.book.specs.Image.{low_program}
use Rattle.book.proofs.Held.{elements_held}
use Rattle.engine_emit.proofs.Steps.{next_low, next_high, next_none}
use Rattle.engine_emit.proofs.Picks.next.Goals as goal

pub returns-then-y-e : goal.returns-then-y-e
returns-then-y-e c =
    let a = c.args in
    let B = low_program a.image.now in
    let ys = a.self.now.given.now in
    let i = a.self.now.used in
    let e = (elements_held _ _ c.elements-e.ensures).0 in
    let h : get_or ys i 0 < B.E = omega (arith, e, c.if-y-e.true) in
    sym (next_low B.E ys i c.if-i-self.true h)

pub returns-else-y-e : goal.returns-else-y-e
returns-else-y-e c =
    let a = c.args in
    let B = low_program a.image.now in
    let ys = a.self.now.given.now in
    let i = a.self.now.used in
    let e = (elements_held _ _ c.elements-e.ensures).0 in
    let h : B.E ≤ get_or ys i 0 = omega (arith, e, c.if-y-e.false) in
    e ∙ sym (next_high B.E ys i c.if-i-self.true h)

pub returns-else-i-self : goal.returns-else-i-self
returns-else-i-self c =
    let a = c.args in
    let B = low_program a.image.now in
    let e = (elements_held _ _ c.elements-e.ensures).0 in
    e ∙ sym (next_none B.E a.self.now.given.now a.self.now.used c.if-i-self.false)
