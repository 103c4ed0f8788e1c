-- `least_with` meets its contract.
use Rattle.engine_clash.proofs.Laws.{other_any}
use Rattle.engine_clash.specs.LeastClash.{held_place, values_given_by}
use Rattle.engine_instruction.specs.Given.{own, gets}
use Rattle.engine_instruction.specs.Code.{decoded}
use Rattle.engine.specs.Move.{other}
use Rattle.book.specs.Image.{low_program}
use borrow.Author.Tests.{lt-ltb}
use native.Mathlib.Omega.{arith}
use Prim.Native.Nat.{◌<◌}
use mathlib.Core.Path.{◌≡◌, sym, ◌∙◌}
use Rattle.engine_clash.proofs.least_with.Goals as goal

pub returns-then-some_gives_other : goal.returns-then-some_gives_other
returns-then-some_gives_other c = let a = c.args in
    let B = low_program a.image.now in
    let w = c.own_value.result in
    let is = decoded a.list.now in
    let at = c.own_location-at in
    let h : other (gets a.what) (values_given_by (held_place B a.contents.now (own a.what)) is) ≡ c.some_gives_other.result = rw (← c.own_value.ensures, ← at.ensures) (other_any w (held_place B a.contents.now at.result) is ∙ sym (c.some_gives_other.ensures ∙ rw c.held_place-s.ensures)) in
    let below : at.result < a.best = omega (arith, c.if-best-at.false) in
    rw (h, ← at.ensures, lt-ltb _ _ below, c.if-some_gives_other.true)

pub returns : goal.returns
returns c = let a = c.args in
    let B = low_program a.image.now in
    let w = c.own_value.result in
    let is = decoded a.list.now in
    let at = c.own_location-at in
    let h : other (gets a.what) (values_given_by (held_place B a.contents.now (own a.what)) is) ≡ c.some_gives_other.result = rw (← c.own_value.ensures, ← at.ensures) (other_any w (held_place B a.contents.now at.result) is ∙ sym (c.some_gives_other.ensures ∙ rw c.held_place-s.ensures)) in
    let below : at.result < a.best = omega (arith, c.if-best-at.false) in
    rw (h, ← at.ensures, lt-ltb _ _ below, c.if-some_gives_other.false, ← c.sets_released.ensures, c.if-sets_released.false)
