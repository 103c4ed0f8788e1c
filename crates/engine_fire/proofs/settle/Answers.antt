-- `settle` meets its contract.
use mathlib.Core.Path.{sym, ◌∙◌}
use Prim.Native.Nat.{◌≤◌}
use native.Mathlib.Omega.{arith}
use borrow.Author.Tests.{ltb-true, ltb-false}
use Rattle.book.specs.Book.{L}
use Rattle.book.specs.Image.{low_program}
use Rattle.book_parts.proofs.Places.{locations_fit}
use Rattle.engine_fire.proofs.Outcomes.{clash_settled, fire_settled, clash_at, clash_none}
use Rattle.engine.specs.Tables.{tables}
use Rattle.engine_fire.proofs.settle.Goals as goal

pub returns-then-is_location : goal.returns-then-is_location
returns-then-is_location c =
    λ strides.
    let a = c.args in
    let m = a.image.now in
    let r = c.least_clash-at in
    let high : L (low_program m) ≤ 4294967295 = omega (arith, locations_fit m) in
    let h = ltb-true r.result (L (low_program m)) (sym c.is_location.ensures ∙ c.if-is_location.true) in
    clash_settled m a.list.now a.bit (tables a.contents.now a.readers.now a.writers.now) r.result
    (clash_at m a.contents.now a.list.now 4294967295 high strides r.result r.ensures h)

pub returns : goal.returns
returns c =
    λ strides.
    let a = c.args in
    let m = a.image.now in
    let r = c.least_clash-at in
    let f = c.fire-tally in
    let high : L (low_program m) ≤ 4294967295 = omega (arith, locations_fit m) in
    let h = ltb-false r.result (L (low_program m)) (sym c.is_location.ensures ∙ c.if-is_location.false) in
    let e = clash_none m a.contents.now a.list.now 4294967295 high strides r.result r.ensures h in
    fire_settled m a.list.now a.bit (tables a.contents.now a.readers.now a.writers.now) e f.result f.ensures.value (tables f.new.contents f.new.readers f.new.writers)
    (f.ensures.fires_to strides e) f.ensures.readers_after (f.ensures.writers_after strides)
