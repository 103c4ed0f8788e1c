-- `is_reserve_dynamic` meets its contract.
use mathlib.Core.Path.{sym}
use Prim.Native.Nat.{◌<◌}
use Rattle.book.specs.Image.{low_program}
use Rattle.book.proofs.Held.{elements_held}
use Rattle.engine_reads.proofs.is_reserve_dynamic.Goals as goal

pub returns-then-x-elements : goal.returns-then-x-elements
returns-then-x-elements c =
    let a = c.args in
    let h : a.x < (low_program a.image.now).E = rw (← (elements_held _ _ c.elements.ensures).0) c.if-x-elements.true in
    λ p. sym (p.roll a.x h)
