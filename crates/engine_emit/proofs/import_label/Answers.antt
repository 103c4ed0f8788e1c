-- `import_label` meets its contract.
use mathlib.Core.Path.{sym}
use Prim.Native.Nat.{◌<◌, ◌≤◌}
use native.Mathlib.Omega.{arith}
use Rattle.engine.specs.Rule.{walking}
use Rattle.book.specs.Image.{low_program}
use Rattle.engine_emit.specs.Emit.{walk_from}
use Rattle.engine_emit.proofs.Stepped.{stepped_as}
use Rattle.engine_emit.proofs.Steps.{enrolling_in, enrolling_none}
use Rattle.book.proofs.Held.{elements_held}
use Rattle.engine_emit.proofs.import_label.Goals as goal

pub returns-then-x-elements : goal.returns-then-x-elements
returns-then-x-elements g c =
    let a = c.args in
    let h : a.x < (low_program a.image.now).E = omega (arith, (elements_held _ _ c.elements.ensures).0, c.if-x-elements.true) in
    λ ys. stepped_as (sym (enrolling_in (low_program a.image.now).E a.at a.x a.n h (walking (walk_from ys a.s a.list.now)))) (c.emit_import.ensures ys)

pub returns-else-x-elements : goal.returns-else-x-elements
returns-else-x-elements g c =
    let a = c.args in
    let h : (low_program a.image.now).E ≤ a.x = omega (arith, (elements_held _ _ c.elements.ensures).0, c.if-x-elements.false) in
    λ ys. stepped_as (sym (enrolling_none (low_program a.image.now).E a.at a.x a.n h (walking (walk_from ys a.s a.list.now)))) (c.refuse_at.ensures ys a.list.now)
