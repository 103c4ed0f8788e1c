-- `is_dynamic_at` meets its contract.
use Rattle.book.proofs.Held.{elements_held}
use Rattle.book.specs.Image.{low_program}
use mathlib.Core.Path.{◌∙◌}
use Rattle.engine_term.proofs.Leaves.{past_elements, within_elements}
use Rattle.engine_term.proofs.is_dynamic_at.Goals as goal

pub returns-then-e-x : goal.returns-then-e-x
returns-then-e-x c =
    let a = c.args in
    let e = (elements_held _ _ c.elements-e.ensures).0 in
    c.dynamic_at.ensures ∙ rw (past_elements (low_program a.image.now).E a.x a.y (rw (← e) c.if-e-x.true))

pub returns : goal.returns
returns c =
    let a = c.args in
    let e = (elements_held _ _ c.elements-e.ensures).0 in
    c.is_dynamic.ensures ∙ rw (within_elements (low_program a.image.now).E a.x a.y (rw (← e) c.if-e-x.false))
