-- `emit_update` meets its contract.
use mathlib.Core.Path.{◌≡◌, sym, ◌∙◌}
use mathlib.Core.Bool.{true, false, ◌&&◌, not}
use Rattle.book.specs.Book.{boolean, relation, function_at}
use Rattle.engine.specs.Rule.{walking}
use Rattle.book.specs.Image.{low_program}
use Rattle.engine_emit.specs.Emit.{walk_from}
use Rattle.engine_emit.proofs.Stepped.{stepped_as}
use Rattle.engine_emit.proofs.Steps.{setting_ok, setting_bad}
use Rattle.book.proofs.Held.{function_held}
use Rattle.engine_emit.proofs.emit_update.Goals as goal

pub returns-then-is_boolean : goal.returns-then-is_boolean
returns-then-is_boolean g c =
    let a = c.args in
    let B = low_program a.image.now in
    let e : (relation (function_at B a.f) && not (boolean a.x)) ≡ false = rw (← function_held _ _ _ c.function_at.ensures, sym c.is_relation.ensures ∙ c.if-is_relation.true, sym c.is_boolean.ensures ∙ c.if-is_boolean.true) in
    λ ys. stepped_as (sym (setting_ok B a.f a.at a.x a.n e (walking (walk_from ys a.s a.list.now)))) (c.emit.ensures ys)

pub returns-else-is_boolean : goal.returns-else-is_boolean
returns-else-is_boolean g c =
    let a = c.args in
    let B = low_program a.image.now in
    let e : (relation (function_at B a.f) && not (boolean a.x)) ≡ true = rw (← function_held _ _ _ c.function_at.ensures, sym c.is_relation.ensures ∙ c.if-is_relation.true, sym c.is_boolean.ensures ∙ c.if-is_boolean.false) in
    λ ys. stepped_as (sym (setting_bad B a.f a.at a.x a.n e (walking (walk_from ys a.s a.list.now)))) (c.refuse_at.ensures ys a.list.now)

pub returns-else-is_relation : goal.returns-else-is_relation
returns-else-is_relation g c =
    let a = c.args in
    let B = low_program a.image.now in
    let e : (relation (function_at B a.f) && not (boolean a.x)) ≡ false = rw (← function_held _ _ _ c.function_at.ensures, sym c.is_relation.ensures ∙ c.if-is_relation.false) in
    λ ys. stepped_as (sym (setting_ok B a.f a.at a.x a.n e (walking (walk_from ys a.s a.list.now)))) (c.emit-else-is_relation.ensures ys)
