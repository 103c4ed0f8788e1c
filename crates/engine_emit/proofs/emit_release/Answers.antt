-- `emit_release` meets its contract.
use native.Mathlib.Omega.{arith}
use mathlib.Core.Path.{◌≡◌, sym}
use mathlib.Core.Bool.{true, false}
use borrow.Author.Tests.{lt-ltb, le-ltb, eq-eqb, ne_eqb}
use Rattle.engine.specs.Rule.{walking, unreleasable}
use Rattle.book.specs.Image.{low_program}
use Rattle.engine_emit.specs.Emit.{walk_from}
use Rattle.engine_emit.proofs.Stepped.{stepped_as}
use Rattle.engine_emit.proofs.Steps.{freeing_ok, freeing_bad}
use Rattle.engine_emit.proofs.emit_release.Goals as goal

pub returns-then-x-permanent : goal.returns-then-x-permanent
returns-then-x-permanent g c =
    let a = c.args in
    let B = low_program a.image.now in
    let e : unreleasable B a.x a.v ≡ true = rw (← c.permanent.ensures, lt-ltb a.x c.permanent.result c.if-x-permanent.true) in
    λ ys. stepped_as (sym (freeing_bad B a.x a.v a.n e (walking (walk_from ys a.s a.list.now)))) (c.refuse_at.ensures ys a.list.now)

pub returns-then-v-eq2 : goal.returns-then-v-eq2
returns-then-v-eq2 g c =
    let a = c.args in
    let B = low_program a.image.now in
    let e : unreleasable B a.x a.v ≡ true = rw (← c.permanent.ensures, le-ltb a.x c.permanent.result c.if-x-permanent.false, eq-eqb a.v 2 (omega (arith, c.if-v-eq2.true))) in
    λ ys. stepped_as (sym (freeing_bad B a.x a.v a.n e (walking (walk_from ys a.s a.list.now)))) (c.refuse_at-then-v-eq2.ensures ys a.list.now)

pub returns-else-v-eq2 : goal.returns-else-v-eq2
returns-else-v-eq2 g c =
    let a = c.args in
    let B = low_program a.image.now in
    let e : unreleasable B a.x a.v ≡ false = rw (← c.permanent.ensures, le-ltb a.x c.permanent.result c.if-x-permanent.false, ne_eqb a.v 2 (λ z. c.if-v-eq2.false (omega (arith, z)))) in
    λ ys. stepped_as (sym (freeing_ok B a.x a.v a.n e (walking (walk_from ys a.s a.list.now)))) (c.emit.ensures ys)
