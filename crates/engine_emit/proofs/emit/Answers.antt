-- `emit` meets its contract.
use native.Mathlib.Omega.{arith}
use mathlib.Core.Path.{refl}
use Rattle.engine_emit.proofs.Steps.{give_room, give_full}
use Rattle.engine_emit.proofs.Stepped.{stepped_over, stepped_to, stepped_as, none_is}
use Rattle.engine_emit.proofs.emit.Goals as goal

pub returns-then-is_some : goal.returns-then-is_some
returns-then-is_some g c = λ ys. stepped_over c.is_some.ensures c.if-is_some.true refl refl

pub returns-then-at-lt-MOST_INSTRUCTIONS : goal.returns-then-at-lt-MOST_INSTRUCTIONS
returns-then-at-lt-MOST_INSTRUCTIONS g c =
    let a = c.args in
    λ ys.
    let k = give_room ys a.s a.list.now a.i a.n c.requires c.code.result (omega (arith, c.if-at-lt-MOST_INSTRUCTIONS.true)) c.code.ensures in
    stepped_to (none_is c.is_some.ensures c.if-is_some.false) refl k

pub returns-else-at-lt-MOST_INSTRUCTIONS : goal.returns-else-at-lt-MOST_INSTRUCTIONS
returns-else-at-lt-MOST_INSTRUCTIONS g c =
    let a = c.args in
    λ ys. stepped_as (give_full ys a.s a.list.now a.i a.n c.requires (omega (arith, c.if-at-lt-MOST_INSTRUCTIONS.false))) (c.refuse_at.ensures ys a.list.now)
