-- `take` meets its contract.
use mathlib.Core.Path.{refl}
use native.Mathlib.Omega.{arith}
use Rattle.std.proofs.lemmas.List.{take_rest}
use Rattle.engine_emit.specs.Emit.{reached, picks_left}
use Rattle.engine_emit.proofs.Steps.{picking_none, picking_some, picking_other}
use Rattle.engine_emit.proofs.Stepped.{bare, stepped_to, stepped_as}
use Rattle.engine_emit.proofs.Picks.take.Goals as goal

pub returns-then-self-i-clause-walked : goal.returns-then-self-i-clause-walked
unfolding reached
returns-then-self-i-clause-walked g c =
    let a = c.args in
    λ l. stepped_as (picking_none (bare a.s) l a.self.now.given.now a.self.now.used a.v a.n c.if-self-i.true) (c.refuse_at.ensures (picks_left a.self.now) l)

pub returns-then-v-ne2-clause-walked : goal.returns-then-v-ne2-clause-walked
unfolding reached
returns-then-v-ne2-clause-walked g c =
    let a = c.args in
    λ l. stepped_as (picking_other (bare a.s) l a.self.now.given.now a.self.now.used a.v a.n c.if-self-i.false c.if-v-ne2.true) (c.refuse_at-then-v-ne2.ensures (picks_left a.self.now) l)

-- what is left is the same list whether the used picks are counted or cut off
pub returns-clause-walked : goal.returns-clause-walked
unfolding reached
returns-clause-walked g c =
    let a = c.args in
    λ l. stepped_to refl refl (grind (arith, take_rest, picking_some (bare a.s) l a.self.now.given.now a.self.now.used a.v a.n c.if-self-i.false c.if-v-ne2.false))
