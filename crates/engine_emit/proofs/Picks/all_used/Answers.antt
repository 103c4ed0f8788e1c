-- `all_used` meets its contract.
use mathlib.Core.Path.{refl}
use mathlib.Core.List.{[]}
use Rattle.engine_emit.specs.Emit.{reached}
use Rattle.engine_emit.proofs.Steps.{taken_all, taken_some}
use Rattle.engine_emit.proofs.Stepped.{bare, stepped_to, stepped_as}
use Rattle.engine_emit.proofs.Picks.all_used.Goals as goal

pub returns-then-self : goal.returns-then-self
unfolding reached
returns-then-self g c =
    let a = c.args in
    λ l. stepped_as (taken_some (bare a.s) l a.self.now.given.now a.self.now.used a.root c.if-self.true) (c.refuse_at.ensures [] l)

pub returns : goal.returns
unfolding reached
returns g c =
    let a = c.args in
    λ l. stepped_to refl refl (taken_all (bare a.s) l a.self.now.given.now a.self.now.used a.root c.if-self.false)
