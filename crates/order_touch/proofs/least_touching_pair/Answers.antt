-- `least_touching_pair` meets its contract.
use Rattle.order_touch.proofs.Best.{all_found}
use Prim.Native.Nat.{ℕ, min}
use mathlib.Core.Path.{ap, ◌∙◌}
use Rattle.order_touch.proofs.least_touching_pair.Goals as goal

pub returns : goal.returns
returns c = let a = c.args in all_found a.order.now a.readers.now a.writers.now c.touching_sets-touching.result c.min-n.result a.locations c.min-2.result a.moves c.least_pair.result (c.min-n.ensures ∙ ap (λ (x : ℕ). min a.locations x) c.min.ensures) c.touching_sets-touching.ensures c.min-2.ensures c.least_pair.ensures
