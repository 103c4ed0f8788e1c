-- `least_pair` meets its contract.
use Rattle.order.proofs.Best.{Best}
use Rattle.order.specs.Pairs.{ordered_by}
use Rattle.order.specs.Sets.{bit}
use lib.ListN.{get_or}
use Prim.Native.Nat.{ℕ, ◌≤◌}
use mathlib.Core.List.{List}
use mathlib.Core.Bool.{Bool, not, ◌&&◌}
use Rattle.order_touch.proofs.least_pair.Given as goal

-- moves i < j are unordered, and i is among those that touch j
abbrev pub pairs : List ℕ → List ℕ → ℕ → ℕ → Bool
pairs order touching i j = not (ordered_by order i j) && bit (get_or touching j 0) i

abbrev pub invariant-loop-j : goal.invariant-loop-j
invariant-loop-j l = (l.second ≤ 64) × Best (pairs l.order l.touching) l.j l.first l.second
