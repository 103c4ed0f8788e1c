-- `all_marks` meets its contract: where all marks in one are 0, each mark that was passed is 0.
use mathlib.Core.Path.{◌≡◌}
use Prim.Native.Nat.{ℕ, ◌<◌}
use lib.ListN.{get_or}
use Rattle.order_touch.proofs.all_marks.Given as goal

abbrev pub invariant-loop-mark : goal.invariant-loop-mark
invariant-loop-mark l = l.all ≡ 0 → (k : ℕ) → k < l.mark-index → get_or l.part k 0 ≡ 0
