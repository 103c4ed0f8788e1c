-- `last_at_slot` meets its contract.
use mathlib.Core.Path.{◌≡◌}
use Prim.Native.Nat.{◌-◌, ◌<◌}
use lib.ListN.{get_or}
use Rattle.engine_clash.specs.Steps.{slot_of}
use Rattle.engine_clash.proofs.Rivals.{Down}
use Rattle.engine_clash.proofs.last_at_slot.Given as goal

abbrev pub invariant-loop-i : goal.invariant-loop-i
invariant-loop-i l = Down l.list l.code l.p l.i × (0 < l.i → slot_of (get_or l.list (l.i - 1) 0) ≡ slot_of l.code)

abbrev pub decreases-loop-i : goal.decreases-loop-i
decreases-loop-i l = l.i
