-- A law of lists of instructions: a length that is clipped.
use mathlib.Core.Path.{◌≡◌}
use mathlib.Core.List.{List}
use Prim.Native.Nat.{ℕ, min}
use lib.ListN.{length}
use Rattle.engine_instruction.specs.Code.{items}
use Rattle.engine_instruction.proofs.Laws.{take_min}

-- the first n numbers of a list are no more than it has
pub clipped : (l : List ℕ) (n m : ℕ) → m ≡ min n (length l) → items l m ≡ items l n
clipped l n m e = rw (take_min l m n e)
