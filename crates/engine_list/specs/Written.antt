-- The instruction list that a caller lends, once a move's instructions are written into it.
use Rattle.std.specs.Prelude.{◌≡◌, List, [], ◌∷◌, ℕ, min, length}
use Rattle.engine.specs.declared.Instruction.{Instruction}
use Rattle.engine.specs.declared.Record.{Record}
use Rattle.engine_instruction.specs.Code.{items}

-- the instruction of a record
abbrev pub what_of : Record → Instruction
what_of r = r.what

-- records ys with the instructions is in front, as far as there are records; every other record as it was
unfoldable pub records_written : List Instruction → List Record → List Record
records_written [] ys = ys
records_written (i ∷ is) [] = []
records_written (i ∷ is) (y ∷ ys) = record { what = i } ∷ records_written is ys

-- records ys after each list of instructions has been written into them, one after the other
unfoldable pub all_records_written : List (List Instruction) → List Record → List Record
all_records_written [] ys = ys
all_records_written (is ∷ iss) ys = all_records_written iss (records_written is ys)

-- how many of the first n numbers of xs go through the list ys: those that have a number and a record
abbrev pub through : ℕ → List Record → List ℕ → ℕ
through n ys xs = min n (min (length ys) (length xs))

-- The first n of the numbers xs went through the list ys: it is now zs, as written, and the numbers us stand for the same instructions.
abbrev pub PassedThrough : ℕ → List Record → List ℕ → List Record → List ℕ → Type 0
PassedThrough n ys xs zs us = (zs ≡ records_written (items xs n) ys) × (items us (through n ys xs) ≡ items xs (through n ys xs))
