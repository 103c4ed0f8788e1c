-- A move's instructions as the code holds them: each is one number.
use Rattle.std.specs.Prelude.{List, map, ℕ, ◌/◌, ◌%◌, ltb, take, if◌then◌else◌}
use Rattle.engine.specs.declared.Instruction.{Instruction}
use Rattle.engine.specs.declared.Instruction.TheVariants.{Update, Release}

-- the instruction that a number stands for: an update's location and value, or from 2^48 on a release's label
unfoldable pub decode_of : ℕ → Instruction
decode_of c = if ltb c 281474976710656 then Update (c / 65536) (c % 65536) else Release (c % 65536)

-- the instructions that the numbers of a list stand for
abbrev pub decoded : List ℕ → List Instruction
decoded list = map decode_of list

-- the instructions that the first n numbers of a list stand for
abbrev pub items : List ℕ → ℕ → List Instruction
items list n = decoded (take n list)
