-- The updates of a list of instructions and their least clash (SPECIFICATION 4.7, 4.8).
use Rattle.std.specs.Prelude.{Option}
use Rattle.std.specs.Prelude.{List, ℕ, length}
use Rattle.text.specs.Words.{least}
use Rattle.book.specs.Image.{low_program}
use Rattle.engine.specs.Move.{updates, clashes}
use Rattle.engine_instruction.specs.Code.{decoded}

-- the updates of a list of instructions, in the contents c of the book that an image holds
abbrev pub updates_by : List ℕ → List ℕ → List ℕ → List (List ℕ)
updates_by image c list = updates (low_program image) c (decoded list)

-- the least location that clashes by the instructions of a list
abbrev pub clash_by : List ℕ → List ℕ → List ℕ → Option ℕ
clash_by image c list = least (clashes (decoded list) (updates_by image c list)) (length (updates_by image c list))
