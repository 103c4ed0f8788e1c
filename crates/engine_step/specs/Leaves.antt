-- The single-move entry: what a call leaves (SPECIFICATION 8.3, 9.2).
use Rattle.std.specs.Prelude.{◌≡◌, List, ℕ}
use Rattle.text.specs.Words.{Answer}
use Rattle.engine.specs.Single.{Stepped}
use Rattle.engine_instruction.specs.Code.{items}

-- the answer a, the first n instructions of the list l, and the contents d are those that the call leaves
pub record CallLeaves (a : Answer) (n : ℕ) (l d : List ℕ) (s : Stepped) : Type 0 where
  pub answer : a ≡ s.answer
  pub instructions : items l n ≡ s.instructions
  pub contents : d ≡ s.contents
