-- What a move's walk leaves: its outcome, and its marks, which a refused move does not leave.
use Rattle.std.specs.Prelude.{◌≡◌, List, map, ℕ, ◌-◌, ◌^◌, ◌<◌, eqb, get_or, if◌then◌else◌}
use Rattle.std.specs.Int.Bits.{bit_and}
use Rattle.book.specs.Book.{Program}
use Rattle.engine.specs.Rule.{Walk, Walked, walking, refused_at}
use Rattle.engine.specs.Move.{Input, walked, walk_reads}
use Rattle.engine_term.specs.Marks.{marked, Placed}

-- the marks m without the bits that the mask lacks
abbrev pub masked : ℕ → List ℕ → List ℕ
masked mask m = map (λ v. bit_and v mask) m

-- the marks m without this bit and the higher ones
abbrev pub bits_cleared : ℕ → List ℕ → List ℕ
bits_cleared bit m = if eqb bit 0 then m else masked (bit - 1) m

-- the marks m are of moves with lower bits than this one
abbrev pub LowerBits : ℕ → List ℕ → Type 0
LowerBits bit m = (i : ℕ) → get_or m i 0 < bit

-- The walk of a move with this input came to the outcome o, and the marks m became n.
pub record WalkMarked (B : Program) (c : List ℕ) (bit : ℕ) (i : Input) (o : Walked) (m n : List ℕ) : Type 0 where
  -- what the walk came to
  pub outcome : Placed B → o ≡ walked B c i
  -- not refused: what it reads has the bit
  pub fired : Placed B → (w : Walk) → o ≡ walking w → n ≡ marked bit (walk_reads B c i) m
  -- refused: the marks are as before, if all had lower bits
  pub refused : Placed B → (r q : ℕ) → o ≡ refused_at r q → (k : ℕ) → bit ≡ 2 ^ k → LowerBits bit m → n ≡ m
  -- the bit 0 marks nothing
  pub silent : Placed B → bit ≡ 0 → n ≡ m
