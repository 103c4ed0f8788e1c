-- A set of moves is a number, with bit i for move i (SPECIFICATION 5.6: a mark is a set of 64 moves).
use Rattle.std.specs.Prelude.{Bool, ℕ, ◌/◌, ◌%◌, ◌^◌, eqb}
use Rattle.std.specs.Int.Bits.{bit_or}

-- the set s has move i
unfoldable pub bit : ℕ → ℕ → Bool
bit s i = eqb (s / 2 ^ i % 2) 1

-- the set s with move i
abbrev pub with_move : ℕ → ℕ → ℕ
with_move s i = bit_or s (2 ^ i)
