-- The order that follows from a log's pairs by chaining, and the least pair of moves that passes a test
-- (SPECIFICATION 6.4, 6.5, 7.3).
use Rattle.std.specs.Prelude.{Option, None, Some}
use Rattle.std.specs.Prelude.{Bool, List, [], ◌∷◌, ◌++◌, ℕ, zero, suc, eqb, get_or, if◌then◌else◌}
use Rattle.std.specs.Int.Bits.{bit_or}
use Rattle.text.specs.Words.{least_from, Checked, good, refused}
use Rattle.order.specs.Sets.{bit, with_move}

-- a pair of a log: move `earlier` comes before move `later`
pub record Pair : Type 0 where
  pub earlier : ℕ
  pub later : ℕ

-- ---- chaining

-- the set of the predecessors of move j, from those of the lower moves: each pair's earlier move, and the predecessors of that move
unfoldable pub predecessors_of : List ℕ → ℕ → List Pair → ℕ
predecessors_of predecessors j [] = 0
predecessors_of predecessors j (p ∷ ps) =
    let r = predecessors_of predecessors j ps in
    if eqb p.later j then bit_or (with_move (get_or predecessors p.earlier 0) p.earlier) r else r

-- for each of the first n moves the set of its predecessors; a pair's earlier move has the lower number
unfoldable pub predecessors : List Pair → ℕ → List ℕ
predecessors ps zero = []
predecessors ps (suc n) = let r = predecessors ps n in r ++ (predecessors_of r n ps ∷ [])

-- i is a predecessor of j, rs being the sets of predecessors
abbrev pub ordered_by : List ℕ → ℕ → ℕ → Bool
ordered_by rs i j = bit (get_or rs j 0) i

-- ---- a pair of moves i < j < m that passes a test: the least, by its first move and then its second

-- the result of a search for a pair of moves
pub data PairFound : Type 0 where
  no_pair : PairFound
  a_pair : ℕ → ℕ → PairFound

-- the pair of i and the second move found, or else r
abbrev pub or_else : ℕ → Option ℕ → PairFound → PairFound
or_else i None r = r
or_else i (Some j) r = a_pair i j

-- the least pair that passes the test f and whose first move is one of the n from i on
unfoldable pub least_pair_from : (ℕ → ℕ → Bool) → ℕ → ℕ → PairFound
least_pair_from f i zero = no_pair
least_pair_from f i (suc n) = let r = least_pair_from f (suc i) n in or_else i (least_from (f i) n (suc i)) r

-- the least pair i < j < m that passes the test f
abbrev pub least_pair : (ℕ → ℕ → Bool) → ℕ → PairFound
least_pair f m = least_pair_from f 0 m

-- refused with the number n at the pair found; accepted if none was found
unfoldable pub no_pair_at : ℕ → PairFound → Checked (Unit {0})
no_pair_at n no_pair = good tt
no_pair_at n (a_pair i j) = refused n i j
