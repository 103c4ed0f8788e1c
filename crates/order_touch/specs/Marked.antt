-- Refusal 17 from marks: of the pairs of moves that the order leaves unordered, the least that touches at a location, by the bits of its two marks
-- (SPECIFICATION 5.5, 7.3).
use Rattle.std.specs.Prelude.{Option, None, Some, ◌≡◌, Bool, true, false, ◌&&◌, ◌||◌, not, List, ℕ, ◌<◌, ◌≤◌, min, length, get_or}
use Rattle.text.specs.Words.{some_below}
use Rattle.order.specs.Sets.{bit}
use Rattle.order.specs.Pairs.{ordered_by, PairFound, no_pair, a_pair}
use Rattle.order_touch.specs.declared.MovePair.{MovePair}

-- at a location with the marks r and w one of moves i and j writes, and the other reads or writes
abbrev pub touch_by : ℕ → ℕ → ℕ → ℕ → Bool
touch_by r w i j = bit w i && (bit r j || bit w j) || bit w j && (bit r i || bit w i)

-- moves i and j touch at one of the first n locations, by the marks
abbrev pub marked_touch : List ℕ → List ℕ → ℕ → ℕ → ℕ → Bool
marked_touch rs ws n i j = some_below (λ l. touch_by (get_or rs l 0) (get_or ws l 0) i j) n

-- moves i < j touch by the marks, and the predecessors `order` leave them unordered
abbrev pub unordered_marked : List ℕ → List ℕ → List ℕ → ℕ → ℕ → ℕ → Bool
unordered_marked order rs ws n i j = not (ordered_by order i j) && marked_touch rs ws n i j

-- how many of the first n locations both tables of marks have
abbrev pub clipped : List ℕ → List ℕ → ℕ → ℕ
clipped rs ws n = min n (min (length rs) (length ws))

-- the pair found, as the code gives it
abbrev pub pair_as : PairFound → Option MovePair
pair_as no_pair = None
pair_as (a_pair i j) = Some (record { first = i; second = j })

-- ---- what the code holds on the way

-- the table u is the table t with what touches at one location, whose marks are r and w, added: at j stand the moves that touch j
pub record TouchAdded (r w : ℕ) (t u : List ℕ) : Type 0 where
  pub long : length u ≡ length t
  pub bits : (j i : ℕ) → bit (get_or u j 0) i ≡ (bit (get_or t j 0) i || touch_by r w i j)

-- the table u has at j the moves that touch j at one of the first n locations
pub record TouchSets (rs ws : List ℕ) (n : ℕ) (u : List ℕ) : Type 0 where
  pub long : length u ≡ 64
  pub bits : (j i : ℕ) → bit (get_or u j 0) i ≡ marked_touch rs ws n i j

-- r is the least move below j that is in the set of the moves that touch j and not in the set of its predecessors; 64 for none
pub record LeastTouching (touching predecessors j r : ℕ) : Type 0 where
  pub hit : r < 64 → (r < j) × ((not (bit predecessors r) && bit touching r) ≡ true)
  pub low : (i : ℕ) → i < j → (not (bit predecessors i) && bit touching i) ≡ true → r ≤ i
