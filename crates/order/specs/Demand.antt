-- Demand 3, freedom of order, as one claim about a book's text, a log's text, the tables lent, and whole orders (SPECIFICATION 7.4).
use Rattle.std.specs.Prelude.{◌≡◌, ◌↔◌, ◌⊎◌, List, [], ◌∷◌, ℕ, ◌<◌, length}
use Rattle.std.proofs.Math.Option.{Option, none, some}
use Rattle.text.specs.Words.{has, good}
use Rattle.book.specs.Book.{Program, Book, start}
use Rattle.book.specs.Sound.{at, Sound}
use Rattle.engine.specs.Move.{Fired, Moved, fires, move_refused, move, fire, values_at}
use Rattle.engine.specs.Single.{over_first}
use Rattle.order.specs.Pairs.{Pair}
use Rattle.order.specs.Log.{Log, move_at}
use Rattle.order.specs.Run.{LogAnswer}
use Rattle.order.specs.Call.{lengths, check_all, log_call}
use Rattle.order.specs.Orders.{Moves, Touch, run_in_order, listed, Before, from, Keeps, Agrees, LeastPair}
use Rattle.engine.specs.Tables.{Tables}

-- ---- the moves of a log over a book

-- the pair (a, b) is one of the list
abbrev pub PairOf : List Pair → ℕ → ℕ → Type 0
PairOf [] a b = ⊥
PairOf (p ∷ ps) a b = ((p.earlier ≡ a) × (p.later ≡ b)) ⊎ PairOf ps a b

-- what a move does; nothing if it is refused
abbrev pub act_of : Moved → Option Fired
act_of (fires f) = some f
act_of (move_refused n q) = none

-- the value that updates give a location; none if it is not written
abbrev pub value_given : List ℕ → Option ℕ
value_given [] = none
value_given (v ∷ vs) = some v

-- the moves of a log as acts on contents: move i is made with its agent and its own picks, in whatever order
abbrev pub moves_of : Program → Log → Moves
moves_of B g = record {
  Con = List ℕ;
  Act = Fired;
  at = at;
  does = λ i c. act_of (move B c (move_at g i));
  after = λ c f. fire f.updates c;
  reads = λ f l. has f.reads l;
  gives = λ f l. value_given (values_at f.updates l);
  Good = Sound B;
}

-- how many moves a log has
abbrev pub count : Log → ℕ
count g = length g.moves

-- move i comes before move j, by chaining the log's pairs
abbrev pub OrderedByPairs : Log → ℕ → ℕ → Type 0
OrderedByPairs g i j = Before (PairOf g.pairs) i j

-- ---- in the listed order, from the contents c

-- in the listed order from the contents c move i fires and does f
abbrev pub Does : Program → Log → List ℕ → ℕ → Fired → Type 0
Does B g c i f = (moves_of B g).does i (listed (moves_of B g) c i) ≡ some f

-- in the listed order the first n moves all fire
abbrev pub AllFire : Program → Log → List ℕ → ℕ → Type 0
AllFire B g c n = (i : ℕ) → i < n → (f : Fired) × Does B g c i f

-- moves i and j, i listed before j, are unordered and touch
abbrev pub UnorderedTouch : Program → Log → List ℕ → ℕ → ℕ → Type 0
UnorderedTouch B g c i j =
    (i < j) × (j < count g) × ¬ OrderedByPairs g i j × ¬ OrderedByPairs g j i
    × ((e : Fired) × (f : Fired) × Does B g c i e × Does B g c j f × Touch (moves_of B g) e f)

-- ---- the claim: for a book's text, a log's text, the tables t and n instruction records

module _ (book log : List ℕ) (t : Tables) (n : ℕ) where
  -- what the log call leaves
  abbrev pub call_answer : LogAnswer
  call_answer = log_call book log t n

  -- none of refusals 1 to 10 is given, and all moves fire in the listed order
  abbrev pub Passes : Book → Log → Type 0
  Passes b g = (check_all book log (lengths t n) ≡ good (b, g)) × AllFire b.program g (start b) (count g)

  -- demand 3
  pub record Demand3 : Type 0 where
    -- the log is accepted exactly if no refusal is given before the first move, all moves fire as listed, and no two unordered moves touch
    pub accepted : (call_answer.answer.number ≡ 0) ↔ ((b : Book) × (g : Log) × Passes b g × ((i j : ℕ) → ¬ UnorderedTouch b.program g (start b) i j))
    -- Refusal 17 is given exactly if no refusal is given before the first move, all moves fire as listed, and some two unordered moves touch
    pub seventeen : (call_answer.answer.number ≡ 17) ↔ ((b : Book) × (g : Log) × Passes b g × ((i : ℕ) × (j : ℕ) × UnorderedTouch b.program g (start b) i j))
    -- the place of refusal 17 is the least such pair
    pub refused : (i j : ℕ)
        → ((call_answer.answer.number ≡ 17) × (call_answer.answer.p ≡ i) × (call_answer.answer.q ≡ j)) ↔ ((b : Book) × (g : Log) × Passes b g × LeastPair (UnorderedTouch b.program g (start b)) i j)
    -- In every order that keeps the pairs of an accepted log no move is refused, each does what it does in the listed order, the end is the answer's
    -- contents, and the contents are sound, the roll rule with it, at the start and after each move.
    pub orders : call_answer.answer.number ≡ 0 → (b : Book) (g : Log) → check_all book log (lengths t n) ≡ good (b, g)
        → (is : List ℕ) → Keeps (from 0 (count g)) (PairOf g.pairs) is
        → Agrees (moves_of b.program g) (start b) (count g) is × (call_answer.contents ≡ over_first (run_in_order (moves_of b.program g) (start b) is) t.contents)
