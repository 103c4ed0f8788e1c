-- What is claimed of orders, marks and runs beside demand 3, and proved in proofs/Claims (SPECIFICATION 5.5, 5.6, 6.4, 7.2).
use Rattle.std.specs.Prelude.{◌≡◌, ◌↔◌, ◌≢◌, true, List, ℕ, ◌<◌, get_or}
use Rattle.std.proofs.Math.Option.{some}
use Rattle.text.specs.Words.{has, good}
use Rattle.book.specs.Book.{Program, L}
use Rattle.book.specs.Sound.{Lawful, at, Sound}
use Rattle.engine.specs.Move.{Fired, move_refused, move, fire, released}
use Rattle.engine.specs.Claims.{Inside}
use Rattle.order.specs.Sets.{bit}
use Rattle.order.specs.Pairs.{Pair, predecessors}
use Rattle.order.specs.Log.{Log, move_at, check_log}
use Rattle.order.specs.Run.{Run, RunOutcome, ran, halted, run, readers, writers}
use Rattle.order.specs.Orders.{Moves, Laws, Touch, Reads, Writes, listed, Before, from, Keeps, Agrees}
use Rattle.order.specs.Call.{log_call}
use Rattle.order.specs.Demand.{PairOf, moves_of}
use Rattle.engine.specs.Tables.{Tables}

-- ---- freedom of order, over any moves, start, list of moves and pair relation, from the laws of moves (`Laws`)

-- what the run in the listed order has to show, so that all orders that keep the pairs agree with it
pub record Listing (S : Moves) (start : S.Con) (m : ℕ) (pair : ℕ → ℕ → Type 0) : Type 0 where
  pub good : S.Good start
  pub up : (i j : ℕ) → pair i j → i < j
  pub fires : (i : ℕ) → i < m → (a : S.Act) × (S.does i (listed S start i) ≡ some a)
  pub apart : (i j : ℕ) (a b : S.Act) → i < j → j < m → S.does i (listed S start i) ≡ some a → S.does j (listed S start j) ≡ some b
      → ¬ Before pair i j → ¬ Touch S a b

-- every order that keeps the pairs agrees with the listed one
abbrev pub OrdersAgree : Type 1
OrdersAgree = (S : Moves) → Laws S → (start : S.Con) (m : ℕ) (pair : ℕ → ℕ → Type 0) → Listing S start m pair
    → (is : List ℕ) → Keeps (from 0 m) pair is → Agrees S start m is

-- the moves of a log over a lawful book have the laws frame, keep, swap and ext
abbrev pub MovesSwap : Type 0
MovesSwap = (B : Program) → Lawful B → (g : Log) → Laws (moves_of B g)

-- a move that takes a label out of a location touches whatever releases that label (SPECIFICATION 5.2)
abbrev pub TakingTouches : Type 0
TakingTouches = (B : Program) → Lawful B → (g : Log) (i j : ℕ) (c d : List ℕ) (a b : Fired) → Sound B c → Sound B d
    → (moves_of B g).does i c ≡ some a → (moves_of B g).does j d ≡ some b
    → (x l : ℕ) → has (released b.instructions) x ≡ true → at c l ≡ x → at (fire a.updates c) l ≢ x → Touch (moves_of B g) a b

-- ---- predecessors are exactly the order that follows from the pairs by chaining

-- move i is in the set of j's predecessors exactly if it comes before j
abbrev pub PredecessorsAreOrder : Type 0
PredecessorsAreOrder = (ps : List Pair) → ((a b : ℕ) → PairOf ps a b → a < b) → (m j i : ℕ) → j < m
    → (bit (get_or (predecessors ps m) j 0) i ≡ true) ↔ Before (PairOf ps) i j

-- ---- marks are exactly the reads and writes of the moves that fired, in the contents that each got

module _ (B : Program) (g : Log) (c : List ℕ) where
  -- move i is one of the first n, and in the listed order it fires and does something of which Q holds
  abbrev pub Did : ℕ → ℕ → (Fired → Type 0) → Type 0
  Did n i Q = (i < n) × ((f : Fired) × ((moves_of B g).does i (listed (moves_of B g) c i) ≡ some f) × Q f)

  -- what the run of the first n moves leaves: the contents after them, and in the marks exactly their reads and writes
  pub record Marked (n : ℕ) (s : Run) : Type 0 where
    pub contents : s.contents ≡ listed (moves_of B g) c n
    pub readers : (l i : ℕ) → l < L B → (bit (get_or (readers (L B) s.fired) l 0) i ≡ true) ↔ Did n i (λ f. Reads (moves_of B g) f l)
    pub writers : (l i : ℕ) → l < L B → (bit (get_or (writers (L B) s.fired) l 0) i ≡ true) ↔ Did n i (λ f. Writes (moves_of B g) f l)

  -- what a run leaves: one in which no move was refused, and one in which move p was, with one of refusals 11 to 15, 18 and 19: that has the contents and the
  -- marks of the moves before p
  abbrev pub Left : ℕ → RunOutcome → Type 0
  Left n (ran s) = Marked n s
  Left n (halted a p q s) = (p < n) × Marked p s × (move B (listed (moves_of B g) c p) (move_at g p) ≡ move_refused a q) × Inside a

-- every run leaves what it should
abbrev pub RunsLeave : Type 0
RunsLeave = (B : Program) (g : Log) (c : List ℕ) (n : ℕ) → Left B g c n (run B g c n)

-- ---- Refusal 16 is never given: no book, log or lent table gets it (SPECIFICATION 8.1)

-- no log call gets refusal 16
abbrev pub RunsAnswer : Type 0
RunsAnswer = (book log : List ℕ) (t : Tables) (n : ℕ) → (log_call book log t n).answer.number ≢ 16

-- ---- picks

-- each pick of a log that passes its checks is an element: so refusal 18 is only about the universe
abbrev pub LogPicksAreElements : Type 0
LogPicksAreElements = (B : Program) (text : List ℕ) (g : Log) → check_log B text ≡ good g → (i y : ℕ) → has (move_at g i).picks y ≡ true → y < B.E
