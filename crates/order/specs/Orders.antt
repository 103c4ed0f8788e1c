-- Moves that act on contents, the orders that keep a log's pairs, and what all of these do alike. Nothing here is about one engine
-- (SPECIFICATION 6.6: an order; 5.5: touch).
use Rattle.std.specs.Prelude.{◌≡◌, ◌⊎◌, List, [], ◌∷◌, ◌++◌, Bool, true, false, ℕ, zero, suc, ◌≤◌, ◌<◌}
use Rattle.std.proofs.Math.Option.{Option, none, some}
use Rattle.text.specs.Words.{has}

-- ---- moves

-- Moves, as what each does at contents, its act: the engine's acts are its instructions, updates and reads.
pub record Moves : Type 1 where
  pub Con : Type 0
  pub Act : Type 0
  -- the value of contents at a location
  pub at : Con → ℕ → ℕ
  -- what move i does on these contents: none if it is refused there
  pub does : ℕ → Con → Option Act
  -- the contents that an act leaves
  pub after : Con → Act → Con
  -- the act reads the location
  pub reads : Act → ℕ → Bool
  -- the value that the act gives the location: none if it does not write it
  pub gives : Act → ℕ → Option ℕ
  -- what all contents of a run have, the roll rule included
  pub Good : Con → Type 0

-- the value of a location that held v and is given another value, or none
abbrev pub value_after : Option ℕ → ℕ → ℕ
value_after none v = v
value_after (some w) v = w

module _ (S : Moves) where
  -- the act reads location l
  abbrev pub Reads : S.Act → ℕ → Type 0
  Reads a l = S.reads a l ≡ true

  -- the act writes location l
  abbrev pub Writes : S.Act → ℕ → Type 0
  Writes a l = (v : ℕ) × (S.gives a l ≡ some v)

  -- the act reads or writes location l
  abbrev pub Uses : S.Act → ℕ → Type 0
  Uses a l = Reads a l ⊎ Writes a l

  -- two acts touch: one writes a location that the other reads or writes
  abbrev pub Touch : S.Act → S.Act → Type 0
  Touch a b = (l : ℕ) × ((Writes a l × Uses b l) ⊎ (Writes b l × Uses a l))

-- The laws that an engine's moves must have, so that orders agree.
pub record Laws (S : Moves) : Type 0 where
  -- frame: the updates are all that changes
  pub frame : (i : ℕ) (c : S.Con) (a : S.Act) (l : ℕ) → S.Good c → S.does i c ≡ some a → S.at (S.after c a) l ≡ value_after (S.gives a l) (S.at c l)
  -- keep: a move that fires from good contents leaves good contents
  pub keep : (i : ℕ) (c : S.Con) (a : S.Act) → S.Good c → S.does i c ≡ some a → S.Good (S.after c a)
  -- swap: two moves that fire one after the other and do not touch do the same the other way round
  pub swap : (i j : ℕ) (c : S.Con) (a b : S.Act) → S.Good c → S.does i c ≡ some a → S.does j (S.after c a) ≡ some b → ¬ Touch S a b
      → (S.does j c ≡ some b) × (S.does i (S.after c b) ≡ some a)
  -- contents with the same value at each location are the same
  pub ext : (c d : S.Con) → S.Good c → S.Good d → ((l : ℕ) → S.at c l ≡ S.at d l) → c ≡ d

-- ---- runs

module _ (S : Moves) where
  -- the contents after an act, or as they were if there is none
  abbrev pub after_act : S.Con → Option S.Act → S.Con
  after_act c none = c
  after_act c (some a) = S.after c a

  -- the contents that move i leaves: as they were, if it is refused
  abbrev pub step : S.Con → ℕ → S.Con
  step c i = after_act c (S.does i c)

  -- the contents after these moves, in this order
  abbrev pub run_in_order : S.Con → List ℕ → S.Con
  run_in_order c [] = c
  run_in_order c (i ∷ is) = run_in_order (step c i) is

  -- an act in front of others; a move that is refused has none
  abbrev pub with_act : Option S.Act → List S.Act → List S.Act
  with_act none rest = rest
  with_act (some a) rest = a ∷ rest

  -- what these moves do, made in this order from the contents c: a move that is refused does nothing
  abbrev pub acts_in_order : S.Con → List ℕ → List S.Act
  acts_in_order c [] = []
  acts_in_order c (i ∷ is) = with_act (S.does i c) (acts_in_order (step c i) is)

  -- the contents that move i gets in the listed order, from the contents c
  abbrev pub listed : S.Con → ℕ → S.Con
  listed c zero = c
  listed c (suc i) = step (listed c i) i

-- ---- orders

-- a comes before b: what follows from the pairs by chaining
pub data Before (pair : ℕ → ℕ → Type 0) : ℕ → ℕ → Type 0 where
  one : {a b : ℕ} → pair a b → Before pair a b
  more : {a b c : ℕ} → Before pair a b → pair b c → Before pair a c

-- the moves as listed, n of them from k on
abbrev pub from : ℕ → ℕ → List ℕ
from k zero = []
from k (suc n) = k ∷ from (suc k) n

-- An order of a log's moves that keeps the pairs.
pub record Keeps (log : List ℕ) (pair : ℕ → ℕ → Type 0) (is : List ℕ) : Type 0 where
  -- the order has the log's moves and no other
  pub all : (i : ℕ) → has is i ≡ has log i
  -- the order has each move once
  pub once : (p : List ℕ) (i : ℕ) (q : List ℕ) → is ≡ p ++ i ∷ q → has p i ≡ false
  -- in the order a pair's earlier move stands before its later one
  pub pairs : (a b : ℕ) → pair a b → (p q : List ℕ) → is ≡ p ++ b ∷ q → has p a ≡ true

-- What holds of an order of the m moves of an accepted log.
pub record Agrees (S : Moves) (start : S.Con) (m : ℕ) (is : List ℕ) : Type 0 where
  -- no move is refused, and each does what it does in the listed order: the same instructions, updates and reads
  pub fires : (p : List ℕ) (i : ℕ) (q : List ℕ) → is ≡ p ++ i ∷ q
      → (a : S.Act) × (S.does i (run_in_order S start p) ≡ some a) × (S.does i (listed S start i) ≡ some a)
  -- the end is that of the listed order
  pub ends : run_in_order S start is ≡ listed S start m
  -- the contents are good at the start and after each move
  pub good : (p q : List ℕ) → is ≡ p ++ q → S.Good (run_in_order S start p)

-- ---- the least pair, by its first number and then its second

-- (i, j) is the least pair of which C holds
pub record LeastPair (C : ℕ → ℕ → Type 0) (i j : ℕ) : Type 0 where
  pub holds : C i j
  pub least : (a b : ℕ) → C a b → (i < a) ⊎ ((i ≡ a) × (j ≤ b))
