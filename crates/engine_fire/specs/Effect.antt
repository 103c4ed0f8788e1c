-- What one move leaves of the contents and the marks: one that fires its updates and its bit, a refused one nothing; and its label tally (SPECIFICATION 4.9,
-- 4.11, 5.6, 8.3).
use Rattle.std.specs.Prelude.{◌≡◌, List, ℕ, ◌^◌, ◌<◌, length, get_or}
use Rattle.text.specs.declared.Reason.{Reason}
use Rattle.text.specs.Words.{Answer}
use Rattle.text.specs.Words.{has}
use Rattle.book.specs.Book.{Program}
use Rattle.book.specs.Sound.{Lawful, Sound}
use Rattle.engine.specs.declared.Tally.{Tally}
use Rattle.engine.specs.Labels.{TalliedAnswer}
use Rattle.engine.specs.Labels.{no_labels, move_tally}
use Rattle.engine.specs.Move.{Input, Moved, fires, move_refused, move, fire, writes}
use Rattle.engine_fire.specs.declared.Begun.{Begun}
use Rattle.engine_fire.specs.Count.{instructions_given}
use Rattle.engine_emit.specs.declared.Progress.{Progress}
use Rattle.engine_walk.specs.Walk.{outcome}
use Rattle.engine_walk.specs.WalkMarks.{WalkMarked}
use Rattle.engine.specs.Tables.{Tables}
use Rattle.engine_term.specs.Marks.{marked_where}

-- the tables after a move: one that fires leaves its updates, and its bit where it reads and where it writes; a refused one leaves all as it was
abbrev pub tables_left : ℕ → Tables → Moved → Tables
tables_left bit t (fires f) =
    record {
      contents = fire f.updates t.contents;
      readers = marked_where bit (has f.reads) t.readers;
      writers = marked_where bit (writes f.updates) t.writers;
    }
tables_left bit t (move_refused n q) = t

-- the answer to move i (SPECIFICATION 8.1): 0 0 0 if it fires
abbrev pub move_answer : ℕ → Moved → Answer
move_answer i (fires f) = record { number = 0; p = 0; q = 0 }
move_answer i (move_refused n q) = record { number = n; p = i; q = q }

-- the tally of a move: a refused one has issued and returned nothing
abbrev pub tally_left : Program → Moved → Tally
tally_left B (fires f) = move_tally B f
tally_left B (move_refused n q) = no_labels

-- What a move is made on: an accepted book, sound contents, one of its agents, and a bit above all marks so far: the moves before have lower ones
pub record MoveFits (B : Program) (x : Input) (bit : ℕ) (t : Tables) : Type 0 where
  pub lawful : Lawful B
  pub sound : Sound B t.contents
  pub agent : x.agent < length B.agents
  pub power : (i : ℕ) × (bit ≡ 2 ^ i) × (i < 64)
  pub unmarked : (l : ℕ) → get_or t.readers l 0 < bit

-- what the move with input x, number i and marked as `bit`, gives and leaves of the tables t: its answer and its tally, r, and the tables u
pub record MoveEffect (B : Program) (x : Input) (bit i : ℕ) (t : Tables) (r : TalliedAnswer) (u : Tables) : Type 0 where
  pub answer : r.answer ≡ move_answer i (move B t.contents x)
  pub tally : r.tally ≡ tally_left B (move B t.contents x)
  pub tables : u ≡ tables_left bit t (move B t.contents x)

-- the walk of the move with input x, made on the tables t, ended as s says, with its instructions in the list l, and left the tables u
pub record AfterWalk (B : Program) (x : Input) (bit : ℕ) (t : Tables) (s : Progress Reason) (l : List ℕ) (u : Tables) : Type 0 where
  pub fit : MoveFits B x bit t
  pub contents : u.contents ≡ t.contents
  pub readers : WalkMarked B t.contents bit x (outcome s l) t.readers u.readers
  pub writers : u.writers ≡ t.writers

-- The move with input x is begun in the contents c, marked as `bit`: its walk came to b, with its instructions in the list l, and the reader marks m
-- became n.
abbrev pub Begins : Program → List ℕ → ℕ → Input → Begun Reason → List ℕ → List ℕ → List ℕ → Type 0
Begins B c bit x b l m n = WalkMarked B c bit x (outcome b.walk l) m n × (b.count ≡ instructions_given b.walk) × (length l ≡ 256)
