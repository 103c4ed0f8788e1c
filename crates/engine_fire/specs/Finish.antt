-- The rest of a move whose walk has ended: its answer, its label tally, and what it leaves of the tables. It is said of any walk's end, whatever the walk was.
use Rattle.std.specs.Prelude.{◌≡◌, List, ℕ, length}
use Rattle.book.specs.Book.{Program}
use Rattle.book.specs.Sum.{Strided}
use Rattle.book.specs.Image.{low_program}
use Rattle.engine.specs.Labels.{TalliedAnswer}
use Rattle.engine.specs.Labels.{no_labels}
use Rattle.engine.specs.Rule.{Walked, walking, refused_at}
use Rattle.engine.specs.Move.{Moved, fires, move_refused, settle}
use Rattle.engine_fire.specs.Outcome.{tally_by, contents_after, readers_after, writers_after}
use Rattle.engine_walk.specs.WalkMarks.{bits_cleared}
use Rattle.engine_fire.specs.Effect.{move_answer}
use Rattle.engine.specs.Tables.{Tables}

-- a refusal with its number and place, which has issued and returned no label
abbrev pub refused_answer : ℕ → ℕ → ℕ → TalliedAnswer
refused_answer n p q = record { answer = record { number = n; p = p; q = q }; tally = no_labels }

-- the reader marks m at the end of a move: a move that is refused has its own bit taken out
abbrev pub readers_kept : ℕ → Moved → List ℕ → List ℕ
readers_kept bit (fires f) m = m
readers_kept bit (move_refused n q) m = bits_cleared bit m

-- the reader marks m, which a walk in the contents c left, at the end of the move: if it fires, what firing reads is marked too
abbrev pub readers_at_end : Program → ℕ → List ℕ → Moved → List ℕ → List ℕ
readers_at_end B bit c o m = readers_kept bit o (readers_after bit B c m o)

-- the reader marks m at the end of a move, by how its walk ended: a walk that was refused has taken its own bit out already
abbrev pub readers_at_end_of : Program → ℕ → List ℕ → Walked → Moved → List ℕ → List ℕ
readers_at_end_of B bit c (refused_at n q) o m = m
readers_at_end_of B bit c (walking w) o m = readers_at_end B bit c o m

-- move i, whose walk came to w with the tables t, whatever the walk read: its answer and its tally, r, and the tables u that it leaves
pub record MoveFinished (B : Program) (bit i : ℕ) (w : Walked) (t : Tables) (r : TalliedAnswer) (u : Tables) : Type 0 where
  pub answer : (ls : List ℕ) → r.answer ≡ move_answer i (settle B t.contents ls w)
  pub tally : (ls : List ℕ) → r.tally ≡ tally_by B t.contents (settle B t.contents ls w)
  pub contents : (ls : List ℕ) → u.contents ≡ contents_after t.contents (settle B t.contents ls w)
  pub readers : (ls : List ℕ) → u.readers ≡ readers_at_end_of B bit t.contents w (settle B t.contents ls w) t.readers
  pub writers : (ls : List ℕ) → u.writers ≡ writers_after bit (length t.contents) t.writers (settle B t.contents ls w)

-- move i, made with the program that an image holds, is finished so, if each function has the stride of its arity
abbrev pub Finishes : List ℕ → ℕ → ℕ → Walked → Tables → TalliedAnswer → Tables → Type 0
Finishes image bit i w t r u = Strided (low_program image) → MoveFinished (low_program image) bit i w t r u
