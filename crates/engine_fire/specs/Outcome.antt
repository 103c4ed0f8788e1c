-- What becomes of a move whose walk met no refusal: refusal 15, or the contents and the marks after, and the label tally (SPECIFICATION 4.8, 4.9, 4.11,
-- 5.2).
use Rattle.std.specs.Prelude.{None}
use Rattle.std.specs.Prelude.{◌≡◌, ◌&&◌, List, ℕ, ltb, length}
use Rattle.text.specs.Refusals.{clash}
use Rattle.book.specs.Book.{Program}
use Rattle.book.specs.Sum.{Strided}
use Rattle.book.specs.Image.{low_program}
use Rattle.engine.specs.declared.Instruction.{Instruction}
use Rattle.engine.specs.declared.Tally.{Tally}
use Rattle.engine.specs.Move.{Moved, fires, move_refused, fire, writes, fired_of, fire_or_clash}
use Rattle.engine.specs.Move as move
use Rattle.engine.specs.Labels.{no_labels}
use Rattle.engine_instruction.specs.Code.{decoded}
use Rattle.engine_clash.specs.Clash.{updates_by, clash_by}
use Rattle.engine_term.specs.Marks.{marked, marked_where}
use Rattle.engine_fire.specs.Steps.{fire_reads, fire_tally}
use Rattle.engine_fire.specs.declared.Outcome.{Outcome}
use Rattle.engine_fire.specs.declared.Outcome.TheVariants.{Fired, Clash}
use Rattle.engine.specs.Tables.{Tables}

-- ---- the move of a list, in the contents c of the book that an image holds

-- the move whose walk gave the instructions of a list and read ls
abbrev pub move_by : List ℕ → List ℕ → List ℕ → List ℕ → move.Fired
move_by image c list ls = fired_of (low_program image) c ls (decoded list)

-- ---- outcomes

-- the outcome of the move f, as the code gives it, as what becomes of a move
abbrev pub moved_by : move.Fired → Outcome → Moved
moved_by f (Fired t) = fires f
moved_by f (Clash l) = move_refused clash l

-- the tally that the code gives with an outcome
abbrev pub tally_told : Outcome → Tally
tally_told (Fired t) = t
tally_told (Clash l) = no_labels

-- the tally of a move in the contents c, as firing counts it; a refused one has issued and returned nothing
abbrev pub tally_by : Program → List ℕ → Moved → Tally
tally_by B c (fires f) = fire_tally B f.instructions c
tally_by B c (move_refused n q) = no_labels

-- ---- the contents and the marks after: a refused move leaves them as they were

-- the contents after a move: a refused one leaves them as they were
abbrev pub contents_after : List ℕ → Moved → List ℕ
contents_after c (fires f) = fire f.updates c
contents_after c (move_refused n q) = c

-- the writer marks ms with the bit wherever the updates write a location of the contents, which are n long, changed or not
abbrev pub write_marked : ℕ → ℕ → List (List ℕ) → List ℕ → List ℕ
write_marked bit n us ms = marked_where bit (λ l. ltb l n && writes us l) ms

-- the writer marks after a move
abbrev pub writers_after : ℕ → ℕ → List ℕ → Moved → List ℕ
writers_after bit n ms (fires f) = write_marked bit n f.updates ms
writers_after bit n ms (move_refused k q) = ms

-- The reader marks rs with the bit wherever firing by these instructions reads. Of an accepted book, sound contents and a move that fires this is what the
-- move reads beside what its walk reads (`fire_reads_are`, proofs/Taken).
abbrev pub read_marked : ℕ → Program → List Instruction → List ℕ → List ℕ → List ℕ
read_marked bit B is c rs = marked bit (fire_reads B is c) rs

-- the reader marks after a move
abbrev pub readers_after : ℕ → Program → List ℕ → List ℕ → Moved → List ℕ
readers_after bit B c rs (fires f) = read_marked bit B f.instructions c rs
readers_after bit B c rs (move_refused k q) = rs

-- the contents d are those after the move of a list in the contents c, if each function has the stride of its arity and no location clashes
abbrev pub FiresTo : List ℕ → List ℕ → List ℕ → List ℕ → Type 0
FiresTo image c list d = Strided (low_program image) → clash_by image c list ≡ None → d ≡ fire (updates_by image c list) c

-- the move of a list, whatever its walk read, is settled: how, with which tally, and what it leaves of the tables t
pub record Settled (image list : List ℕ) (bit : ℕ) (t : Tables) (r : Outcome) (u : Tables) : Type 0 where
  pub outcome : (ls : List ℕ) → fire_or_clash (move_by image t.contents list ls) ≡ moved_by (move_by image t.contents list ls) r
  pub tally : (ls : List ℕ) → tally_told r ≡ tally_by (low_program image) t.contents (fire_or_clash (move_by image t.contents list ls))
  pub contents : (ls : List ℕ) → u.contents ≡ contents_after t.contents (fire_or_clash (move_by image t.contents list ls))
  pub readers : (ls : List ℕ) → u.readers ≡ readers_after bit (low_program image) t.contents t.readers (fire_or_clash (move_by image t.contents list ls))
  pub writers : (ls : List ℕ) → u.writers ≡ writers_after bit (length t.contents) t.writers (fire_or_clash (move_by image t.contents list ls))
