-- A move whose walk met no refusal is settled: it clashes, or it fires.
use Rattle.std.specs.Prelude.{None, Some}
use mathlib.Core.Path.{◌≡◌, sym, ap, ◌∙◌}
use mathlib.Core.List.{List}
use Prim.Native.Nat.{ℕ, ◌<◌, ◌≤◌}
use native.Mathlib.Omega.{arith}
use lib.ListN.{length}
use Rattle.book.specs.Book.{Program, L}
use Rattle.book.specs.Sum.{Strided}
use Rattle.book.specs.Image.{low_program}
use Rattle.engine.specs.declared.Instruction.{Instruction}
use Rattle.engine.specs.declared.Tally.{Tally}
use Rattle.engine_instruction.specs.Code.{decoded}
use Rattle.engine_clash.specs.LeastClash.{least_clash}
use Rattle.engine_clash.proofs.Best.{best_least, best_none}
use Rattle.text.specs.Refusals.{clash}
use Rattle.engine.specs.Move.{fires, move_refused, fire, fire_or_clash}
use Rattle.engine.specs.Move as move
use Rattle.engine_fire.specs.declared.Outcome.TheVariants.{Fired, Clash}
use Rattle.engine_clash.specs.Clash.{updates_by, clash_by}
use Rattle.engine_fire.specs.Steps.{fire_tally}
use Rattle.engine_fire.specs.Outcome.{move_by, tally_by, write_marked, read_marked, contents_after, readers_after, writers_after, Settled}
use Rattle.engine.specs.Tables.{Tables}

module _ (image list : List ℕ) (bit : ℕ) (t : Tables) where
  abbrev f : List ℕ → move.Fired
  f ls = move_by image t.contents list ls

  pub clash_settled : (l : ℕ) → clash_by image t.contents list ≡ Some l → Settled image list bit t (Clash l) t
  unfolding fire_or_clash
  clash_settled l e =
      record {
        outcome = q;
        tally = λ ls. sym (ap (tally_by (low_program image) t.contents) (q ls));
        contents = λ ls. sym (ap (contents_after t.contents) (q ls));
        readers = λ ls. sym (ap (readers_after bit (low_program image) t.contents t.readers) (q ls));
        writers = λ ls. sym (ap (writers_after bit (length t.contents) t.writers) (q ls));
      }
    where
      q : (ls : List ℕ) → fire_or_clash (f ls) ≡ move_refused clash l
      q ls = rw e

  pub fire_settled :
      clash_by image t.contents list ≡ None → (k : Tally) → k ≡ fire_tally (low_program image) (decoded list) t.contents → (u : Tables) →
      u.contents ≡ fire (updates_by image t.contents list) t.contents →
      u.readers ≡ read_marked bit (low_program image) (decoded list) t.contents t.readers →
      u.writers ≡ write_marked bit (length t.contents) (updates_by image t.contents list) t.writers → Settled image list bit t (Fired k) u
  unfolding fire_or_clash
  fire_settled e k c u h r w =
      record {
        outcome = q;
        tally = λ ls. c ∙ sym (ap (tally_by (low_program image) t.contents) (q ls));
        contents = λ ls. h ∙ sym (ap (contents_after t.contents) (q ls));
        readers = λ ls. r ∙ sym (ap (readers_after bit (low_program image) t.contents t.readers) (q ls));
        writers = λ ls. w ∙ sym (ap (writers_after bit (length t.contents) t.writers) (q ls));
      }
    where
      q : (ls : List ℕ) → fire_or_clash (f ls) ≡ fires (f ls)
      q ls = rw e

-- ---- what the code finds

module _ (image c list : List ℕ) (k : ℕ) (high : L (low_program image) ≤ k) (ok : Strided (low_program image)) where
  abbrev B : Program
  B = low_program image

  abbrev is : List Instruction
  is = decoded list

  -- the search for a clash, begun from k, gives r
  pub clash_at : (r : ℕ) → r ≡ least_clash B c is is k → r < L B → clash_by image c list ≡ Some r
  clash_at r q h = sym (best_least B c is k high ok (omega (arith, q, h))) ∙ ap Some (sym q)

  pub clash_none : (r : ℕ) → r ≡ least_clash B c is is k → L B ≤ r → clash_by image c list ≡ None
  clash_none r q h = sym (best_none B c is k high ok (omega (arith, q, h)))
