-- `fire` meets its contract.
use mathlib.Core.Path.{ap, ap₂, ◌∙◌}
use mathlib.Core.List.{List}
use Prim.Native.Nat.{ℕ, min}
use lib.ListN.{length}
use Rattle.book.specs.Book.{L}
use Rattle.book.specs.Image.{low_program}
use Rattle.engine_instruction.specs.Code.{decoded}
use Rattle.engine_term.specs.Marks.{marked}
use Rattle.engine_term.proofs.Marking.{marked_on}
use Rattle.engine_release.specs.Steps.{all_cleared, all_reads}
use Rattle.engine_fire.specs.Steps.{puts, put_marked, put_reads, put_tally}
use Rattle.engine_fire.proofs.Fires.{fired_is, marked_is}
use Rattle.engine_fire.proofs.fire.Goals as goal

pub returns : goal.returns
returns c =
    let a = c.args in
    let B = low_program a.image.now in
    let is = decoded a.list.now in
    let k = c.clear_released in
    let r = c.put_values in record {
      value = r.ensures.value ∙ ap (put_tally B is) k.ensures.contents_after;
      fires_to = (λ strides free. r.ensures.contents_after ∙ ap (puts (L B) is) k.ensures.contents_after ∙ fired_is B is a.contents.now strides free);
      readers_after = marked_on a.bit (all_reads B is a.contents.now) (put_reads B.P (L B) is (all_cleared B is a.contents.now)) a.readers.now k.new.readers r.new.readers
          k.ensures.readers_after
          (r.ensures.readers_after ∙ ap (λ (C : List ℕ). marked a.bit (put_reads B.P (L B) is C) k.new.readers) k.ensures.contents_after);
      writers_after = λ strides. r.ensures.writers_after ∙ ap₂ (λ (C W : List ℕ). put_marked a.bit (min (L B) (length C)) is W) k.ensures.contents_after k.ensures.writers_after
          ∙ marked_is B is a.contents.now strides a.bit a.writers.now;
    }
