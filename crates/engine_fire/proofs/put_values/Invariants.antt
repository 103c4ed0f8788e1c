-- Putting the values of the instructions left, after those before, is putting the values of all.
use Rattle.std.proofs.Common.{◌≡◌, ◌+◌, ◌≤◌, min, length, drop}
use Rattle.book.specs.Book.{L}
use Rattle.book.specs.Image.{low_program}
use Rattle.engine_term.specs.Marks.{marked}
use Rattle.engine_instruction.specs.Code.{decoded}
use Rattle.engine_fire.specs.Steps.{puts, put_marked, put_reads, put_issued, put_returned}
use Rattle.engine_fire.proofs.Own.{Whole}
use Rattle.engine_fire.proofs.put_values.Given as goal

abbrev pub invariant-loop-code : goal.invariant-loop-code
invariant-loop-code l =
    let B = low_program l.image in
    let all = decoded l.list in
    let left = decoded (drop l.code-index l.list) in
    let start = l.initial.contents in
    record {
      contents_left : puts (L B) left l.contents ≡ puts (L B) all start;
      readers_left : marked l.bit (put_reads B.P (L B) left l.contents) l.readers ≡ marked l.bit (put_reads B.P (L B) all start) l.initial.readers;
      writers_left : put_marked l.bit (min (L B) (length start)) left l.writers ≡ put_marked l.bit (min (L B) (length start)) all l.initial.writers;
      part_whole : Whole B l.part;
      issued_left : l.tally.issued + put_issued B.E left ≡ put_issued B.E all;
      returned_left : l.tally.returned + put_returned B.E (L B) left l.contents ≡ put_returned B.E (L B) all start;
      issued_few : l.tally.issued ≤ l.code-index;
      returned_few : l.tally.returned ≤ l.code-index;
    }
