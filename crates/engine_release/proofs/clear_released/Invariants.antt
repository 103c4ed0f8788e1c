-- Clearing what the instructions left release, after those before, is clearing what all release.
use Rattle.std.proofs.Common.{◌≡◌, drop}
use Rattle.book.specs.Image.{low_program}
use Rattle.engine_term.specs.Marks.{marked}
use Rattle.engine_instruction.specs.Code.{decoded}
use Rattle.engine_release.specs.Steps.{all_cleared, all_marked, all_reads}
use Rattle.engine_release.proofs.clear_released.Given as goal

abbrev pub invariant-loop-code : goal.invariant-loop-code
invariant-loop-code l =
    let B = low_program l.image in
    let all = decoded l.list in
    let left = decoded (drop l.code-index l.list) in
    record {
      contents_left : all_cleared B left l.contents ≡ all_cleared B all l.initial.contents;
      writers_left : all_marked l.bit B left l.contents l.writers ≡ all_marked l.bit B all l.initial.contents l.initial.writers;
      readers_left : marked l.bit (all_reads B left l.contents) l.readers ≡ marked l.bit (all_reads B all l.initial.contents) l.initial.readers;
    }
