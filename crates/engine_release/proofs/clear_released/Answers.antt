-- `clear_released` meets its contract.
use Rattle.std.proofs.Common.{◌≡◌, ◌∙◌, ap₂, sym, ℕ, ◌+◌, List, drop, get_or}
use Rattle.book.specs.Image.{low_program}
use Rattle.engine_term.specs.Marks.{marked}
use Rattle.engine_term.proofs.Marking.{marked_append}
use Rattle.engine_instruction.specs.Code.{decode_of, decoded}
use Rattle.engine_release.specs.Steps.{instruction_cleared, instruction_marked, instruction_reads, all_cleared, all_marked, all_reads}
use Rattle.engine_instruction.proofs.Laws.{left_next, left_none}
use Rattle.engine_release.proofs.clear_released.Goals as goal

pub loop-code-preserved : goal.loop-code-preserved
unfolding all_cleared all_marked all_reads
loop-code-preserved c =
    let B = low_program c.args.image.now in
    let bit = c.args.bit in
    let l = c.loop-code in
    let step = c.clear_instruction in
    let what = c.decode-what.ensures in
    let w = decode_of (get_or c.args.list.now l.code-index 0) in
    let rest = decoded (drop (l.code-index + 1) c.args.list.now) in
    let d = left_next _ _ c.loop-code-test.true in
    let q : step.new.contents ≡ instruction_cleared B w l.contents = step.ensures.contents_after ∙ rw what in
    let p : step.new.writers ≡ instruction_marked bit B w l.contents l.writers = step.ensures.writers_after ∙ rw what in
    let r : step.new.readers ≡ marked bit (instruction_reads B w l.contents) l.readers = step.ensures.readers_after ∙ rw what in
    record {
      contents_left = rw q (rw d at l.invariant.contents_left);
      writers_left = rw (q, p) (rw d at l.invariant.writers_left);
      readers_left =
          ap₂ (λ (c rs : List ℕ). marked bit (all_reads B rest c) rs) q r
          ∙ sym (marked_append bit (instruction_reads B w l.contents) (all_reads B rest (instruction_cleared B w l.contents)) l.readers)
          ∙ (rw d at l.invariant.readers_left);
    }

pub returns-clause-contents_after : goal.returns-clause-contents_after
unfolding all_cleared
returns-clause-contents_after c = rw (left_none _ _ c.loop-code-test.false) at c.loop-code.invariant.contents_left

pub returns-clause-writers_after : goal.returns-clause-writers_after
unfolding all_marked
returns-clause-writers_after c = rw (left_none _ _ c.loop-code-test.false) at c.loop-code.invariant.writers_left

pub returns-clause-readers_after : goal.returns-clause-readers_after
unfolding all_reads marked
returns-clause-readers_after c = rw (left_none _ _ c.loop-code-test.false) at c.loop-code.invariant.readers_left
