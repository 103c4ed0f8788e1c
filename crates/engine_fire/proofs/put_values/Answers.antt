-- `put_values` meets its contract.
use Rattle.std.specs.Prelude.{if◌then◌else◌}
use Rattle.std.proofs.Common.{◌≡◌, sym, ap, ap₂, ◌∙◌, List, [], ℕ, ◌+◌, min, arith, length, get_or, set, drop}
use lib.Dec.{ltb}
use Rattle.text.specs.Words.{one_if}
use Rattle.book.specs.Book.{L}
use Rattle.book.specs.Image.{low_program}
use Rattle.book.proofs.Held.{elements_held}
use Rattle.book_parts.specs.Part.{part_of}
use Rattle.book_parts.proofs.Parts.{part_starts}
use Rattle.engine.specs.Labels.{tally_of}
use Rattle.engine.proofs.Counts.{one_few}
use Rattle.engine.specs.Move.{taken_reads}
use Rattle.engine_term.specs.Marks.{marked, mark}
use Rattle.engine_term.proofs.Marking.{marked_append}
use Rattle.engine_instruction.specs.Code.{decode_of, decoded}
use Rattle.engine_instruction.specs.Given.{own, gets}
use Rattle.engine_instruction.proofs.Laws.{left_next, left_none}
use Rattle.engine_fire.specs.Steps.{puts, put_marked, put_reads, issues_at, returns_at, put_issued, put_returned}
use Rattle.engine_fire.proofs.Own.{next_held, own_part, part_min, put_value, put_mark}
use Rattle.engine_fire.proofs.put_values.Goals as goal

pub put_in_part-requires : goal.put_in_part-requires
put_in_part-requires c =
    let B = low_program c.args.image.now in
    let at = c.own_location-at.result in
    let h : c.part_at-part.result ≡ part_of B at = c.part_at-part.ensures ∙ next_held B c.loop-code.part at c.loop-code.invariant.part_whole in
    rw h (part_starts B at).0

pub loop-code-preserved : goal.loop-code-preserved
unfolding puts put_marked put_reads put_issued put_returned
loop-code-preserved c =
    let a = c.args in
    let B = low_program a.image.now in
    let l = c.loop-code in
    let w = decode_of (get_or a.list.now l.code-index 0) in
    let d = left_next _ _ c.loop-code-test.true in
    let at : c.own_location-at.result ≡ own w = c.own_location-at.ensures ∙ ap own c.decode-what.ensures in
    let v : c.own_value-v.result ≡ gets w = c.own_value-v.ensures ∙ ap gets c.decode-what.ensures in
    let e : c.elements-e.result ≡ B.E = (elements_held _ _ c.elements-e.ensures).0 in
    let h : c.part_at-part.result ≡ part_of B (own w) = c.part_at-part.ensures ∙ rw at (next_held B l.part (own w) l.invariant.part_whole) in
    let u = c.count_label-tally in
    let t = c.mark_put in
    let r = c.put_in_part in
    let k = min (L B) (length a.contents.now) in
    let rest = decoded (drop (l.code-index + 1) a.list.now) in
    let stored : List ℕ = if ltb (own w) (L B) then set l.contents (own w) (gets w) else l.contents in
    let taken : List ℕ = if ltb (own w) (min (L B) (length l.contents)) then taken_reads B.P (get_or l.contents (own w) 0) (gets w) else [] in
    let q : r.new.contents ≡ stored = r.ensures.contents_after ∙ rw (h, at, v) (put_value B (own w) (gets w) l.contents) in
    let o : t.new.readers ≡ marked a.bit taken l.readers = t.ensures ∙ rw (h, at, v, c.permanent-p.ensures, part_min B (own w) (length l.contents)) in
    let p : r.new.writers ≡ set l.writers (own w) (mark a.bit (ltb (own w) k) (get_or l.writers (own w) 0)) =
    r.ensures.writers_after ∙ rw (h, at, l.auto.contents) (put_mark B (own w) a.bit (length a.contents.now) l.writers) in
    let gave : u.result.issued ≡ l.tally.issued + one_if (issues_at B.E (own w) (gets w)) = u.ensures.0 ∙ rw (at, v, e) in
    let took : u.result.returned ≡ l.tally.returned + one_if (returns_at B.E (own w) (gets w) (get_or l.contents (own w) 0)) = u.ensures.1 ∙ rw (at, v, e) in
    record {
      contents_left = rw q (rw d at l.invariant.contents_left);
      readers_left =
          ap₂ (λ (C R : List ℕ). marked a.bit (put_reads B.P (L B) rest C) R) q o
          ∙ sym (marked_append a.bit taken (put_reads B.P (L B) rest stored) l.readers) ∙ (rw d at l.invariant.readers_left);
      writers_left = rw p (rw d at l.invariant.writers_left);
      part_whole = rw h (own_part B (own w));
      issued_left = omega (arith, gave, rw d at l.invariant.issued_left);
      returned_left = rw q (omega (arith, took, rw d at l.invariant.returned_left));
      issued_few = omega (arith, gave, one_few (issues_at B.E (own w) (gets w)), l.invariant.issued_few);
      returned_few = omega (arith, took, one_few (returns_at B.E (own w) (gets w) (get_or l.contents (own w) 0)), l.invariant.returned_few);
    }

pub returns : goal.returns
unfolding puts put_marked put_reads marked put_issued put_returned
returns c =
    let l = c.loop-code in
    let none = left_none _ _ c.loop-code-test.false in
    record {
      value = ap₂ tally_of (omega (arith, rw none at l.invariant.issued_left)) (omega (arith, rw none at l.invariant.returned_left));
      contents_after = rw none at l.invariant.contents_left;
      readers_after = rw none at l.invariant.readers_left;
      writers_after = rw none at l.invariant.writers_left;
    }
