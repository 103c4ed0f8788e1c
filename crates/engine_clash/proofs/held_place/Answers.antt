-- `held_place` meets its contract.
use Rattle.engine_clash.proofs.Laws.{held_place_is}
use Rattle.book_parts.proofs.Parts.{part_starts, owner_index}
use Rattle.book_parts.specs.Part.{part_of}
use Rattle.book_parts.specs.declared.Owner.{Owner}
use Rattle.book.specs.Image.{low_program}
use Rattle.book.specs.Book.{place}
use borrow.Author.Tests.{lt-ltb, le-ltb}
use native.Mathlib.Omega.{arith}
use mathlib.Core.Path.{◌≡◌, sym, ap, ◌∙◌}
use Rattle.engine_clash.proofs.held_place.Goals as goal
use Rattle.engine_clash.proofs.held_place.Goals.{then-at-owner, else-at-owner}

pub overflow_sub-index : goal.overflow_sub-index
overflow_sub-index c = let a = c.args in omega (arith, ap (λ (o : Owner). o.first) c.owner_of-owner.ensures, (part_starts (low_program a.image.now) a.l).0)

pub returns : goal.returns
returns c =
    let a = c.args in
    let B = low_program a.image.now in
    let owner = c.owner_of-owner in
    let o = owner.result in
    let first : o.first ≡ (part_of B a.l).first = ap (λ (o : Owner). o.first) owner.ensures in
    let end : o.end ≡ (part_of B a.l).end = ap (λ (o : Owner). o.end) owner.ensures in
    let index : c.if-at-owner.index ≡ (place B a.l).index =
    elim c.if-at-owner.branch [
      | then-at-owner y ↦ y.index-is ∙ rw first (sym (owner_index B a.l ∙ rw (lt-ltb a.l (part_of B a.l).end (omega (arith, y.if-at-owner.true)))))
      | else-at-owner y ↦ y.index-is ∙ sym (owner_index B a.l ∙ rw (le-ltb a.l (part_of B a.l).end (omega (arith, y.if-at-owner.false))))
    ] in
    held_place_is B a.contents.now a.l o.function c.if-at-owner.index c.fetch-held.result c.either.result c.either-2.result c.take_apart-a.result
    (rw (index, owner.ensures)) c.take_apart-a.ensures c.fetch-held.ensures c.either.ensures c.either-2.ensures
