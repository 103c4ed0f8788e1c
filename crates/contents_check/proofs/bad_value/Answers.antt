-- `bad_value` meets its contract.
use Prim.Native.Nat.{◌<◌}
use native.Mathlib.Omega.{arith}
use lib.ListN.{length}
use Rattle.text.proofs.Words.{least_end}
use Rattle.book.specs.Book.{L}
use Rattle.book.specs.Contents.{bad_value}
use Rattle.book.specs.Image.{low_program}
use Rattle.book.proofs.Held.{elements_held, functions_held}
use Rattle.book_parts.proofs.Places.{from_end, part_after, part_fits}
use Rattle.contents_check.proofs.Places.{own_stop, own_pass}
use Rattle.contents_check.proofs.bad_value.Goals as goal

pub overflow_cast-end : goal.overflow_cast-end
overflow_cast-end c =
    let a = c.args in
    let B = low_program a.image.now in
    let l = c.loop-g in
    let own = c.part_from-own in
    let more : l.g < length B.functions = omega (arith, c.loop-g-test.true, (functions_held _ _ c.functions-n.ensures).0) in
    record { fits = part_fits a.image.now l.g l.first own.result own.ensures l.invariant.0 more }

pub overflow_add-result : goal.overflow_add-result
overflow_add-result c =
    let a = c.args in
    let B = low_program a.image.now in
    let l = c.loop-g in
    let own = c.part_from-own in
    let more : l.g < length B.functions = omega (arith, c.loop-g-test.true, (functions_held _ _ c.functions-n.ensures).0) in
    record { fits = omega (arith, c.bad_part.ensures.by_index c.in-Some.i c.in-Some.is, part_fits a.image.now l.g l.first own.result own.ensures l.invariant.0 more) }

pub returns-in-Some : goal.returns-in-Some
returns-in-Some c =
    let a = c.args in
    let B = low_program a.image.now in
    let l = c.loop-g in
    let own = c.part_from-own in
    let more : l.g < length B.functions = omega (arith, c.loop-g-test.true, (functions_held _ _ c.functions-n.ensures).0) in
    λ strides. own_stop B a.contents.now _ _ l.g l.first own.result c.bad_part.result (elements_held _ _ c.elements-e.ensures).0 c.permanent-p.ensures own.ensures strides l.invariant.0 more (l.invariant.1 strides) c.bad_part.ensures.value c.in-Some.i c.in-Some.is

pub loop-g-preserved : goal.loop-g-preserved
loop-g-preserved c =
    let a = c.args in
    let B = low_program a.image.now in
    let l = c.loop-g in
    let own = c.part_from-own in
    let more : l.g < length B.functions = omega (arith, c.loop-g-test.true, (functions_held _ _ c.functions-n.ensures).0) in (
      part_after B l.g l.first own.result own.ensures l.invariant.0 more,
      λ strides. own_pass B a.contents.now _ _ l.g l.first own.result c.bad_part.result (elements_held _ _ c.elements-e.ensures).0 c.permanent-p.ensures own.ensures strides l.invariant.0 more (l.invariant.1 strides) c.bad_part.ensures.value c.in_default.is,
    )

pub returns : goal.returns
returns c =
    let a = c.args in
    let B = low_program a.image.now in
    let l = c.loop-g in
    λ strides. least_end (bad_value B a.contents.now) (L B) l.first (omega (arith, from_end B l.g l.first l.invariant.0 (omega (arith, c.loop-g-test.false, (functions_held _ _ c.functions-n.ensures).0)))) (l.invariant.1 strides)
