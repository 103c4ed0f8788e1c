-- `owner_of` meets its contract.
use Prim.Native.Nat.{◌<◌}
use native.Mathlib.Omega.{arith}
use lib.ListN.{length}
use Rattle.book.specs.Image.{low_program}
use Rattle.book.proofs.Held.{functions_held, function_held}
use Rattle.book_parts.proofs.Places.{part_fits}
use Rattle.book_parts.proofs.Parts.{owner_here, owner_next, owner_none}
use Rattle.book_parts.proofs.owner_of.Goals as goal

pub returns-then-l-own : goal.returns-then-l-own
returns-then-l-own c =
    let a = c.args in
    let B = low_program a.image.now in
    let l = c.loop-g in
    let more : l.g < length B.functions = omega (arith, c.loop-g-test.true, (functions_held _ _ c.functions-n.ensures).0) in
    owner_here B a.l l.g l.first _ l.invariant c.part_from-own.ensures more c.if-l-own.true

pub overflow_cast-first : goal.overflow_cast-first
overflow_cast-first c =
    let m = c.args.image.now in
    let l = c.loop-g in
    let more : l.g < length (low_program m).functions = omega (arith, c.loop-g-test.true, (functions_held _ _ c.functions-n.ensures).0) in
    record { fits = part_fits m l.g l.first _ c.part_from-own.ensures l.invariant.0 more }

pub loop-g-preserved : goal.loop-g-preserved
loop-g-preserved c =
    let a = c.args in
    let B = low_program a.image.now in
    let l = c.loop-g in
    let more : l.g < length B.functions = omega (arith, c.loop-g-test.true, (functions_held _ _ c.functions-n.ensures).0) in
    owner_next B a.l l.g l.first _ l.invariant c.part_from-own.ensures more c.if-l-own.false

pub returns : goal.returns
returns c =
    let a = c.args in
    let B = low_program a.image.now in
    let l = c.loop-g in
    let count = (functions_held _ _ c.functions-n.ensures).0 in
    owner_none B a.l l.g l.first _ l.invariant (omega (arith, c.loop-g-test.false, count)) (rw (← count) (function_held _ _ _ c.function_at.ensures))
