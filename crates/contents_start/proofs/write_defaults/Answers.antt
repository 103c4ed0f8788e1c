-- `write_defaults` meets its contract.
use mathlib.Core.Path.{◌∙◌}
use Prim.Native.Nat.{◌<◌}
use native.Mathlib.Omega.{arith}
use Rattle.book.proofs.Held.{functions_held}
use lib.ListN.{length}
use Rattle.book.specs.Image.{low_program}
use Rattle.book_parts.proofs.Places.{part_fits}
use Rattle.contents_start.proofs.Defaults.{filled_function, filled_all}
use Rattle.contents_start.proofs.write_defaults.Goals as goal

pub overflow_cast-first : goal.overflow_cast-first
overflow_cast-first c =
    let m = c.args.image.now in
    let l = c.loop-f in
    let more : l.f < length (low_program m).functions = omega (arith, c.loop-f-test.true, (functions_held _ _ c.functions-n.ensures).0) in
    record { fits = part_fits m l.f l.first _ c.part_from-own.ensures l.invariant.at more }

pub loop-f-preserved : goal.loop-f-preserved
loop-f-preserved c =
    let a = c.args in
    let m = a.image.now in
    let l = c.loop-f in
    let own = c.part_from-own in
    let more : l.f < length (low_program m).functions = omega (arith, c.loop-f-test.true, (functions_held _ _ c.functions-n.ensures).0) in
    filled_function (low_program m) a.contents.now l.first l.f l.contents _ l.invariant more own.result own.ensures (c.fill_function.ensures ∙ rw c.default_of-v.ensures)

pub returns : goal.returns
returns c =
    let a = c.args in
    let l = c.loop-f in
    filled_all (low_program a.image.now) a.contents.now l.first l.f l.contents l.invariant
    (omega (arith, c.loop-f-test.false, (functions_held _ _ c.functions-n.ensures).0))
