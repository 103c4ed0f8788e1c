-- `clear_label` meets its contract.
use mathlib.Core.Path.{◌∙◌}
use Prim.Native.Nat.{◌<◌}
use native.Mathlib.Omega.{arith}
use Rattle.book.proofs.Held.{functions_held}
use lib.ListN.{length}
use Rattle.book.specs.Image.{low_program}
use Rattle.book_parts.proofs.Places.{part_fits}
use Rattle.engine_release.proofs.Runs.{upto_start, upto_next, upto_end}
use Rattle.engine_release.proofs.clear_label.Goals as goal

pub loop-g-init : goal.loop-g-init
loop-g-init c = let a = c.args in upto_start (low_program a.image.now) a.x a.bit a.contents.now a.writers.now a.readers.now

pub overflow_cast-first : goal.overflow_cast-first
overflow_cast-first c =
    let m = c.args.image.now in
    let l = c.loop-g in
    let more : l.g < length (low_program m).functions = omega (arith, c.loop-g-test.true, (functions_held _ _ c.functions-n.ensures).0) in
    record { fits = part_fits m l.g l.first _ c.part_from-own.ensures l.invariant.at more }

pub loop-g-preserved : goal.loop-g-preserved
loop-g-preserved c =
    let a = c.args in
    let m = a.image.now in
    let l = c.loop-g in
    let own = c.part_from-own in
    let run = c.clear_function in
    let permanent = c.permanent-p.ensures in
    let more : l.g < length (low_program m).functions = omega (arith, c.loop-g-test.true, (functions_held _ _ c.functions-n.ensures).0) in
    upto_next (low_program m) a.x a.bit a.contents.now a.writers.now a.readers.now l.first l.g l.contents l.writers l.readers l.invariant more own.result run.new.contents run.new.writers run.new.readers own.ensures run.ensures.contents_after run.ensures.writers_after (run.ensures.readers_after ∙ rw permanent)

pub returns : goal.returns
returns c =
    let a = c.args in
    let l = c.loop-g in
    let end = upto_end (low_program a.image.now) a.x a.bit a.contents.now a.writers.now a.readers.now l.first l.g l.contents l.writers l.readers l.invariant
    (omega (arith, c.loop-g-test.false, (functions_held _ _ c.functions-n.ensures).0)) in record { contents_after = end.0; writers_after = end.1; readers_after = end.2 }
