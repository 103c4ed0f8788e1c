-- `clear_function` meets its contract.
use mathlib.Core.Path.{ap, ◌∙◌}
use mathlib.Core.List.{List}
use Prim.Native.Nat.{ℕ}
use Rattle.engine_term.specs.Marks.{marked}
use Rattle.engine_release.proofs.Runs.{run_contents, run_marks, run_read}
use Rattle.engine_release.proofs.clear_function.Goals as goal

pub returns : goal.returns
returns c =
    let a = c.args in
    let r = a.r in
    let first = c.min-a in
    let end = c.min-b in
    let start = c.min-p in
    let stop = c.min-q in
    let part = c.clear_part in record { contents_after = run_contents r.function r.label r.bit r.first a.end a.contents.now a.writers.now c.requires first.result end.result first.ensures end.ensures part.new.part part.ensures.part_after; writers_after = run_marks r.function r.label r.bit r.first a.end a.contents.now a.writers.now c.requires first.result end.result first.ensures end.ensures start.result stop.result part.new.writers start.ensures stop.ensures part.ensures.writers_after; readers_after = part.ensures.readers_after ∙ ap (λ (s : List ℕ). marked r.bit s a.readers.now) (run_read r.function r.label r.bit r.first a.end a.contents.now a.writers.now c.requires first.result end.result first.ensures end.ensures r.permanent) }
