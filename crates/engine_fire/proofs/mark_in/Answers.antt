-- `mark_in` meets its contract.
use mathlib.Core.Path.{◌∙◌}
use Prim.Native.Nat.{◌<◌}
use lib.Bits.{bit_or}
use lib.ListN.{get_or}
use Rattle.engine_fire.proofs.Own.{put_inside, held_inside}
use Rattle.engine_fire.proofs.mark_in.Goals as goal

pub returns-then-at-e : goal.returns-then-at-e
returns-then-at-e c =
    let a = c.args in
    let e = c.min-e in
    let r = c.mark in
    let h : a.at < e.result = c.if-at-e.true in
    put_inside a.first a.end a.at a.writers.now c.requires e.result e.ensures (bit_or (get_or a.writers.now a.at 0) a.bit) h r.new.readers
    (r.ensures ∙ rw (held_inside a.first a.end a.at a.writers.now c.requires e.result e.ensures h))
