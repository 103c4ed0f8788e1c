-- `put_in_part` meets its contract.
use mathlib.Core.Path.{◌∙◌}
use Prim.Native.Nat.{◌<◌}
use native.Mathlib.Omega.{arith}
use borrow.Author.Tests.{lt-ltb}
use lib.ListN.{length}
use Rattle.engine_fire.proofs.Own.{put_inside}
use Rattle.engine_fire.proofs.put_in_part.Goals as goal

pub returns-then-at-e : goal.returns-then-at-e
returns-then-at-e c =
    let a = c.args in
    let e = c.min-e in
    let r = c.put_value in
    let h : a.at < e.result = c.if-at-e.true in
    let k : a.at < length a.contents.now = omega (arith, e.ensures, h) in record { contents_after = put_inside a.first a.end a.at a.contents.now c.requires e.result e.ensures a.v h r.new.part r.ensures; writers_after = c.mark_in.ensures ∙ rw (lt-ltb a.at (length a.contents.now) k) }
