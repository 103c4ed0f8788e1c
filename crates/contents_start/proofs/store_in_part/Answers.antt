-- `store_in_part` meets its contract.
use Prim.Native.Nat.{◌+◌, ◌-◌}
use mathlib.Core.Path.{◌≡◌}
use native.Mathlib.Omega.{arith}
use Rattle.book_parts.proofs.Parts.{put_back}
use Rattle.contents_start.proofs.store_in_part.Goals as goal

pub returns : goal.returns
returns c =
    let a = c.args in
    let e : a.first + (a.l - a.first) ≡ a.l = omega (arith, c.requires.1) in
    rw e at
    (put_back a.first a.end (a.l - a.first) a.v a.contents.now c.requires.0 c.min-a.result c.min-b.result c.min-a.ensures c.min-b.ensures c.put.new.s c.put.ensures)
