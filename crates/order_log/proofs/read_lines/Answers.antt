-- `read_lines` meets its contract.
use Prim.Native.Nat.{◌+◌, ◌≤◌}
use native.Mathlib.Nat.{min-eq_left}
use native.Mathlib.Omega.{arith}
use Rattle.order_lines.specs.Lines.{ChoiceLinesRead}
use Rattle.order_log.proofs.Lines.{header_small, lines_joined}
use Rattle.order_log.proofs.read_lines.Goals as goal

pub returns : goal.returns
returns c =
    let a = c.args in
    let moves = c.read_moves-moves in
    let pairs = c.read_pairs-pairs in
    let picks = c.read_choices-picks in
    let small = header_small a.h c.requires in
    let few : a.h.a + a.h.b ≤ 2080 = omega (arith, small.0, small.1) in
    let lines : ChoiceLinesRead a.elements a.log.now a.h.a (a.h.a + a.h.b) a.h.c pairs.new.order picks.new.order picks.result =
    rw (min-eq_left small.0, min-eq_left few, min-eq_left small.2) at picks.ensures in
    rw (c.join_faults-2.ensures, c.join_faults.ensures)
    (lines_joined a.agents a.elements a.log.now a.h c.requires moves.new.order pairs.new.order picks.new.order
    (omega (arith, moves.auto.order, c.read_moves-arg-1.given.0.1)) moves.result pairs.result picks.result moves.ensures pairs.ensures lines)
