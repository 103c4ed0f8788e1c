-- `touching_sets` meets its contract: what touches in a block is added, or no move writes in it.
use Rattle.order_touch.specs.Marked.{TouchSets}
use Rattle.order_touch.proofs.Sets.{all_start, all_unwritten, unwritten}
use native.Mathlib.Omega.{arith}
use Prim.Native.Nat.{◌+◌, min}
use mathlib.Core.Path.{◌≡◌}
use Rattle.order_touch.proofs.touching_sets.Goals as goal
use Rattle.order_touch.proofs.touching_sets.Goals.{Joined-all_marks-ne0, then-all_marks-ne0, else-all_marks-ne0}

pub loop-a-init : goal.loop-a-init
loop-a-init c = let e : min 0 c.args.n ≡ 0 = omega arith in rw e (all_start _ _)

-- what touches is complete up to the block's end
block_done : (c : Joined-all_marks-ne0) → TouchSets c.args.readers.now c.args.writers.now (c.loop-a.a + c.min.result) c.if-all_marks-ne0.touching
block_done c =
    let a = c.args in
    let l = c.loop-a in
    let s = c.min.result in
    let e : min l.a a.n ≡ l.a = omega arith in
    elim c.if-all_marks-ne0.branch [
      | then-all_marks-ne0 w ↦ rw w.touching-is w.add_part.ensures
      | else-all_marks-ne0 w ↦ rw w.touching-is
          (all_unwritten a.readers.now a.writers.now l.a s l.touching
          (λ k h. unwritten a.writers.now l.a s k h (c.all_marks.ensures (omega (arith, w.if-all_marks-ne0.false)) k)) (rw e at l.invariant))
    ]

pub loop-a-preserved : goal.loop-a-preserved
loop-a-preserved c =
    let e : min (c.loop-a.a + 64) c.args.n ≡ c.loop-a.a + c.min.result = omega (arith, c.min.ensures) in
    rw e (block_done (goal.at.loop-a-preserved c).Joined-all_marks-ne0)

pub returns-after-all_marks-ne0 : goal.returns-after-all_marks-ne0
returns-after-all_marks-ne0 c =
    let e : c.args.n ≡ c.loop-a.a + c.min.result = omega (arith, c.min.ensures) in
    rw e (block_done (goal.at.returns-after-all_marks-ne0 c).Joined-all_marks-ne0)
