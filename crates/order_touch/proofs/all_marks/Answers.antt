-- `all_marks` meets its contract: where all marks in one are 0, each mark that was passed is 0.
use lib.ListN.{get_or}
use borrow.Author.Count.{below_more}
use Rattle.order_touch.proofs.Sets.{join_none}
use Rattle.order_touch.proofs.all_marks.Goals as goal

pub loop-mark-preserved : goal.loop-mark-preserved
loop-mark-preserved c =
    let l = c.loop-mark in
    let both = join_none l.all (get_or c.args.part.now l.mark-index 0) in
    λ z. below_more _ _ (l.invariant (both z).0) (both z).1
