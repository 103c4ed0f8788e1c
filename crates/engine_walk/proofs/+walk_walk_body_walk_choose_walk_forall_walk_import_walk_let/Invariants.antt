-- The measures of the walk's functions: the depth falls, and at one depth a body stands above the walk, and the binders above both. The invariants: what
-- the loop has still to do leads from where it is to where the whole leads.
use Rattle.std.proofs.Common.{◌≡◌, ℕ, ◌+◌, ◌*◌, ◌-◌, ◌≤◌, List, length}
use Rattle.engine.specs.Rule.{Walked, after, each as for_each}
use Rattle.book.specs.Image.{low_program}
use Rattle.engine_term.specs.Marks.{Has, Runs}
use Rattle.engine_emit.specs.Emit.{picks_left, reached}
use Rattle.engine_reads.specs.Marking.{members_from, first_and_rest}
use Rattle.engine_walk.specs.Walk.{body_at, walk_at as node_walk}
use Rattle.engine_walk.proofs.+walk_walk_body_walk_choose_walk_forall_walk_import_walk_let.Given as goal

abbrev pub decreases-walk : goal.decreases-walk
decreases-walk l = 3 * l.depth

abbrev pub decreases-walk_body : goal.decreases-walk_body
decreases-walk_body l = 3 * l.depth + 1

abbrev pub decreases-walk_choose : goal.decreases-walk_choose
decreases-walk_choose l = 3 * l.depth + 2

abbrev pub decreases-walk_forall : goal.decreases-walk_forall
decreases-walk_forall l = 3 * l.depth + 2

abbrev pub decreases-walk_import : goal.decreases-walk_import
decreases-walk_import l = 3 * l.depth + 2

abbrev pub decreases-walk_let : goal.decreases-walk_let
decreases-walk_let l = 3 * l.depth + 2

abbrev pub invariant-walk-loop-left : goal.invariant-walk-loop-left
invariant-walk-loop-left l =
    (l.left ≤ l.depth) × (length l.readers ≡ length l.initial.readers) × ((z : Walked) (m : List ℕ)
    → Runs (low_program l.frame.image.now) l.frame.contents.now l.frame.bit (after (reached (picks_left l.picks) l.r l.list) (node_walk l.frame.image.now l.frame.bindings l.left l.at)) z l.readers m
    → Runs (low_program l.frame.image.now) l.frame.contents.now l.frame.bit (after (reached (picks_left l.initial.picks) l.initial.r l.initial.list) (node_walk l.frame.image.now l.frame.bindings l.depth l.n)) z l.initial.readers m)

abbrev pub decreases-walk-loop-left : goal.decreases-walk-loop-left
decreases-walk-loop-left l = l.left

abbrev pub invariant-walk_forall-loop-y : goal.invariant-walk_forall-loop-y
invariant-walk_forall-loop-y l =
    (length l.readers ≡ length l.initial.readers) × (Has (low_program l.frame.image.now) l.node.b 1 → (z : Walked) (n : List ℕ)
    → Runs (low_program l.frame.image.now) l.frame.contents.now l.frame.bit (after (reached (picks_left l.picks) l.r l.list) (for_each (body_at l.frame.image.now l.frame.bindings l.depth l.node.c l.node.a) (first_and_rest (low_program l.frame.image.now) l.frame.contents.now l.node.b l.y))) z l.readers n
    → Runs (low_program l.frame.image.now) l.frame.contents.now l.frame.bit (after (reached (picks_left l.initial.picks) l.initial.r l.initial.list) (for_each (body_at l.frame.image.now l.frame.bindings l.depth l.node.c l.node.a) (members_from (low_program l.frame.image.now) l.frame.contents.now l.node.b 0))) z l.initial.readers n)

abbrev pub decreases-walk_forall-loop-y : goal.decreases-walk_forall-loop-y
decreases-walk_forall-loop-y l = l.e - l.y
