use Rattle.text.proofs.Checks.{some_numbered, unrefused}
use mathlib.Core.Logic.{inl, inr}
use mathlib.Core.Path.{◌≡◌, refl, ◌∙◌}
use Prim.Native.Nat.{ℕ, ◌+◌, ◌-◌, ◌<◌, ◌≤◌}
use native.Mathlib.Omega.{arith}
use lib.ListN.{set}
use Rattle.book.specs.Book.{node_at, location}
use Rattle.engine.specs.Reader.{Reader}
use Rattle.engine.specs.Rule.{Walk, Walked, lowest, import_of, walk as walked, rule_from}
use Rattle.engine.proofs.Steps.{rule_last, rule_assign, rule_bind, rule_for_all, rule_import, rule_release, rule_choose}
use Rattle.engine_term.specs.Bindings.{variables_of, agent_of, value_at}
use Rattle.book_parts.specs.StoredNodes.{stored_node}
use Rattle.book.specs.Image.{low_program}
use Rattle.engine_term.specs.Marks.{Placed}
use Rattle.engine_term.proofs.Marking.{runs_given, runs_bind, runs_as}
use Rattle.engine_term.proofs.Leaves.{at_one, named_universe}
use Rattle.engine_emit.specs.Emit.{picks_left, walk_from, reached, importing_found, next_pick, picked}
use Rattle.engine_emit.proofs.Stepped.{stepped_reached}
use Rattle.engine_emit.proofs.Steps.{reached_walking, reached_refused}
use Rattle.engine_reads.specs.Marking.{found_below}
use Rattle.engine_reads.proofs.Members.{universe_placed, members_next}
use Rattle.engine_walk.specs.Walk.{body_at}
use Rattle.engine_walk.proofs.RuleKinds.{no_rule_number}
use Rattle.engine_walk.proofs.Steps.{runs_bindings, runs_from, runs_refused, runs_rule, runs_skip, runs_block, runs_test, import_as, runs_choose, rule_none}
use Rattle.engine_walk.proofs.Forall.{sweep_as, sweep_more, sweep_end, runs_for_all}
use Rattle.book.proofs.Held.{elements_held, function_held}
use Rattle.engine_walk.proofs.+walk_walk_body_walk_choose_walk_forall_walk_import_walk_let.Goals as goal

pub walk-loop-left-init : goal.walk-loop-left-init
walk-loop-left-init t c = (omega arith, refl, λ z m h. h)

pub walk-returns-then-is_some : goal.walk-returns-then-is_some
walk-returns-then-is_some t c =
    let a = c.args in
    let f = a.frame.now in
    let l = c.loop-left in
    l.invariant.2 _ _ (runs_refused (low_program f.image.now) f.contents.now f.bit _ _ _ _ _ (reached_refused (picks_left l.picks) l.r l.list (some_numbered _ c.is_some.ensures c.if-is_some.true)))

pub walk-returns-in-Set : goal.walk-returns-in-Set
walk-returns-in-Set t c =
    let a = c.args in
    let f = a.frame.now in
    let B = low_program f.image.now in
    let l = c.loop-left in
    l.invariant.2 _ _
    (runs_rule B f.contents.now f.bit (agent_of f.bindings) (variables_of f.bindings) (rule_from (node_at B) l.left l.at) _ (picks_left l.picks) l.r l.list _ _ _ (unrefused _ c.is_some.ensures c.if-is_some.false)
    (rule_assign (node_at B) l.left l.at (stored_node c.node-node.result) c.loop-left-test.true c.node-node.ensures (omega (arith, c.in-Set.ensures)))
    (c.walk_assign.ensures (picks_left l.picks)))

pub walk-returns-in-Let : goal.walk-returns-in-Let
walk-returns-in-Let t c =
    let a = c.args in
    let f = a.frame.now in
    let B = low_program f.image.now in
    let l = c.loop-left in
    l.invariant.2 _ _
    (runs_rule B f.contents.now f.bit (agent_of f.bindings) (variables_of f.bindings) (rule_from (node_at B) l.left l.at) _ (picks_left l.picks) l.r l.list _ _ _ (unrefused _ c.is_some.ensures c.if-is_some.false)
    (rule_bind (node_at B) l.left l.at (stored_node c.node-node.result) c.loop-left-test.true c.node-node.ensures (omega (arith, c.in-Let.ensures)))
    c.walk_let.ensures)

pub walk-returns-in-Forall : goal.walk-returns-in-Forall
walk-returns-in-Forall t c =
    let a = c.args in
    let f = a.frame.now in
    let B = low_program f.image.now in
    let l = c.loop-left in
    l.invariant.2 _ _
    (runs_rule B f.contents.now f.bit (agent_of f.bindings) (variables_of f.bindings) (rule_from (node_at B) l.left l.at) _ (picks_left l.picks) l.r l.list _ _ _ (unrefused _ c.is_some.ensures c.if-is_some.false)
    (rule_for_all (node_at B) l.left l.at (stored_node c.node-node.result) c.loop-left-test.true c.node-node.ensures (omega (arith, c.in-Forall.ensures)))
    (runs_given B f.contents.now f.bit _ _ _ _ (λ p. c.walk_forall.ensures (named_universe B p l.at (stored_node c.node-node.result) c.node-node.ensures (inl (omega (arith, c.in-Forall.ensures)))))))

pub walk-returns-in-Import : goal.walk-returns-in-Import
walk-returns-in-Import t c =
    let a = c.args in
    let f = a.frame.now in
    let B = low_program f.image.now in
    let l = c.loop-left in
    l.invariant.2 _ _
    (runs_rule B f.contents.now f.bit (agent_of f.bindings) (variables_of f.bindings) (rule_from (node_at B) l.left l.at) _ (picks_left l.picks) l.r l.list _ _ _ (unrefused _ c.is_some.ensures c.if-is_some.false)
    (rule_import (node_at B) l.left l.at (stored_node c.node-node.result) c.loop-left-test.true c.node-node.ensures (omega (arith, c.in-Import.ensures)))
    (runs_given B f.contents.now f.bit _ _ _ _ (λ p. c.walk_import.ensures (named_universe B p l.at (stored_node c.node-node.result) c.node-node.ensures (inr (inl (omega (arith, c.in-Import.ensures))))))))

pub walk-returns-in-Release : goal.walk-returns-in-Release
walk-returns-in-Release t c =
    let a = c.args in
    let f = a.frame.now in
    let B = low_program f.image.now in
    let l = c.loop-left in
    l.invariant.2 _ _
    (runs_rule B f.contents.now f.bit (agent_of f.bindings) (variables_of f.bindings) (rule_from (node_at B) l.left l.at) _ (picks_left l.picks) l.r l.list _ _ _ (unrefused _ c.is_some.ensures c.if-is_some.false)
    (rule_release (node_at B) l.left l.at (stored_node c.node-node.result) c.loop-left-test.true c.node-node.ensures (omega (arith, c.in-Release.ensures)))
    (c.walk_release.ensures (picks_left l.picks)))

pub walk-returns-in-Choose : goal.walk-returns-in-Choose
walk-returns-in-Choose t c =
    let a = c.args in
    let f = a.frame.now in
    let B = low_program f.image.now in
    let l = c.loop-left in
    l.invariant.2 _ _
    (runs_rule B f.contents.now f.bit (agent_of f.bindings) (variables_of f.bindings) (rule_from (node_at B) l.left l.at) _ (picks_left l.picks) l.r l.list _ _ _ (unrefused _ c.is_some.ensures c.if-is_some.false)
    (rule_choose (node_at B) l.left l.at (stored_node c.node-node.result) c.loop-left-test.true c.node-node.ensures (omega (arith, c.in-Choose.ensures)))
    (runs_given B f.contents.now f.bit _ _ _ _ (λ p. c.walk_choose.ensures (named_universe B p l.at (stored_node c.node-node.result) c.node-node.ensures (inr (inr (omega (arith, c.in-Choose.ensures))))))))

pub walk-returns-in_default : goal.walk-returns-in_default
walk-returns-in_default t c =
    let a = c.args in
    let f = a.frame.now in
    let B = low_program f.image.now in
    let l = c.loop-left in
    let x = stored_node c.node-node.result in
    let d = c.in_default in
    let h = no_rule_number c.kind_of.result _ c.kind_of.ensures d.not-Set d.not-Both d.not-If d.not-Let d.not-Forall d.not-Import d.not-Release d.not-Choose in
    l.invariant.2 _ _
    (runs_skip B f.contents.now f.bit (agent_of f.bindings) (variables_of f.bindings) (rule_from (node_at B) l.left l.at) (reached (picks_left l.picks) l.r l.list) l.readers
    (rule_none (node_at B) l.left l.at x c.loop-left-test.true c.node-node.ensures (λ e. h.0 (omega (arith, e))) (λ e. h.1 (omega (arith, e))) (λ e. h.2 (omega (arith, e))) (λ e. h.3 (omega (arith, e))) (λ e. h.4 (omega (arith, e))) (λ e. h.5 (omega (arith, e))) (λ e. h.6 (omega (arith, e))) (λ e. h.7 (omega (arith, e)))))

pub walk-loop-left-preserved-in-Both : goal.walk-loop-left-preserved-in-Both
walk-loop-left-preserved-in-Both t c =
    let a = c.args in
    let f = a.frame.now in
    let B = low_program f.image.now in
    let l = c.loop-left in
    let k = c.walk-r in (
      omega arith,
      k.auto.readers ∙ l.invariant.1,
      λ z m h. l.invariant.2 z m
          (runs_block B f.contents.now f.bit (agent_of f.bindings) (variables_of f.bindings) (node_at B) l.left l.at (stored_node c.node-node.result) c.loop-left-test.true c.node-node.ensures (picks_left l.picks) l.r l.list (unrefused _ c.is_some.ensures c.if-is_some.false) _ z _ _ m (omega (arith, c.in-Both.ensures)) k.ensures h),
    )

pub walk-loop-left-preserved : goal.walk-loop-left-preserved
walk-loop-left-preserved t c =
    let a = c.args in
    let f = a.frame.now in
    let B = low_program f.image.now in
    let l = c.loop-left in (
      omega arith,
      c.eval-x.auto.readers ∙ l.invariant.1,
      λ z m h. l.invariant.2 z m
          (runs_test B f.contents.now f.bit (agent_of f.bindings) (variables_of f.bindings) (node_at B) l.left l.at (stored_node c.node-node.result) c.loop-left-test.true c.node-node.ensures (picks_left l.picks) l.r l.list (unrefused _ c.is_some.ensures c.if-is_some.false) c.eval-x.result c.branch-at.result z _ _ m (omega (arith, c.in-If.ensures)) c.branch-at.ensures c.eval-x.ensures h),
    )

pub walk-returns : goal.walk-returns
walk-returns t c =
    let a = c.args in
    let f = a.frame.now in
    let B = low_program f.image.now in
    let l = c.loop-left in
    l.invariant.2 _ _
    (runs_skip B f.contents.now f.bit (agent_of f.bindings) (variables_of f.bindings) (rule_from (node_at B) l.left l.at) (reached (picks_left l.picks) l.r l.list) l.readers
    (rule_last (node_at B) l.left l.at c.loop-left-test.false))

pub walk_body-returns : goal.walk_body-returns
walk_body-returns t c =
    let a = c.args in
    let f = a.frame.now in
    let B = low_program f.image.now in
    runs_bindings B f.contents.now f.bit c.bind_variable.new.bindings (set (variables_of f.bindings) a.node.a a.x) (agent_of f.bindings) (rule_from (node_at B) a.depth a.node.c) (reached (picks_left a.picks.now) a.s a.list.now) _ _ _ c.bind_variable.ensures.0 c.bind_variable.ensures.1 c.walk.ensures

pub walk_choose-returns : goal.walk_choose-returns
unfolding walked
walk_choose-returns t c =
    let a = c.args in
    let f = a.frame.now in
    let m = f.image.now in
    let B = low_program m in
    let x = a.node in
    let ys = picks_left a.picks.now in
    let w = walk_from ys a.s a.list.now in
    let body : ℕ → Walk → Reader Walked = body_at m f.bindings a.depth x.c x.a in
    let p = c.take-t in
    let y = c.next-x in
    let v = c.read_universe-v in
    let is : y.result ≡ next_pick B.E ys = y.ensures in
    let took : reached (picks_left p.new.self) p.result a.list.now ≡ picked v.result a.n w ys = stepped_reached (p.ensures.walked a.list.now) ∙ rw (reached_walking ys a.s a.list.now c.requires) in
    λ has. runs_choose B f.contents.now f.bit a.n x.b w body v.result _ _ _ _ ys (rw is at (v.ensures has)) (rw (took, is) at c.walk_body.ensures)

pub walk_forall-loop-y-init : goal.walk_forall-loop-y-init
walk_forall-loop-y-init t c =
    let a = c.args in
    let g = a.frame.now in
    let B = low_program g.image.now in
    let f : ℕ → Walk → Reader Walked = body_at g.image.now g.bindings a.depth a.node.c a.node.a in (
      refl,
      λ has z n h. runs_given B g.contents.now g.bit _ _ _ _ (λ p.
          sweep_as B g.contents.now g.bit a.node.b f _ _ (reached (picks_left a.picks.now) a.s a.list.now) z _ n (members_next B p g.contents.now a.node.b has c.function_at-f.result c.elements-e.result 0 c.next_member-y.result (function_held _ _ _ c.function_at-f.ensures) (elements_held _ _ c.elements-e.ensures).0 c.next_member-y.ensures.1) h),
    )

pub walk_forall-returns-then-is_some : goal.walk_forall-returns-then-is_some
walk_forall-returns-then-is_some t c =
    let a = c.args in
    let g = a.frame.now in
    let B = low_program g.image.now in
    let f : ℕ → Walk → Reader Walked = body_at g.image.now g.bindings a.depth a.node.c a.node.a in
    let l = c.loop-y in
    let k = c.walk_body-r in
    let h : l.y < B.E = rw (← (elements_held _ _ c.elements-e.ensures).0) c.loop-y-test.true in
    λ has. runs_for_all B g.contents.now g.bit (agent_of g.bindings) (variables_of g.bindings) a.node.a a.node.b (rule_from (node_at B) a.depth a.node.c) (picks_left a.picks.now) a.s a.list.now _ _ _ _ c.requires (λ p. c.mark_universe.ensures ∙ rw (function_held _ _ _ c.function_at-f.ensures, (elements_held _ _ c.elements-e.ensures).0) (universe_placed B p a.node.b has g.contents.now g.bit a.readers.now))
    (l.invariant.1 has _ _
    (sweep_more B g.contents.now g.bit a.node.b f l.y (reached (picks_left l.picks) l.r l.list) _ _ _ _ _ h k.ensures
    (runs_refused B g.contents.now g.bit _ _ _ _ _ (reached_refused _ k.result _ (some_numbered _ c.is_some.ensures c.if-is_some.true)))))

pub walk_forall-loop-y-preserved : goal.walk_forall-loop-y-preserved
walk_forall-loop-y-preserved t c =
    let a = c.args in
    let g = a.frame.now in
    let B = low_program g.image.now in
    let f : ℕ → Walk → Reader Walked = body_at g.image.now g.bindings a.depth a.node.c a.node.a in
    let l = c.loop-y in
    let k = c.walk_body-r in
    let h : l.y < B.E = rw (← (elements_held _ _ c.elements-e.ensures).0) c.loop-y-test.true in (
      k.auto.readers ∙ l.invariant.0,
      λ has z n t. l.invariant.1 has z n
          (sweep_more B g.contents.now g.bit a.node.b f l.y (reached (picks_left l.picks) l.r l.list) _ z _ _ n h k.ensures
          (runs_given B g.contents.now g.bit _ _ _ _ (λ p.
          sweep_as B g.contents.now g.bit a.node.b f _ _ (reached (picks_left k.new.picks) k.result k.new.list) z _ n (members_next B p g.contents.now a.node.b has c.function_at-f.result c.elements-e.result (l.y + 1) c.next_member-y-in-loop-y.result (function_held _ _ _ c.function_at-f.ensures) (elements_held _ _ c.elements-e.ensures).0 c.next_member-y-in-loop-y.ensures.1) t))),
    )

pub walk_forall-returns : goal.walk_forall-returns
walk_forall-returns t c =
    let a = c.args in
    let g = a.frame.now in
    let B = low_program g.image.now in
    let f : ℕ → Walk → Reader Walked = body_at g.image.now g.bindings a.depth a.node.c a.node.a in
    let l = c.loop-y in
    let h : B.E ≤ l.y = rw (← (elements_held _ _ c.elements-e.ensures).0) c.loop-y-test.false in
    λ has. runs_for_all B g.contents.now g.bit (agent_of g.bindings) (variables_of g.bindings) a.node.a a.node.b (rule_from (node_at B) a.depth a.node.c) (picks_left a.picks.now) a.s a.list.now _ _ _ _ c.requires (λ p. c.mark_universe.ensures ∙ rw (function_held _ _ _ c.function_at-f.ensures, (elements_held _ _ c.elements-e.ensures).0) (universe_placed B p a.node.b has g.contents.now g.bit a.readers.now))
    (l.invariant.1 has _ _ (sweep_end B g.contents.now g.bit a.node.b f l.y (reached (picks_left l.picks) l.r l.list) l.readers h))

pub walk_import-returns : goal.walk_import-returns
unfolding walked
walk_import-returns t c =
    let a = c.args in
    let f = a.frame.now in
    let m = f.image.now in
    let B = low_program m in
    let x = a.node in
    let ys = picks_left a.picks.now in
    let w = walk_from ys a.s a.list.now in
    let body : ℕ → Walk → Reader Walked = body_at m f.bindings a.depth x.c x.a in
    let y = c.lowest_label-x.result in
    let taken = c.import_label-t in
    λ has.
    let enrolled : Placed B → reached ys taken.result taken.new.list ≡ importing_found B.E (location B x.b y 0) y a.n w = λ p.
    stepped_reached (taken.ensures ys) ∙ rw (reached_walking ys a.s a.list.now c.requires, c.location-at.ensures _ (at_one B x.b y has) p) in
    runs_bind B f.contents.now f.bit (lowest a.s.label (B.E - a.s.label)) (λ o. import_of B a.n x.b w body o) (found_below B.E y) _ _ _ _ c.lowest_label-x.ensures
    (runs_given B f.contents.now f.bit _ _ _ _ (λ p.
    runs_as B f.contents.now f.bit _ _ _ _ _ (import_as B a.n x.b y w body)
    (rw (← enrolled p) c.walk_body.ensures)))

pub walk_let-returns : goal.walk_let-returns
unfolding walked
walk_let-returns t c =
    let a = c.args in
    let f = a.frame.now in
    let m = f.image.now in
    let B = low_program m in
    let s = f.bindings in
    let x = a.node in
    runs_bind B f.contents.now f.bit (value_at m s a.depth x.b) (λ y. body_at m s a.depth x.c x.a y (walk_from (picks_left a.picks.now) a.s a.list.now)) _ _ _ _ _ c.eval-x.ensures
    (runs_from B f.contents.now f.bit (body_at m s a.depth x.c x.a c.eval-x.result) (picks_left a.picks.now) a.s a.list.now c.requires _ _ _ c.walk_body.ensures)
