-- `walk_move` meets its contract.
use Rattle.std.specs.Prelude.{None}
use Rattle.text.proofs.Checks.{some_numbered, unrefused}
use Rattle.text.specs.Refusals.{refusal_number}
use mathlib.Core.Path.{◌≡◌, refl}
use mathlib.Core.List.{[], ◌∷◌}
use Rattle.book.specs.declared.Agent.{Agent}
use Rattle.book.specs.Book.{agent_at}
use Rattle.book.specs.Image.{low_program}
use Rattle.book.proofs.Held.{agent_held}
use Rattle.engine.specs.Move.{input}
use Rattle.engine_emit.specs.Emit.{walk_from, reached}
use Rattle.engine_emit.proofs.Stepped.{stepped_reached}
use Rattle.engine_emit.proofs.Steps.{reached_walking, reached_refused}
use Rattle.engine_walk.specs.Walk.{walk_at}
use Rattle.engine_walk.proofs.Steps.{runs_from}
use Rattle.engine_walk.proofs.Kept.{runs_agent, gathered, walk_marked_back}
use Rattle.engine_walk.proofs.walk_move.Goals as goal

pub returns : goal.returns
returns c =
    let a = c.args in
    let m = a.image.now in
    let B = low_program m in
    let who : Agent = record { root = c.low-root.result; element = c.low.result } in
    let is : who ≡ agent_at B a.agent = rw (c.low-root.ensures, c.low.ensures) (agent_held _ _ _ c.agent_at-who.ensures) in
    let w = c.walk-w in
    let r = c.all_used-r.result in
    let l = w.new.list in
    gathered B a.contents.now a.bit (input a.agent a.picks.now) _ _ _
    (runs_agent B a.contents.now a.bit _ _ _ a.agent c.permanent.result a.picks.now who (reached [] r l) is c.permanent.ensures
    (runs_from B a.contents.now a.bit (walk_at m (0 ∷ 0 ∷ 0 ∷ 0 ∷ 0 ∷ 0 ∷ 0 ∷ 0 ∷ who.element ∷ []) 32 who.root) a.picks.now (record { len = 0; label = c.permanent.result; refused = None; node = 0 }) a.list.now refl _ _ _ w.ensures) (stepped_reached (c.all_used-r.ensures l)))
    (walk_from [] r l) (reached_walking [] r l (unrefused _ c.is_some.ensures c.if-is_some.false))

pub returns-then-is_some : goal.returns-then-is_some
returns-then-is_some c =
    let a = c.args in
    let m = a.image.now in
    let B = low_program m in
    let who : Agent = record { root = c.low-root.result; element = c.low.result } in
    let is : who ≡ agent_at B a.agent = rw (c.low-root.ensures, c.low.ensures) (agent_held _ _ _ c.agent_at-who.ensures) in
    let w = c.walk-w in
    let r = c.all_used-r.result in
    let l = w.new.list in
    walk_marked_back B a.contents.now a.bit (input a.agent a.picks.now) _ _ _
    (runs_agent B a.contents.now a.bit _ _ _ a.agent c.permanent.result a.picks.now who (reached [] r l) is c.permanent.ensures
    (runs_from B a.contents.now a.bit (walk_at m (0 ∷ 0 ∷ 0 ∷ 0 ∷ 0 ∷ 0 ∷ 0 ∷ 0 ∷ who.element ∷ []) 32 who.root) a.picks.now (record { len = 0; label = c.permanent.result; refused = None; node = 0 }) a.list.now refl _ _ _ w.ensures) (stepped_reached (c.all_used-r.ensures l)))
    (refusal_number r.refused) r.node _ (reached_refused [] r l (some_numbered _ c.is_some.ensures c.if-is_some.true)) c.clear_marks.ensures
