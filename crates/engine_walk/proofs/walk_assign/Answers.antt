-- `walk_assign` meets its contract.
use mathlib.Core.Path.{◌∙◌}
use Rattle.text.specs.Refusals.{non_boolean}
use Rattle.book.specs.Book.{node_at}
use Rattle.engine.specs.declared.Instruction.TheVariants.{Update}
use Rattle.engine.specs.Reader.{done, ◌>>=◌}
use Rattle.engine.specs.Term.{term_at}
use Rattle.engine.specs.Rule.{walk, refuse_if, not_boolean, emit, ◌then◌}
use Rattle.engine_term.specs.Bindings.{value_at, target_at}
use Rattle.book.specs.Image.{low_program}
use Rattle.engine_term.proofs.Marking.{runs_bind, runs_value}
use Rattle.engine_emit.specs.Emit.{walk_from}
use Rattle.engine_emit.proofs.Stepped.{stepped_reached}
use Rattle.engine_emit.proofs.Steps.{reached_walking}
use Rattle.engine_walk.proofs.walk_assign.Goals as goal

pub returns : goal.returns
unfolding walk
returns c =
    let a = c.args in
    let f = a.frame.now in
    let m = f.image.now in
    let B = low_program m in
    let s = f.bindings in
    let t = term_at (node_at B) a.depth a.node.a in
    λ ys.
    let w = walk_from ys a.s a.list.now in
    runs_bind B f.contents.now f.bit (target_at m s a.depth a.node.a) (λ l. value_at m s a.depth a.node.b >>= λ v. done (refuse_if (not_boolean B t v) non_boolean a.n w then emit a.n (Update l v))) _ _ _ _ _ c.target_location-at.ensures
    (runs_bind B f.contents.now f.bit (value_at m s a.depth a.node.b) (λ v. done (refuse_if (not_boolean B t v) non_boolean a.n w then emit a.n (Update c.target_location-at.result v))) _ _ _ _ _ c.eval-x.ensures
    (runs_value B f.contents.now f.bit _ _ _ (stepped_reached (c.emit_update.ensures ys) ∙ rw (reached_walking ys a.s a.list.now c.requires, c.target_function-f.ensures))))
