-- `walk_release` meets its contract.
use mathlib.Core.Path.{◌∙◌}
use Rattle.text.specs.Refusals.{not_releasable}
use Rattle.book.specs.Book.{reserve}
use Rattle.engine.specs.declared.Instruction.TheVariants.{Release}
use Rattle.engine.specs.Reader.{done, read, ◌>>=◌}
use Rattle.engine.specs.Rule.{walk, refuse_if, unreleasable, emit, ◌then◌}
use Rattle.engine_term.specs.Bindings.{value_at}
use Rattle.book.specs.Image.{low_program}
use Rattle.engine_term.proofs.Marking.{runs_bind, runs_value}
use Rattle.engine_emit.specs.Emit.{walk_from}
use Rattle.engine_emit.proofs.Stepped.{stepped_reached}
use Rattle.engine_emit.proofs.Steps.{reached_walking}
use Rattle.engine_walk.proofs.walk_release.Goals as goal

pub returns : goal.returns
unfolding walk
returns c =
    let a = c.args in
    let f = a.frame.now in
    let m = f.image.now in
    let B = low_program m in
    λ ys.
    let w = walk_from ys a.s a.list.now in
    let y = c.eval-x.result in
    runs_bind B f.contents.now f.bit (value_at m f.bindings a.depth a.node.a) (λ y. read (reserve y) >>= λ v. done (refuse_if (unreleasable B y v) not_releasable a.n w then emit a.n (Release y))) _ _ _ _ _ c.eval-x.ensures
    (runs_bind B f.contents.now f.bit (read (reserve y)) (λ v. done (refuse_if (unreleasable B y v) not_releasable a.n w then emit a.n (Release y))) _ _ _ _ _ c.read_reserve-v.ensures
    (runs_value B f.contents.now f.bit _ _ _ (stepped_reached (c.emit_release.ensures ys) ∙ rw (reached_walking ys a.s a.list.now c.requires))))
