-- `read` meets its contract.
use Rattle.engine_term.proofs.Marking.{runs_read}
use Rattle.engine_term.proofs.Leaves.{dynamic_placed}
use Rattle.book.proofs.Held.{function_held}
use Rattle.engine_term.specs.Marks.{Placed}
use Rattle.book.specs.Image.{low_program}
use mathlib.Core.Path.{◌≡◌, ◌∙◌}
use Rattle.engine_term.proofs.Frame.read.Goals as goal

pub returns : goal.returns
returns c =
    let a = c.args in
    let f = a.self.now in
    let B = low_program f.image.now in
    let row = function_held f.image.now a.f c.function_at-row.result c.function_at-row.ensures in
    λ l s.
    let e : Placed B → c.location-at.result ≡ l = λ p. c.location-at.ensures ∙ rw row (s p).0 in
    runs_read B f.contents.now f.bit l c.fetch.result _ _ (λ p. c.fetch.ensures ∙ rw (e p))
    (λ p. c.mark_if_dynamic.ensures ∙ rw (e p, row, dynamic_placed B a.f a.x a.y l s p))
