-- `location` meets its contract.
use Rattle.book.proofs.Held.{function_held}
use native.Mathlib.Nat.{mod-eq_of_lt}
use mathlib.Core.Path.{◌∙◌}
use Rattle.engine_term.proofs.location.Goals as goal

pub returns : goal.returns
returns c =
    let a = c.args in
    let m = a.image.now in
    λ l s p. c.location_word.ensures ∙ rw (c.location.ensures, function_held m a.f c.function_at-row.result c.function_at-row.ensures)
    (mod-eq_of_lt (p.small a.f a.x a.y c.ranges.x.fits c.ranges.y.fits) ∙ (s p).0)
