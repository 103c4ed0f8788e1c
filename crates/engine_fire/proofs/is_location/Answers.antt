-- `is_location` meets its contract.
use mathlib.Core.Path.{sym, ap, ◌∙◌}
use native.Mathlib.Omega.{arith}
use borrow.Author.Tests.{le-ltb}
use lib.Dec.{ltb}
use Rattle.book.specs.Book.{L}
use Rattle.book.specs.Image.{low_program}
use Rattle.book_parts.specs.declared.Part.{Part}
use Rattle.book_parts.proofs.Places.{locations_fit}
use Rattle.engine_fire.proofs.Own.{part_has}
use Rattle.engine_fire.proofs.is_location.Goals as goal

pub returns-then-l-eq-NO_LOCATION : goal.returns-then-l-eq-NO_LOCATION
returns-then-l-eq-NO_LOCATION c =
    let a = c.args in
    sym (le-ltb a.l (L (low_program a.image.now)) (omega (arith, c.if-l-eq-NO_LOCATION.true, locations_fit a.image.now)))

pub returns : goal.returns
returns c =
    let a = c.args in
    ap (λ (p : Part). ltb a.l p.end) c.part_of-part.ensures ∙ part_has (low_program a.image.now) a.l
