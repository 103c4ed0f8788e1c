-- `bad_value` meets its contract.
use mathlib.Core.Path.{◌≡◌}
use Prim.Native.Nat.{◌-◌}
use Rattle.text.specs.Words.{least_from, least}
use Rattle.book.specs.Book.{L}
use Rattle.book.specs.Sum.{Strided}
use Rattle.book.specs.Contents.{bad_value}
use Rattle.book.specs.Image.{low_program}
use Rattle.book_parts.proofs.Places.{From}
use Rattle.contents_check.proofs.bad_value.Given as goal

abbrev pub invariant-loop-g : goal.invariant-loop-g
invariant-loop-g l =
    From (low_program l.image) l.g l.first
    × (Strided (low_program l.image) → least_from (bad_value (low_program l.image) l.contents) (L (low_program l.image) - l.first) l.first ≡ least (bad_value (low_program l.image) l.contents) (L (low_program l.image)))
