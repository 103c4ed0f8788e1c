-- `owner_of` meets its contract.
use Rattle.book.specs.Image.{low_program}
use Rattle.book_parts.proofs.Parts.{Sought}
use Rattle.book_parts.proofs.owner_of.Given as goal

abbrev pub invariant-loop-g : goal.invariant-loop-g
invariant-loop-g l = Sought (low_program l.image) l.l l.g l.first
