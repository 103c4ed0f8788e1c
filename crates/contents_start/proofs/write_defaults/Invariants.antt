-- `write_defaults` meets its contract.
use Rattle.book.specs.Image.{low_program}
use Rattle.contents_start.proofs.Defaults.{Filled}
use Rattle.contents_start.proofs.write_defaults.Given as goal

abbrev pub invariant-loop-f : goal.invariant-loop-f
invariant-loop-f l = Filled (low_program l.image) l.initial.contents l.first l.f l.contents
