-- The label is cleared from the functions before g.
use Rattle.book.specs.Image.{low_program}
use Rattle.engine_release.proofs.Runs.{Upto}
use Rattle.engine_release.proofs.clear_label.Given as goal

abbrev pub invariant-loop-g : goal.invariant-loop-g
invariant-loop-g l = Upto (low_program l.image) l.x l.bit l.initial.contents l.initial.writers l.initial.readers l.first l.g l.contents l.writers l.readers
