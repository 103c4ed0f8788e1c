-- `read_reserve` meets its contract.
use Rattle.book.specs.Image.{low_program}
use Rattle.engine_term.proofs.Marking.{runs_read}
use Rattle.engine_reads.proofs.read_reserve.Goals as goal

pub returns : goal.returns
returns c = let a = c.args in let f = a.frame.now in runs_read (low_program f.image.now) f.contents.now f.bit a.x c.fetch.result _ _ (λ p. c.fetch.ensures) c.mark_reserve.ensures
