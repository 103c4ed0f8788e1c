-- `run` meets its contract.
use Rattle.std.proofs.Common.{arith}
use Rattle.rental.proofs.Read.{whole_printed}
use Rattle.rental.proofs.run.Goals as goal

pub returns-in-Ok-write_answer-clause-printed : goal.returns-in-Ok-write_answer-clause-printed
returns-in-Ok-write_answer-clause-printed g c =
    let read = c.in-Ok.ensures in
    whole_printed 60001 _ _ _ _ c.read_all.new.buf c.in-Ok.n (omega arith) c.read_all.auto.buf read.bound.0 read.bytes read.end c.in-Ok-write_answer.ensures
