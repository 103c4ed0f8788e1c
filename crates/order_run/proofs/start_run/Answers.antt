-- `start_run` meets its contract.
use Rattle.order_run.proofs.Opens.{starts}
use Rattle.engine.specs.Tables.{tables}
use Rattle.order_run.proofs.start_run.Goals as goal

pub returns : goal.returns
returns c = let a = c.args in let s = c.start_on_part in let u = c.records_used-n in λ b g n p. starts a.book.now b g a.checked a.image.now a.order.now (tables a.contents.now a.readers.now a.writers.now) n p u.result u.ensures s.result s.new.contents s.new.readers s.new.writers s.auto.contents s.auto.readers s.auto.writers s.ensures
