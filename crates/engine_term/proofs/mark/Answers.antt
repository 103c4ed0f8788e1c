-- `mark` meets its contract.
use mathlib.Core.Path.{sym}
use lib.Bits.{bit_or}
use lib.ListN.{get_or}
use lib.Seq.{set_out}
use Rattle.engine_term.proofs.mark.Goals as goal

pub returns-else-at-readers : goal.returns-else-at-readers
returns-else-at-readers c = let a = c.args in sym (set_out a.readers.now a.at (bit_or (get_or a.readers.now a.at 0) a.bit) c.if-at-readers.false)
