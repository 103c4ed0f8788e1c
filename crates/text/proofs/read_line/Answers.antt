-- `read_line` meets its contract.
use Prim.Native.Nat.{◌+◌}
use Rattle.text.proofs.Fields.{line_of}
use Rattle.text.proofs.read_line.Goals as goal

pub returns : goal.returns
returns c = let a = c.args in line_of a.text.now (a.first + a.i) _ _ _ _ c.number.ensures c.number-2.ensures c.number-3.ensures c.number-4.ensures
