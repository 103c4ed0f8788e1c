-- `scan_byte` meets its contract.
use Rattle.text.specs.Scan.{step_of}
use Rattle.text.proofs.scan_byte.Goals as goal

pub returns-in-Zero : goal.returns-in-Zero
unfolding step_of
returns-in-Zero c = rw c.in-Zero.is

pub returns-in-Bad : goal.returns-in-Bad
unfolding step_of
returns-in-Bad c = rw c.in-Bad.is
