-- `scan_first` meets its contract.
use borrow.Author.Tests.{ne_eqb, le-leb, lt-leb}
use Rattle.std.proofs.Common.{◌≢◌}
use Rattle.text.specs.Scan.{step_of}
use native.Mathlib.Omega.{arith}
use Rattle.text.proofs.scan_first.Goals as goal

pub returns-in-32 : goal.returns-in-32
unfolding step_of
returns-in-32 c = rw c.in-32.is

pub returns-in-48 : goal.returns-in-48
unfolding step_of
returns-in-48 c = rw c.in-48.is

pub returns-in-49-to-57 : goal.returns-in-49-to-57
unfolding step_of
returns-in-49-to-57 c = let b = c.args.b in let n : b ≢ 32 = omega arith in let z : b ≢ 48 = omega arith in rw (ne_eqb b 32 n, ne_eqb b 48 z, le-leb 48 b (omega arith), le-leb b 57 (omega arith))

pub returns-in_default : goal.returns-in_default
unfolding step_of
returns-in_default c = let b = c.args.b in let n : b ≢ 32 = omega arith in let z : b ≢ 48 = omega arith in rw (ne_eqb b 32 n, ne_eqb b 48 z, lt-leb 48 b (omega arith))

pub returns-in_default-2 : goal.returns-in_default-2
unfolding step_of
returns-in_default-2 c = let b = c.args.b in let n : b ≢ 32 = omega arith in let z : b ≢ 48 = omega arith in rw (ne_eqb b 32 n, ne_eqb b 48 z, le-leb 48 b (omega arith), lt-leb b 57 (omega arith))
