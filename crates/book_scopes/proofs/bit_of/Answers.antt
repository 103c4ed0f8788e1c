-- `bit_of` meets its contract.
use mathlib.Core.Path.{sym}
use native.Mathlib.Omega.{arith}
use lib.ListN.{get_or-eq_default}
use Rattle.book.specs.Scopes.{bit_of, bits}
use Rattle.book_scopes.proofs.Tables.{bit_shift}
use Rattle.book_scopes.proofs.bit_of.Goals as goal

pub returns-then-v-lt8 : goal.returns-then-v-lt8
returns-then-v-lt8 c = bit_shift c.args.v (omega arith)

pub returns-else-v-lt8 : goal.returns-else-v-lt8
unfolding bit_of
returns-else-v-lt8 c = sym (get_or-eq_default bits 0 {n = c.args.v} (omega arith))
