-- `code` meets its contract.
use mathlib.Core.Path.{sym, ◌∙◌}
use native.Mathlib.Omega.{arith}
use Rattle.engine_instruction.proofs.Coding.{decode_update, decode_release}
use Rattle.engine_instruction.proofs.code.Goals as goal

pub returns-in-Update : goal.returns-in-Update
returns-in-Update c = decode_update c.in-Update.location c.in-Update.value (omega arith) (omega arith) ∙ sym c.in-Update.is

pub returns-in-Release : goal.returns-in-Release
returns-in-Release c = decode_release c.in-Release.label (omega arith) ∙ sym c.in-Release.is
