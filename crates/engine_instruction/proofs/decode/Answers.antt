-- `decode` meets its contract.
use borrow.Author.Tests.{lt-ltb, le-ltb}
use Rattle.engine_instruction.specs.Code.{decode_of}
use Rattle.engine_instruction.proofs.decode.Goals as goal

pub returns-then-c-lt-RELEASES : goal.returns-then-c-lt-RELEASES
unfolding decode_of
returns-then-c-lt-RELEASES c = rw (lt-ltb _ _ c.if-c-lt-RELEASES.true)

pub returns-else-c-lt-RELEASES : goal.returns-else-c-lt-RELEASES
unfolding decode_of
returns-else-c-lt-RELEASES c = rw (le-ltb _ _ c.if-c-lt-RELEASES.false)
