-- The least clash of all instructions is that of those left, from the least so far.
use Rattle.std.proofs.Common.{◌≡◌, drop}
use Rattle.book.specs.Image.{low_program}
use Rattle.engine_instruction.specs.Code.{decoded}
use Rattle.engine_clash.specs.LeastClash.{least_clash}
use Rattle.engine_clash.proofs.least_of_all.Given as goal

abbrev pub invariant-loop-code : goal.invariant-loop-code
invariant-loop-code l =
    least_clash (low_program l.image) l.contents (decoded l.list) (decoded (drop l.code-index l.list)) l.least
    ≡ least_clash (low_program l.image) l.contents (decoded l.list) (decoded l.list) l.most
