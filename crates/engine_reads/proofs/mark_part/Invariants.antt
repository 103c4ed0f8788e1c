-- The marks before the index are changed, and the others are as they were.
use Rattle.std.proofs.Common.{◌≡◌, ◌++◌, map, take, drop, bit_or}
use Rattle.engine_reads.proofs.mark_part.Given as goal

abbrev pub invariant-loop-mark : goal.invariant-loop-mark
invariant-loop-mark l = l.part ≡ map (λ v. bit_or v l.bit) (take l.mark-index l.initial.part) ++ drop l.mark-index l.initial.part
