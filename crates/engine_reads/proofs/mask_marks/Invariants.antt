-- The marks before the index are changed, and the others are as they were.
use Rattle.std.proofs.Common.{◌≡◌, ◌++◌, map, take, drop, bit_and}
use Rattle.engine_reads.proofs.mask_marks.Given as goal

abbrev pub invariant-loop-mark : goal.invariant-loop-mark
invariant-loop-mark l = l.readers ≡ map (λ v. bit_and v l.mask) (take l.mark-index l.initial.readers) ++ drop l.mark-index l.initial.readers
