-- The first i numbers stand in the first i records, and the other records are as they were.
use Rattle.std.proofs.Common.{◌≡◌}
use Rattle.engine_instruction.specs.Code.{items}
use Rattle.engine_list.specs.Written.{records_written}
use Rattle.engine_list.proofs.write_records.Given as goal

abbrev pub invariant-loop-i : goal.invariant-loop-i
invariant-loop-i l = l.list ≡ records_written (items l.from l.i) l.initial.list
