-- None of the elements passed is a member.
use Rattle.std.proofs.Common.{◌≡◌, ◌-◌}
use Rattle.engine_reads.specs.Marking.{member, next_passing}
use Rattle.engine_reads.proofs.next_member.Given as goal

abbrev pub invariant-loop-y : goal.invariant-loop-y
invariant-loop-y l = next_passing (member l.contents l.first) l.from (l.e - l.from) ≡ next_passing (member l.contents l.first) l.y (l.e - l.y)
