-- `skip_value` meets its contract.
use Rattle.contents_check.specs.Part.{SkippedTo}
use Rattle.contents_check.proofs.skip_value.Given as goal

abbrev pub invariant-loop-k : goal.invariant-loop-k
invariant-loop-k l = SkippedTo l.contents l.v l.l l.end l.k
