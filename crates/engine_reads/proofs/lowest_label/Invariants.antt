-- What is left of the search gives what all of it gives, and marks what all of it marks.
use Rattle.std.proofs.Common.{◌≡◌, ◌-◌}
use Rattle.engine.specs.Reader.{value_in, locations_read}
use Rattle.engine.specs.Rule.{lowest}
use Rattle.engine_term.specs.Marks.{marked}
use Rattle.engine_reads.proofs.lowest_label.Given as goal

abbrev pub invariant-loop-x : goal.invariant-loop-x
invariant-loop-x l =
    (value_in l.frame.contents.now (lowest l.x (l.e - l.x)) ≡ value_in l.frame.contents.now (lowest l.from (l.e - l.from)))
    × (marked l.frame.bit (locations_read l.frame.contents.now (lowest l.x (l.e - l.x))) l.readers ≡ marked l.frame.bit (locations_read l.frame.contents.now (lowest l.from (l.e - l.from))) l.initial.readers)
