-- `mask_marks` meets its contract.
use Rattle.std.proofs.Common.{rules, bit_and}
use Rattle.std.proofs.lemmas.List.Edits.{map_over_more}
use Rattle.engine_reads.proofs.mask_marks.Goals as goal

pub loop-mark-preserved : goal.loop-mark-preserved
loop-mark-preserved c = search (rules, map_over_more (λ v. bit_and v c.args.mask))
