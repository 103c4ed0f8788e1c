-- The measures of `eval` and `argument`: the depth falls, and `argument` stands above `eval` at one depth.
use Rattle.std.proofs.Common.{◌+◌, ◌*◌}
use Rattle.engine_term.proofs.Frame.+argument_eval.Given as goal

abbrev pub decreases-argument : goal.decreases-argument
decreases-argument l = 2 * l.depth + 1

abbrev pub decreases-eval : goal.decreases-eval
decreases-eval l = 2 * l.depth
