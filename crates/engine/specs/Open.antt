-- One name that opens every definition of moves, and of all that they use, on an `unfolding` line, for theorems by computation.
use Rattle.std.specs.Prelude.{ℕ}
use Rattle.book.specs.Open.{open_book}
use Rattle.engine.specs.Reader.{value_in, locations_read, ◌>>=◌}
use Rattle.engine.specs.Term.{tree, apply, eval, target, function_of}
use Rattle.engine.specs.Rule.{rule_tree, each, members, lowest, universe_at, walk, agent_walk}
use Rattle.engine.specs.Move.{given, values, updates, released, other, two_values, set_to_label, clashes, idle, fire, dynamic_among, append_from, release_gives, extra_reads, fire_or_clash, settle, move, reads}
use Rattle.engine.specs.Labels.{issued, distinct, returned, tally, count_below, roll_count, labels_leaving}
use Rattle.engine.specs.Single.{check_agent, check_picks, check_lent_step, check_contents, check_step, step_call}

unfoldable pub open_engine : ℕ
unfolding open_book value_in locations_read ◌>>=◌ tree apply eval target function_of rule_tree each members lowest universe_at walk agent_walk given values updates released other two_values set_to_label clashes idle fire dynamic_among append_from release_gives extra_reads fire_or_clash settle move reads issued distinct returned tally count_below roll_count labels_leaving check_agent check_picks check_lent_step check_contents check_step step_call
open_engine = 0
