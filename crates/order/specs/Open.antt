-- One name that opens every definition of logs, and of all that they use, on an `unfolding` line, for theorems by computation.
use Rattle.std.specs.Prelude.{ℕ}
use Rattle.engine.specs.Open.{open_engine}
use Rattle.order.specs.Sets.{bit}
use Rattle.order.specs.Pairs.{predecessors_of, predecessors, least_pair_from, no_pair_at}
use Rattle.order.specs.Log.{picks_of, choices_of, log_of, check_agents, check_log_header, check_log_text, check_log_lines, read_log, check_log}
use Rattle.order.specs.Run.{run, moves_that, readers, writers, run_answer, run_from}
use Rattle.order.specs.Call.{check_lengths, check_all, log_call}
use Rattle.order.specs.Lists.{lists_from, call_lists}

unfoldable pub open_order : ℕ
unfolding open_engine bit predecessors_of predecessors least_pair_from no_pair_at picks_of choices_of log_of check_agents check_log_header check_log_text check_log_lines read_log check_log run moves_that readers writers run_answer run_from check_lengths check_all log_call lists_from call_lists
open_order = 0
