-- What making the moves that are left of a run does, on tables of just the records needed.
use Rattle.text.specs.declared.Reason.{Reason}
use Rattle.std.specs.Prelude.{◌≡◌, List, ℕ, ◌≤◌, length}
use Rattle.book.specs.Image.{low_program}
use Rattle.engine.specs.declared.Instruction.{Instruction}
use Rattle.engine.specs.declared.Record.{Record}
use Rattle.engine.specs.declared.TalliedResult.{TalliedResult}
use Rattle.engine.specs.Labels.{TalliedAnswer, tallied}
use Rattle.engine.specs.Rule.{most_instructions}
use Rattle.order.specs.Log.{Log}
use Rattle.order.specs.Run.{run_from}
use Rattle.engine_list.specs.Written.{all_records_written}
use Rattle.order_run.specs.declared.RunState.{RunState}
use Rattle.order_run.specs.declared.RunState.TheVariants.{Over}
use Rattle.order_run.specs.Runs.{answer_with}
use Rattle.order_run.specs.Stages.{RunAt}

-- the moves from the state t on are made, on the tables d, rs, ws and the records ys: the answer is r, and these tables and records are left
pub record MovesMade (m o : List ℕ) (t : RunState (TalliedResult Reason)) (d rs ws : List ℕ) (ys : List Record) (r : TalliedAnswer) (d' rs' ws' : List ℕ) (zs : List Record) : Type 0 where
  -- if the run is over, its answer stands, and nothing is written
  pub over : (a : TalliedResult Reason) → t ≡ Over a → (answer_with r d' rs' ws' ≡ answer_with (tallied a) d rs ws) × (zs ≡ ys)
  -- of a run that is so far: its answer and its tables, and the records got the instructions of each walked move in turn
  pub run : (g : Log) (c : List ℕ) (rest : List (List Instruction)) → most_instructions ≤ length ys → RunAt m o g c rest t d rs ws
      → (answer_with r d' rs' ws' ≡ run_from (low_program m) g c) × (zs ≡ all_records_written rest ys)
