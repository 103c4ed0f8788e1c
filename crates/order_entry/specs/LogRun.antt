-- What the log entry promises: the run's answer and label tally, the tables and the records that it leaves, and freedom of order.
use Rattle.std.specs.Prelude.{◌≡◌, List, ℕ, length}
use Rattle.engine.specs.declared.Record.{Record}
use Rattle.engine.specs.Labels.{TalliedAnswer}
use Rattle.order.specs.Call.{log_call}
use Rattle.order.specs.Demand.{Demand3}
use Rattle.order.specs.Tallied.{Tallied}
use Rattle.order.specs.Lists.{call_lists}
use Rattle.engine_list.specs.Written.{all_records_written}
use Rattle.order_run.specs.Runs.{answer_with}
use Rattle.engine.specs.Tables.{Tables}

-- the log entry on a book, a log, lent tables and lent records gives r, an answer with its tally, and leaves these tables and records
pub record LogRun (book log : List ℕ) (lent : Tables) (records : List Record) (r : TalliedAnswer) (left : Tables) (records' : List Record) : Type 0 where
  -- number and place, tally, contents and both marks are those of SPECIFICATION 8.3
  pub answer : answer_with r left.contents left.readers left.writers ≡ log_call book log lent (length records)
  -- the records got the instructions of each walked move in turn
  pub written : records' ≡ all_records_written (call_lists book log lent (length records)) records
  -- Refusal 17 is given exactly when unordered moves touch, and every order of an accepted log does the same
  pub demand3 : Demand3 book log lent (length records)
  -- the tally is that of the moves that fired, it says how many labels are on the roll, and every order of an accepted log has it alike
  pub tallied : Tallied book log lent (length records)

-- the same with n records that the entry has itself
pub record LogRunOwn (book log : List ℕ) (lent : Tables) (n : ℕ) (r : TalliedAnswer) (left : Tables) : Type 0 where
  -- number and place, tally, contents and both marks are the specification's
  pub answer : answer_with r left.contents left.readers left.writers ≡ log_call book log lent n
  -- 17 is given exactly when unordered moves touch, and every order of an accepted log does the same
  pub demand3 : Demand3 book log lent n
  -- the tally is that of the moves that fired, it says how many labels are on the roll, and every order of an accepted log has it alike
  pub tallied : Tallied book log lent n
