-- What the single-move entries promise, for all inputs.
use Rattle.std.specs.Prelude.{◌≡◌, List, ℕ, length}
use Rattle.text.specs.Words.{Answer}
use Rattle.engine.specs.declared.Record.{Record}
use Rattle.engine.specs.Move.{Input}
use Rattle.engine.specs.Single.{step_call}
use Rattle.engine_list.specs.Written.{records_written}

-- of a book, contents, a move's input and lent records: the answer r, and the contents and records afterwards
pub record StepMade (book c : List ℕ) (i : Input) (records : List Record) (r : Answer) (c' : List ℕ) (records' : List Record) : Type 0 where
  -- number and place are the specification's
  pub answer : r ≡ (step_call book c i (length records)).answer
  -- the contents have the move's updates and no others, or are as they were
  pub contents : c' ≡ (step_call book c i (length records)).contents
  -- the move's instructions stand in front of the records
  pub written : records' ≡ records_written (step_call book c i (length records)).instructions records

-- the same with n records that the entry has itself
pub record StepMadeOwn (book c : List ℕ) (i : Input) (n : ℕ) (r : Answer) (c' : List ℕ) : Type 0 where
  pub answer : r ≡ (step_call book c i n).answer
  pub contents : c' ≡ (step_call book c i n).contents
