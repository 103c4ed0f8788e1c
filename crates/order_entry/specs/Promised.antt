-- What the parts of the log entry promise, on tables of any length.
use Rattle.text.specs.declared.Reason.{Reason}
use Rattle.std.specs.Prelude.{◌≡◌, List, ℕ, length}
use Rattle.engine.specs.declared.Instruction.{Instruction}
use Rattle.engine.specs.declared.Record.{Record}
use Rattle.engine.specs.Labels.{TalliedAnswer, tallied}
use Rattle.engine.specs.Tables.{Tables}
use Rattle.engine_list.specs.Written.{all_records_written}
use Rattle.order.specs.Run.{LogAnswer}
use Rattle.engine.specs.declared.TalliedResult.{TalliedResult}
use Rattle.order_run.specs.declared.RunState.{RunState}
use Rattle.order_run.specs.declared.RunState.TheVariants.{Next, Over}
use Rattle.order_run.specs.Runs.{answer_with}
use Rattle.order_run.specs.Stages.{CallAt}
use Rattle.order_entry.specs.MovesMade.{MovesMade}

-- the moves from s on are made on the tables t and the records ys, which become u and zs
abbrev pub MadeOn : List ℕ → List ℕ → RunState (TalliedResult Reason) → Tables → List Record → TalliedAnswer → Tables → List Record → Type 0
MadeOn m o s t ys r u zs = MovesMade m o s t.contents t.readers t.writers ys r u.contents u.readers u.writers zs

-- a call that is at s is run to its end: its answer and tables are the whole call's, and the records got each walked move's instructions in turn
abbrev pub RunToEnd : List ℕ → List ℕ → RunState (TalliedResult Reason) → Tables → List Record → TalliedAnswer → Tables → List Record → Type 0
RunToEnd m o s t ys r u zs = (lent : Tables) (whole : LogAnswer) (rest : List (List Instruction))
    → CallAt lent (length ys) whole m o rest s t.contents t.readers t.writers
    → (answer_with r u.contents u.readers u.writers ≡ whole) × (zs ≡ all_records_written rest ys)

-- the same with n records that the entry has itself
abbrev pub RunToEndOwn : List ℕ → List ℕ → RunState (TalliedResult Reason) → Tables → ℕ → TalliedAnswer → Tables → Type 0
RunToEndOwn m o s t n r u = (before : Tables) (whole : LogAnswer) (rest : List (List Instruction))
    → CallAt before n whole m o rest s t.contents t.readers t.writers
    → answer_with r u.contents u.readers u.writers ≡ whole

-- ---- with results of any type

module _ {T : Type 0} (gives : TalliedResult Reason → T → Type 0) where
  -- the same where a run that is over may have a result of any type, which stays, with the tables and records; a result of the moves is made into that type
  abbrev pub AnyRunToEnd : List ℕ → List ℕ → RunState T → Tables → List Record → T → Tables → List Record → Type 0
  AnyRunToEnd m o (Next k) t ys r u zs = (x : TalliedResult Reason) × gives x r × RunToEnd m o (Next k) t ys (tallied x) u zs
  AnyRunToEnd m o (Over a) t ys r u zs = (r ≡ a) × (u ≡ t) × (zs ≡ ys)

  -- the same with n records that the entry has itself
  abbrev pub AnyRunToEndOwn : List ℕ → List ℕ → RunState T → Tables → ℕ → T → Tables → Type 0
  AnyRunToEndOwn m o (Next k) t n r u = (x : TalliedResult Reason) × gives x r × RunToEndOwn m o (Next k) t n (tallied x) u
  AnyRunToEndOwn m o (Over a) t n r u = (r ≡ a) × (u ≡ t)
