-- What the stages of a run promise.
use Rattle.text.specs.declared.Reason.{Reason}
use Rattle.std.specs.Prelude.{Err, IfSome, ◌≡◌, ℕ, ◌+◌, ◌-◌, ◌≤◌, List, length}
use Rattle.book.specs.Book.{Book, start}
use Rattle.book.specs.Image.{low_program}
use Rattle.engine.specs.declared.Tally.{Tally}
use Rattle.engine.specs.Tables.{Tables}
use Rattle.engine_fire.specs.declared.Begun.{Begun}
use Rattle.engine.specs.Reasons.{ResultAs}
use Rattle.engine_fire.specs.Reasons.{ProgressAs}
use Rattle.order.specs.Log.{Log}
use Rattle.order.specs.Run.{run_log}
use Rattle.order.specs.Lists.{lists_from, call_lists}
use Rattle.order.specs.Call.{left_past, log_call}
use Rattle.engine.specs.declared.TalliedResult.{TalliedResult}
use Rattle.order_run.specs.declared.RunState.{RunState}
use Rattle.order_run.specs.declared.RunState.TheVariants.{Next, Over}
use Rattle.order_run.specs.declared.Upcoming.{Upcoming}
use Rattle.order_run.specs.declared.CheckedCall.{CheckedCall}
use Rattle.order_run.specs.Runs.{Startable}
use Rattle.order_run.specs.Stages.{moves_left, FiredSoFar, MoveNext, RunAt, MoveBegun, CallAt}
use Rattle.order_run.specs.Checked.{CallPassed, run_lists}

-- ---- on tables of just the records needed; m is the image, o the order's table

-- i of the moves have fired, with the tally k, and left these marks: r says that move i is next, or has the answer of the order check
abbrev pub NextMove : List ℕ → ℕ → ℕ → Tally → List ℕ → List ℕ → RunState (TalliedResult Reason) → Type 0
NextMove o moves i k rs ws r = (m c d : List ℕ) (g : Log) → moves ≡ length g.moves → FiredSoFar m o g c i k d rs ws
    → RunAt m o g c (lists_from (low_program m) g c (moves - i) i) r d rs ws

-- the start is written into the tables t, which become u
abbrev pub StartedOn : List ℕ → List ℕ → List ℕ → ℕ → Tables → Tables → RunState (TalliedResult Reason) → Type 0
StartedOn text m o moves t u r = (b : Book) (g : Log) → Startable text m o b g moves t.contents t.readers t.writers
    → RunAt m o g (start b) (lists_from (low_program m) g (start b) moves 0) r u.contents u.readers u.writers

-- the move s, which is next, is begun in the contents d: its walk is b, with its instructions in the list l, and the reader marks became rs'
abbrev pub NextBegun : List ℕ → List ℕ → Upcoming → List ℕ → List ℕ → List ℕ → List ℕ → Begun Reason → Type 0
NextBegun m o s d rs rs' l b = (g : Log) (c ws : List ℕ) → MoveNext m o g c s d rs ws → MoveBegun m o g c s b l d rs' ws

-- the move s, which is begun, is finished on the tables t, which become u; and fewer moves are left
abbrev pub NextFinished : List ℕ → List ℕ → List ℕ → Upcoming → Begun Reason → Tables → Tables → RunState (TalliedResult Reason) → Type 0
NextFinished m o l s b t u r =
    ((g : Log) (c : List ℕ) → MoveBegun m o g c s b l t.contents t.readers t.writers
    → RunAt m o g c (lists_from (low_program m) g c (s.moves - (s.at + 1)) (s.at + 1)) r u.contents u.readers u.writers)
    × (moves_left r ≤ 64 - s.at)

-- ---- a run whose refusals have reasons of any type R, to which this code's reasons are converted

-- the move s is refused for this reason at node q, and the run is over: the tally of the moves before it stands
abbrev pub refused_run : {R : Type 0} → R → Upcoming → ℕ → RunState (TalliedResult R)
refused_run x s q = Over (record { answer = Err (record { reason = x; p = s.at; q = q }); tally = s.tally })

module _ {R : Type 0} (gives : Reason → R → Type 0) where
  -- the second state of a run is the first with the reason of a refusal converted
  abbrev pub StateAs : RunState (TalliedResult Reason) → RunState (TalliedResult R) → Type 0
  StateAs (Next a) (Next b) = b ≡ a
  StateAs (Over a) (Over b) = ResultAs gives a b
  StateAs (Next a) (Over b) = ⊥
  StateAs (Over a) (Next b) = ⊥

  -- The move s, which is begun, is finished on the tables t, which become u. A walk that was refused ends the run for its own reason, with the tables as they
  -- were; a walk that ended as one with this code's reasons, z, is finished as that is, and the state is converted. And fewer moves are left.
  pub record NextFinishedAs (m o l : List ℕ) (s : Upcoming) (b : Begun R) (t u : Tables) (r : RunState (TalliedResult R)) : Type 0 where
    pub refused : IfSome b.walk.refused (λ x. (r ≡ refused_run x s b.walk.node) × (u ≡ t))
    pub moves : (z : Begun Reason) → ProgressAs gives z.walk b.walk → (y : RunState (TalliedResult Reason)) × StateAs y r × NextFinished m o l s z t u y
    pub left : moves_left r ≤ 64 - s.at

-- ---- on tables of any length

-- a call that passed its checks is started on the tables t, which become u
abbrev pub CallStarted : List ℕ → List ℕ → List ℕ → CheckedCall → Tables → Tables → RunState (TalliedResult Reason) → Type 0
CallStarted book m o checked t u r = (b : Book) (g : Log) (n : ℕ) → CallPassed book b g checked m o t n
    → CallAt t n (left_past t (run_log b g)) m o (run_lists b g) r u.contents u.readers u.writers

-- a call is checked and, if it passes, started on the tables t, which become u, with n instruction records lent
abbrev pub CallPrepared : List ℕ → List ℕ → ℕ → Tables → Tables → List ℕ → List ℕ → RunState (TalliedResult Reason) → Type 0
CallPrepared book log n t u m o r = CallAt t n (log_call book log t n) m o (call_lists book log t n) r u.contents u.readers u.writers
