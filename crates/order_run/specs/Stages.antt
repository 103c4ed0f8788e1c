-- A log's run move by move: what holds before a move, when it is begun, and when the run is over.
use Rattle.text.specs.declared.Reason.{Reason}
use Rattle.std.specs.Prelude.{◌≡◌, ℕ, suc, ◌-◌, ◌^◌, ◌<◌, ◌≤◌, List, [], length, take, drop}
use Rattle.book.specs.Book.{L}
use Rattle.book.specs.Image.{word, low_program}
use Rattle.engine.specs.declared.Instruction.{Instruction}
use Rattle.engine.specs.declared.Tally.{Tally}
use Rattle.engine.specs.Rule.{most_instructions}
use Rattle.engine.specs.Labels.{tallied}
use Rattle.engine_fire.specs.Effect.{AfterWalk}
use Rattle.engine_fire.specs.declared.Begun.{Begun}
use Rattle.engine_fire.specs.Count.{instructions_given}
use Rattle.order.specs.Log.{Log}
use Rattle.order.specs.Run.{LogAnswer, run_from}
use Rattle.order.specs.Lists.{lists_from}
use Rattle.order.specs.Call.{left_past}
use Rattle.order.specs.Table.{input_in}
use Rattle.engine.specs.declared.TalliedResult.{TalliedResult}
use Rattle.order_run.specs.declared.RunState.{RunState}
use Rattle.order_run.specs.declared.RunState.TheVariants.{Next, Over}
use Rattle.order_run.specs.declared.Upcoming.{Upcoming}
use Rattle.order_run.specs.Runs.{Runnable, AfterMoves, answer_with}
use Rattle.engine.specs.Tables.{Tables, tables}

-- a number that falls with each move, so that the run ends: a log has at most 64 moves
abbrev pub moves_left : {T : Type 0} → RunState T → ℕ
moves_left (Next t) = suc (64 - t.at)
moves_left (Over r) = 0

-- ---- on tables of just the records needed

-- the first i moves have fired, with the tally k, and left these tables
pub record FiredSoFar (m o : List ℕ) (g : Log) (c : List ℕ) (i : ℕ) (k : Tally) (d rs ws : List ℕ) : Type 0 where
  pub runs : Runnable m o g c
  pub most : i ≤ length g.moves
  pub going : AfterMoves (low_program m) g c i k d rs ws

-- move t.at of the log is next
pub record MoveNext (m o : List ℕ) (g : Log) (c : List ℕ) (t : Upcoming) (d rs ws : List ℕ) : Type 0 where
  pub before : FiredSoFar m o g c t.at t.tally d rs ws
  pub at : t.at < length g.moves
  pub moves : t.moves ≡ length g.moves

-- how far a run is: a move is next, or the run is over; rest is the instructions that the moves from here on give
abbrev pub RunAt : List ℕ → List ℕ → Log → List ℕ → List (List Instruction) → RunState (TalliedResult Reason) → List ℕ → List ℕ → List ℕ → Type 0
RunAt m o g c rest (Next t) d rs ws = MoveNext m o g c t d rs ws × (rest ≡ lists_from (low_program m) g c (t.moves - t.at) t.at)
RunAt m o g c rest (Over r) d rs ws = (rest ≡ []) × (answer_with (tallied r) d rs ws ≡ run_from (low_program m) g c)

-- move t.at is begun, on the tables `old`: its walk ended as s says, with its instructions in x, and left the tables d, rs and ws
pub record MoveBegun (m o : List ℕ) (g : Log) (c : List ℕ) (t : Upcoming) (s : Begun Reason) (x d rs ws : List ℕ) : Type 0 where
  pub old : Tables
  pub next : MoveNext m o g c t old.contents old.readers old.writers
  pub after : AfterWalk (low_program m) (input_in o t.at) (2 ^ t.at) old s.walk x (tables d rs ws)
  pub room : length x ≡ most_instructions
  pub count : s.count ≡ instructions_given s.walk

-- ---- on tables of any length, whose first records are those needed

-- the tables are those lent but for their first records, and the run of the log g from the contents c gives the whole call's answer
pub record RestKept (lent : Tables) (n : ℕ) (whole : LogAnswer) (m : List ℕ) (g : Log) (c : List ℕ) (d rs ws : List ℕ) : Type 0 where
  pub records : most_instructions ≤ n
  pub locations : word m 6 ≡ L (low_program m)
  pub contents : (L (low_program m) ≤ length d) × (drop (L (low_program m)) d ≡ drop (L (low_program m)) lent.contents)
  pub readers : (L (low_program m) ≤ length rs) × (drop (L (low_program m)) rs ≡ drop (L (low_program m)) lent.readers)
  pub writers : (L (low_program m) ≤ length ws) × (drop (L (low_program m)) ws ≡ drop (L (low_program m)) lent.writers)
  pub call : left_past lent (run_from (low_program m) g c) ≡ whole

-- a move of a call is next; rest is the instructions that the moves from here on give
pub record CallGoesOn (lent : Tables) (n : ℕ) (whole : LogAnswer) (m o : List ℕ) (rest : List (List Instruction)) (t : Upcoming) (d rs ws : List ℕ) : Type 0 where
  pub g : Log
  pub c : List ℕ
  pub kept : RestKept lent n whole m g c d rs ws
  pub next : MoveNext m o g c t (take (L (low_program m)) d) (take (L (low_program m)) rs) (take (L (low_program m)) ws)
  pub lists : rest ≡ lists_from (low_program m) g c (t.moves - t.at) t.at

-- How far a call is: a move is next, or the run is over. n instruction records are lent, and `whole` is what the call is to answer; rest is the instructions
-- that the moves from here on give
abbrev pub CallAt : Tables → ℕ → LogAnswer → List ℕ → List ℕ → List (List Instruction) → RunState (TalliedResult Reason) → List ℕ → List ℕ → List ℕ → Type 0
CallAt lent n whole m o rest (Next t) d rs ws = CallGoesOn lent n whole m o rest t d rs ws
CallAt lent n whole m o rest (Over r) d rs ws = (rest ≡ []) × (answer_with (tallied r) d rs ws ≡ whole)
