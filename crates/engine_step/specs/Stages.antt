-- The single-move call in two stages, between which the move's instructions go through the lent list.
use Rattle.std.specs.Prelude.{Result, Ok, Err, IfSome, IfOk, IfErr, IsErrAnd, OnErr, ◌≡◌, List, [], ◌++◌, ℕ, ◌≤◌, length, take, drop}
use Rattle.text.specs.declared.Reason.{Reason}
use Rattle.text.specs.declared.Refusal.{Refusal}
use Rattle.text.specs.Words.{Answer, told, told_refused}
use Rattle.book.specs.Book.{Program, L}
use Rattle.book.specs.Sum.{Strided}
use Rattle.book.specs.Image.{word, low_program}
use Rattle.book.specs.Sound.{Lawful}
use Rattle.engine.specs.Rule.{most_instructions}
use Rattle.engine.specs.Move.{Input, settle}
use Rattle.engine.specs.Single.{step_move, step_call}
use Rattle.engine_walk.specs.Walk.{outcome}
use Rattle.engine_walk.specs.WalkMarks.{WalkMarked}
use Rattle.engine_fire.specs.declared.Begun.{Begun}
use Rattle.engine_fire.specs.Outcome.{contents_after}
use Rattle.engine.specs.Reasons.{RefusalAs}
use Rattle.engine_fire.specs.Reasons.{ProgressAs}
use Rattle.engine_fire.specs.Count.{instructions_given}
use Rattle.engine_fire.specs.Effect.{move_answer}
use Rattle.engine_step.specs.Leaves.{CallLeaves}

-- the move with input k is begun in the contents c, with no marks: its walk ended as s says, with its instructions in the list l
pub record MoveWalked (B : Program) (c : List ℕ) (k : Input) (l : List ℕ) (s : Begun Reason) : Type 0 where
  pub walk : WalkMarked B c 1 k (outcome s.walk l) [] []
  pub count : s.count ≡ instructions_given s.walk
  pub room : length l ≡ most_instructions

-- a call that passed its checks, and whose image is m: its move is begun
pub record CallMoves (text c : List ℕ) (k : Input) (n : ℕ) (m l : List ℕ) (s : Begun Reason) : Type 0 where
  pub lent : most_instructions ≤ n
  pub lawful : Lawful (low_program m)
  pub locations : word m 6 ≡ L (low_program m)
  pub long : L (low_program m) ≤ length c
  pub walked : MoveWalked (low_program m) (take (L (low_program m)) c) k l s
  pub whole : step_move (low_program m) c k ≡ step_call text c k n

-- how many instructions a call gave: none if it was refused
abbrev pub given : Result (Begun Reason) (Refusal Reason) → ℕ
given (Ok s) = s.count
given (Err e) = 0

-- a call that is begun: it is refused by its checks, or its move is begun
pub record CallBegun (text c : List ℕ) (k : Input) (n : ℕ) (m l : List ℕ) (p : Result (Begun Reason) (Refusal Reason)) : Type 0 where
  pub stops : OnErr p (CallLeaves (told p) 0 l c (step_call text c k n))
  pub moves : IfOk p (λ s. CallMoves text c k n m l s)

-- A call that is finished, however it was begun: an answer that refuses stays, and the contents with it; else the move is settled by its walk's end and
-- the list l, on the first records of the table c, as many as the image m says are the book's locations, if each function has the stride of its arity.
pub record CallFinished (m c l : List ℕ) (p : Result (Begun Reason) (Refusal Reason)) (r : Answer) (d : List ℕ) : Type 0 where
  pub stops : OnErr p ((r ≡ told p) × (d ≡ c))
  pub moves : IfOk p (λ s. Strided (low_program m) → (ls : List ℕ) → (
      let o = settle (low_program m) (take (word m 6) c) ls (outcome s.walk l) in
      (r ≡ move_answer 0 o) × (d ≡ contents_after (take (word m 6) c) o ++ drop (word m 6) c)
      ))

module _ {E : Type 0} (gives : Refusal Reason → E → Type 0) where
  -- the result r is the answer a, with its refusal as it is converted
  abbrev pub Converted : Answer → Result (Unit {0}) E → Type 0
  Converted a (Ok u) = told (Ok u) ≡ a
  Converted a (Err e) = (f : Refusal Reason) × (told_refused f ≡ a) × gives f e

  -- the same where a call is refused by a value of any type, which stays; a refusal of the move is converted to that type
  pub record AnyCallFinished (m c l : List ℕ) (p : Result (Begun Reason) E) (r : Result (Unit {0}) E) (d : List ℕ) : Type 0 where
    pub stops : IfErr p (λ e. (r ≡ Err e) × (d ≡ c))
    pub moves : IfOk p (λ s. Strided (low_program m) → (ls : List ℕ) → (
        let o = settle (low_program m) (take (word m 6) c) ls (outcome s.walk l) in
        Converted (move_answer 0 o) r × (d ≡ contents_after (take (word m 6) c) o ++ drop (word m 6) c)
        ))

module _ {R E : Type 0} (gives : Reason → R → Type 0) (passes : Refusal R → E → Type 0) where
  -- a refusal of this code becomes e: its reason is converted, and then the whole
  abbrev pub PassedAs : Refusal Reason → E → Type 0
  PassedAs q e = (f : Refusal R) × RefusalAs gives q f × passes f e

  -- The same where a walk is refused for a reason of any type R, to which this code's reasons are converted: it is so for its own reason. A walk that ended as
  -- one with this code's reasons, z, is finished as that is, and a refusal of the move is converted.
  pub record CallFinishedAs (m c l : List ℕ) (p : Result (Begun R) E) (r : Result (Unit {0}) E) (d : List ℕ) : Type 0 where
    pub stops : IfErr p (λ e. (r ≡ Err e) × (d ≡ c))
    pub refused : IfOk p (λ s. IfSome s.walk.refused (λ x. IsErrAnd r (passes (record { reason = x; p = 0; q = s.walk.node })) × (d ≡ c)))
    pub moves : IfOk p (λ s. (z : Begun Reason) → ProgressAs gives z.walk s.walk → AnyCallFinished PassedAs m c l (Ok z) r d)
