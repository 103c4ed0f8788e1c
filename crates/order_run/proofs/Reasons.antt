-- Laws of runs whose refusals have reasons of any type, to which this code's reasons are converted; and what they say where the reasons are this code's own.
use Rattle.std.specs.Prelude.{Option, None, Some, IfSome, Result, Ok, Err, is_err}
use mathlib.Core.Path.{◌≡◌, refl, sym, ap, subst, ◌∙◌}
use mathlib.Core.Bool.{Bool, true, false, true≢false, false≢true}
use mathlib.Core.List.{List}
use Prim.Native.Nat.{ℕ, ◌-◌, ◌≤◌}
use native.Mathlib.Omega.{arith}
use Rattle.text.specs.declared.Reason.{Reason}
use Rattle.text.specs.declared.Refusal.{Refusal}
use Rattle.engine.specs.declared.TalliedResult.{TalliedResult}
use Rattle.engine.specs.declared.Tally.{Tally}
use Rattle.engine.specs.Labels.{tallied}
use Rattle.engine.specs.Reasons.{AnswerAs}
use Rattle.engine.specs.Tables.{Tables}
use Rattle.engine.proofs.Reasons.{result_own}
use Rattle.engine_walk.specs.Walk.{outcome}
use Rattle.engine_fire.specs.declared.Begun.{Begun}
use Rattle.engine_fire.specs.Finish.{Finishes}
use Rattle.engine_fire.specs.Reasons.{refused_result, FinishesAs}
use Rattle.engine_fire.proofs.Reasons.{finished_as, progress_own}
use Rattle.order_run.specs.declared.RunState.{RunState}
use Rattle.order_run.specs.declared.RunState.TheVariants.{Next, Over}
use Rattle.order_run.specs.declared.Upcoming.{Upcoming}
use Rattle.order_run.specs.Stages.{moves_left}
use Rattle.order_run.specs.Promised.{NextFinished, refused_run, StateAs, NextFinishedAs}

-- a run that is over, with its answer and its tally
abbrev over_with : {R : Type 0} → Result (Unit {0}) (Refusal R) → Tally → RunState (TalliedResult R)
over_with a k = Over (record { answer = a; tally = k })

module _ {R : Type 0} (gives : Reason → R → Type 0) where
  -- a refusal that was converted was one of this code's
  refusal_of : (a : Result (Unit {0}) (Refusal Reason)) (b : Result (Unit {0}) (Refusal R)) → is_err b ≡ true → AnswerAs gives a b → (e : Refusal Reason) × (a ≡ Err e)
  refusal_of (Err e) (Err f) is h = (e, refl)
  refusal_of (Ok u) (Err f) is h = absurd h
  refusal_of a (Ok u) is h = absurd (false≢true is)

  -- and a result that is accepted was accepted
  accepted_of : (a : Result (Unit {0}) (Refusal Reason)) (b : Result (Unit {0}) (Refusal R)) → is_err b ≡ false → AnswerAs gives a b → a ≡ Ok tt
  accepted_of (Ok u) b is h = refl
  accepted_of (Err e) (Err f) is h = absurd (true≢false is)
  accepted_of (Err e) (Ok u) is h = absurd h

  -- as many moves are left
  left_as : (y : RunState (TalliedResult Reason)) (r : RunState (TalliedResult R)) → StateAs gives y r → moves_left r ≡ moves_left y
  left_as (Next a) (Next b) h = ap (λ (x : Upcoming). moves_left {T = TalliedResult R} (Next x)) h
  left_as (Over a) (Over b) h = refl
  left_as (Next a) (Over b) h = absurd h
  left_as (Over a) (Next b) h = absurd h

module _ {R : Type 0} {gives : Reason → R → Type 0} {m o l : List ℕ} {s : Upcoming} {b : Begun R} {t u : Tables} {bit : ℕ} {done : TalliedResult R} (does : FinishesAs gives m bit s.at b.walk l t done u) where
  -- the move was refused, and the run is over
  pub refused_next : {v : Bool} → v ≡ is_err done.answer → v ≡ true → (r : RunState (TalliedResult R)) → r ≡ over_with done.answer s.tally
      → ((z : Begun Reason) (a : TalliedResult Reason) (e : Refusal Reason) → Finishes m bit s.at (outcome z.walk l) t (tallied a) u → a.answer ≡ Err e
      → NextFinished m o l s z t u (Over (record { answer = Err e; tally = s.tally })))
      → NextFinishedAs gives m o l s b t u r
  refused_next v is r end own = rw end (record {
    refused = over b.walk.refused does.refused;
    moves = λ z p.
        let (a, c, d) = finished_as gives m bit s.at z.walk b.walk l t done u p does in
        let (e, i) = refusal_of gives a.answer done.answer (sym v ∙ is) c.answer in
        (Over (record { answer = Err e; tally = s.tally }), record { answer = rw (← i) c.answer; tally = refl }, own z a e d i);
    left = omega arith;
  })
    where
      over : (q : Option R) → IfSome q (λ x. (done ≡ refused_result x s.at b.walk.node) × (u ≡ t))
          → IfSome q (λ x. (over_with done.answer s.tally ≡ refused_run x s b.walk.node) × (u ≡ t))
      over None h = tt
      over (Some x) h =
          (ap (λ (a : Result (Unit {0}) (Refusal R)). over_with a s.tally) (ap (λ (r : TalliedResult R). r.answer) h.0), h.1)

  -- the move fired, and the run goes on from there
  pub fired_next : {v : Bool} → v ≡ is_err done.answer → v ≡ false → (y : RunState (TalliedResult Reason)) (r : RunState (TalliedResult R)) → StateAs gives y r → moves_left y ≤ 64 - s.at
      → ((z : Begun Reason) (a : TalliedResult Reason) → Finishes m bit s.at (outcome z.walk l) t (tallied a) u → a.answer ≡ Ok tt → done.tally ≡ a.tally → NextFinished m o l s z t u y)
      → NextFinishedAs gives m o l s b t u r
  fired_next v is y r c few own = record {
    refused = never b.walk.refused does.refused;
    moves = λ z p.
        let (a, h, d) = finished_as gives m bit s.at z.walk b.walk l t done u p does in
        (y, c, own z a d (accepted_of gives a.answer done.answer (sym v ∙ is) h.answer) h.tally);
    left = omega (arith, left_as gives y r c, few);
  }
    where
      never : (q : Option R) → IfSome q (λ x. (done ≡ refused_result x s.at b.walk.node) × (u ≡ t))
          → IfSome q (λ x. (r ≡ refused_run x s b.walk.node) × (u ≡ t))
      never None h = tt
      never (Some x) h = absurd (true≢false (sym (ap is_err (ap (λ (r : TalliedResult R). r.answer) h.0)) ∙ sym v ∙ is))

-- ---- where the reasons are this code's own

-- a state that is another, its reason converted to what it is, is that one
state_own : (y r : RunState (TalliedResult Reason)) → StateAs (λ x y. y ≡ x) y r → r ≡ y
state_own (Next a) (Next b) h = ap Next h
state_own (Over a) (Over b) h = ap Over (result_own a b h)
state_own (Next a) (Over b) h = absurd h
state_own (Over a) (Next b) h = absurd h

-- a move that is finished, as its definition says
pub next_finished_own : (m o l : List ℕ) (s : Upcoming) (b : Begun Reason) (t u : Tables) (r : RunState (TalliedResult Reason)) → NextFinishedAs (λ x y. y ≡ x) m o l s b t u r
    → NextFinished m o l s b t u r
next_finished_own m o l s b t u r h =
    let (y, c, d) = h.moves b (progress_own b.walk) in
    subst (λ (x : RunState (TalliedResult Reason)). NextFinished m o l s b t u x) (sym (state_own y r c)) d
