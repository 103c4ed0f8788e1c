-- Results whose refusals have reasons of any type R, to which this code's reasons are converted.
use Rattle.std.specs.Prelude.{⊤, Result, Ok, Err, ◌≡◌}
use Rattle.text.specs.declared.Reason.{Reason}
use Rattle.text.specs.declared.Refusal.{Refusal}
use Rattle.engine.specs.declared.TalliedResult.{TalliedResult}

module _ {R : Type 0} (gives : Reason → R → Type 0) where
  -- the second refusal is the first with its reason converted
  abbrev pub RefusalAs : Refusal Reason → Refusal R → Type 0
  RefusalAs e f = gives e.reason f.reason × (f.p ≡ e.p) × (f.q ≡ e.q)

  -- the second answer is the first with its refusal's reason converted
  abbrev pub AnswerAs : Result (Unit {0}) (Refusal Reason) → Result (Unit {0}) (Refusal R) → Type 0
  AnswerAs (Ok u) (Ok v) = ⊤
  AnswerAs (Err e) (Err f) = RefusalAs e f
  AnswerAs (Ok u) (Err f) = ⊥
  AnswerAs (Err e) (Ok v) = ⊥

  -- the second result is the first with its refusal's reason converted
  pub record ResultAs (t : TalliedResult Reason) (r : TalliedResult R) : Type 0 where
    pub answer : AnswerAs t.answer r.answer
    pub tally : r.tally ≡ t.tally
