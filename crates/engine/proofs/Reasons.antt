-- Results with this code's own reasons, as those of any type.
use Rattle.std.specs.Prelude.{Result, Ok, Err}
use mathlib.Core.Path.{◌≡◌, refl, ap, ap₂}
use Prim.Native.Nat.{ℕ}
use Rattle.text.specs.declared.Reason.{Reason}
use Rattle.text.specs.declared.Refusal.{Refusal}
use Rattle.engine.specs.declared.Tally.{Tally}
use Rattle.engine.specs.declared.TalliedResult.{TalliedResult}
use Rattle.engine.specs.Reasons.{RefusalAs, AnswerAs, ResultAs}

-- a refusal that is another, its reason converted to what it is, is that one
pub refusal_own : (e f : Refusal Reason) → RefusalAs (λ x y. y ≡ x) e f → f ≡ e
refusal_own e f h = alike h.0 h.1 h.2
  where
    of : Reason → ℕ → ℕ → Refusal Reason
    of x p q = record { reason = x; p = p; q = q }

    alike : {x y : Reason} {p q a b : ℕ} → x ≡ y → p ≡ q → a ≡ b → of x p a ≡ of y q b
    alike i j k = rw (i, j, k) refl

-- a result that is another, its reason converted to what it is, is that one
pub result_own : (t r : TalliedResult Reason) → ResultAs (λ x y. y ≡ x) t r → r ≡ t
result_own t r h =
    ap₂ (λ (a : Result (Unit {0}) (Refusal Reason)) (k : Tally). record { answer = a; tally = k }) (answers r.answer t.answer h.answer) h.tally
  where
    answers : (b a : Result (Unit {0}) (Refusal Reason)) → AnswerAs (λ x y. y ≡ x) a b → b ≡ a
    answers (Ok v) (Ok u) g = refl
    answers (Err f) (Err e) g = ap Err (refusal_own e f g)
    answers (Err f) (Ok u) g = absurd g
    answers (Ok v) (Err e) g = absurd g
