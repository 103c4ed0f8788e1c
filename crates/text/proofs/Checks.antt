-- How checks end: with a fact about what they give, or with one about their refusal's number and place.
use Rattle.std.specs.Prelude.{Option, None, Some, Result, Ok, Err}
use Rattle.std.specs.Result.{IsErrAnd, is_err}
use mathlib.Core.Path.{◌≡◌, refl, sym, ap, ◌∙◌}
use mathlib.Core.Bool.{Bool, true, false}
use mathlib.Core.Logic.{◌≢◌}
use Prim.Native.Nat.{ℕ, ◌+◌, ◌^◌, ◌≤◌, ◌<◌}
use native.Mathlib.Nat.{zero-add}
use native.Mathlib.Omega.{arith}
use Rattle.text.specs.declared.Reason.{Reason}
use Rattle.text.specs.declared.Reason.TheVariants.{IllFormed, LentShort, HeaderBounds, FunctionLine, NodeLine, NodeUse, AgentLine, ContentsRule, LogLine, AgentUnordered, NonBoolean, NotReleasable, NoLabelLeft, ListFull, Clash, UnorderedTouch, NotInUniverse, PickCount}
use Rattle.text.specs.declared.Refusal.{Refusal}
use Rattle.std.specs.Option.{is_some}
use mathlib.Core.Bool.{true≢false, false≢true}
use Rattle.text.specs.Refusals.{number_of, refusal_number}
use Rattle.text.specs.Words.{least, Answer, told, Checked, good, refused, ◌>>=◌, ◌>>◌, none_at, must, answer_of}
use Rattle.text.proofs.Words.{least_here}

pub data Ends {A : Type 0} (G : A → Type 0) (R : ℕ → ℕ → ℕ → Type 0) : Checked A → Type 0 where
  on : {a : A} → G a → Ends G R (good a)
  off : {n p q : ℕ} → R n p q → Ends G R (refused n p q)

-- the fact that says nothing about what a check gives
abbrev pub Any : {A : Type 0} → A → Type 0
Any a = Unit {0}

module _ {A : Type 0} {G H : A → Type 0} {R S : ℕ → ℕ → ℕ → Type 0} where
  -- a check that ends so also ends with another fact about what it gives, and with what follows about its refusal
  pub also : {c : Checked A} → Ends G R c → ((a : A) → c ≡ good a → H a) → ((n p q : ℕ) → R n p q → S n p q) → Ends H S c
  also (on {a} g) h s = on (h a refl)
  also (off {n} {p} {q} r) h s = off (s n p q r)

module _ {A B : Type 0} {G : A → Type 0} {H : B → Type 0} {R : ℕ → ℕ → ℕ → Type 0} where
  pub bind_ends : {c : Checked A} {f : A → Checked B} → Ends G R c → ((a : A) → G a → Ends H R (f a)) → Ends H R (c >>= f)
  unfolding ◌>>=◌
  bind_ends (on {a} g) k = k a g
  bind_ends (off r) k = off r

  pub then_ends : {c : Checked A} {d : Checked B} → Ends G R c → Ends H R d → Ends H R (c >> d)
  unfolding ◌>>◌
  then_ends (on g) k = k
  then_ends (off r) k = off r

module _ (R : ℕ → ℕ → ℕ → Type 0) where
  -- how a check by a search below m ends
  pub none_ends : (n first q : ℕ) (bad : ℕ → Bool) (m : ℕ) → ((p : ℕ) → p < m → R n (first + p) q) → Ends Any R (none_at n first q (least bad m))
  unfolding none_at
  none_ends n first q bad m k = go (least bad m) refl
    where
      go : (o : Option ℕ) → least bad m ≡ o → Ends Any R (none_at n first q o)
      go None e = on tt
      go (Some p) e = off (k p (least_here bad m p e).0)

  pub must_ends : (t : Bool) (n p q : ℕ) → R n p q → Ends Any R (must t n p q)
  unfolding must
  must_ends true n p q r = on tt
  must_ends false n p q r = off r

-- ---- one check after the other, by what they answer

pub none_here : (n q p : ℕ) (o : Option ℕ) → o ≡ Some p → ◌≡◌ {A = Answer} (record { number = n; p = p; q = q }) (answer_of (none_at n 0 q o))
unfolding none_at
none_here n q p o e = rw (e, zero-add p)

-- the refusals of a check have numbers from 1 on: an answer with number 0 is no refusal
abbrev pub Numbered : {A : Type 0} → Checked A → Type 0
Numbered c = Ends Any (λ n p q. 1 ≤ n) c

pub none_numbered : (n first q : ℕ) (o : Option ℕ) → 1 ≤ n → Numbered (none_at n first q o)
unfolding none_at
none_numbered n first q None h = on tt
none_numbered n first q (Some p) h = off h

pub must_numbered : (t : Bool) (n p q : ℕ) → 1 ≤ n → Numbered (must t n p q)
unfolding must
must_numbered true n p q h = on tt
must_numbered false n p q h = off h

pub accepted_good : {A : Type 0} {c : Checked A} → Numbered c → (answer_of c).number ≡ 0 → (a : A) × (c ≡ good a)
accepted_good (on {a} g) z = (a, refl)
accepted_good (off r) z = absurd (omega arith)

module _ {A B : Type 0} where
  -- if the first check is refused, its answer is that of both
  pub bind_stops : (c : Checked A) (f : A → Checked B) → (answer_of c).number ≢ 0 → answer_of (c >>= f) ≡ answer_of c
  unfolding ◌>>=◌
  bind_stops (good a) f n = absurd (n refl)
  bind_stops (refused n p q) f h = refl

  pub then_stops : (c : Checked A) (d : Checked B) → (answer_of c).number ≢ 0 → answer_of (c >> d) ≡ answer_of c
  unfolding ◌>>◌
  then_stops (good a) d n = absurd (n refl)
  then_stops (refused n p q) d h = refl

  -- if the first check is accepted, the second decides
  pub then_goes_on : (c : Checked A) (d : Checked B) → Numbered c → (answer_of c).number ≡ 0 → (c >> d) ≡ d
  unfolding ◌>>◌
  then_goes_on c d k z = rw (accepted_good k z).1

-- ---- what the code's results tell

-- no refusal has the number 0 or 16, and none a number past 19
pub reason_numbered : (r : Reason) → (1 ≤ number_of r) × (number_of r ≤ 19) × (number_of r ≢ 16)
reason_numbered IllFormed = (omega arith, omega arith, λ e. omega (arith, e))
reason_numbered LentShort = (omega arith, omega arith, λ e. omega (arith, e))
reason_numbered HeaderBounds = (omega arith, omega arith, λ e. omega (arith, e))
reason_numbered FunctionLine = (omega arith, omega arith, λ e. omega (arith, e))
reason_numbered NodeLine = (omega arith, omega arith, λ e. omega (arith, e))
reason_numbered NodeUse = (omega arith, omega arith, λ e. omega (arith, e))
reason_numbered AgentLine = (omega arith, omega arith, λ e. omega (arith, e))
reason_numbered ContentsRule = (omega arith, omega arith, λ e. omega (arith, e))
reason_numbered LogLine = (omega arith, omega arith, λ e. omega (arith, e))
reason_numbered AgentUnordered = (omega arith, omega arith, λ e. omega (arith, e))
reason_numbered NonBoolean = (omega arith, omega arith, λ e. omega (arith, e))
reason_numbered NotReleasable = (omega arith, omega arith, λ e. omega (arith, e))
reason_numbered NoLabelLeft = (omega arith, omega arith, λ e. omega (arith, e))
reason_numbered ListFull = (omega arith, omega arith, λ e. omega (arith, e))
reason_numbered Clash = (omega arith, omega arith, λ e. omega (arith, e))
reason_numbered UnorderedTouch = (omega arith, omega arith, λ e. omega (arith, e))
reason_numbered NotInUniverse = (omega arith, omega arith, λ e. omega (arith, e))
reason_numbered PickCount = (omega arith, omega arith, λ e. omega (arith, e))

module _ {A : Type 0} {r : Result A (Refusal Reason)} where
  -- a result that is accepted tells 0 0 0
  pub passing : {a : A} → r ≡ Ok a → (told r).number ≡ 0
  passing e = ap (λ (x : Result A (Refusal Reason)). (told x).number) e

  -- a result that is refused tells no 0
  pub refusing : {e : Refusal Reason} → r ≡ Err e → (told r).number ≢ 0
  refusing {e = e} h z = omega (arith, (reason_numbered e.reason).0, sym (ap (λ (x : Result A (Refusal Reason)). (told x).number) h) ∙ z)

  -- the refusal passed on, as a result of another type, tells the same
  pub refused_alike : {B : Type 0} (s : Result B (Refusal Reason)) {e : Refusal Reason} → r ≡ Err e → IsErrAnd s (λ d. d ≡ e) → told s ≡ told r
  refused_alike (Ok b) h g = absurd g
  refused_alike (Err d) h g = ap (λ (x : Refusal Reason). told {A = A} (Err x)) g ∙ sym (ap (λ (x : Result A (Refusal Reason)). told x) h)

-- a refusal passed on tells no 0
pub refused_on : {B : Type 0} (s : Result B (Refusal Reason)) (e : Refusal Reason) → IsErrAnd s (λ d. d ≡ e) → (told s).number ≢ 0
refused_on (Ok b) e g = absurd g
refused_on {B = B} (Err d) e g = refusing {A = B} {r = Err d} refl

-- whether there is a refusal, by its number; b is the test
module _ (o : Option Reason) {b : Bool} where
  pub some_numbered : b ≡ is_some o → b ≡ true → refusal_number o ≢ 0
  some_numbered e t z = go o (sym e ∙ t) z
    where
      go : (o : Option Reason) → is_some o ≡ true → refusal_number o ≢ 0
      go None e z = absurd (false≢true e)
      go (Some r) e z = omega (arith, (reason_numbered r).0, z)

  pub unrefused : b ≡ is_some o → b ≡ false → refusal_number o ≡ 0
  unrefused e t = go o (sym e ∙ t)
    where
      go : (o : Option Reason) → is_some o ≡ false → refusal_number o ≡ 0
      go None e = refl
      go (Some r) e = absurd (true≢false e)

-- whether a result is refused, by the number that it tells; b is the test
module _ {A : Type 0} (r : Result A (Refusal Reason)) {b : Bool} where
  pub err_numbered : b ≡ is_err r → b ≡ true → (told r).number ≢ 0
  err_numbered e t = go r (sym e ∙ t)
    where
      go : (r : Result A (Refusal Reason)) → is_err r ≡ true → (told r).number ≢ 0
      go (Ok a) h = absurd (false≢true h)
      go (Err d) h = refusing {A = A} {r = Err d} refl

  pub ok_numbered : b ≡ is_err r → b ≡ false → (told r).number ≡ 0
  ok_numbered e t = go r (sym e ∙ t)
    where
      go : (r : Result A (Refusal Reason)) → is_err r ≡ false → (told r).number ≡ 0
      go (Ok a) h = refl
      go (Err d) h = absurd (true≢false h)

-- ---- refusals and answers that fit one number

-- a refusal of a check before the first move: its number is 1 to 10, and its place fits
abbrev pub Before : ℕ → ℕ → ℕ → Type 0
Before n p q = (1 ≤ n) × (n ≤ 10) × (p < 2 ^ 24) × (q < 2 ^ 24)

-- an answer of a call: its number is at most 19 and not 16, and its place fits
pub record Small (a : Answer) : Type 0 where
  pub number : a.number ≤ 19
  pub not_16 : a.number ≢ 16
  pub p : a.p < 2 ^ 24
  pub q : a.q < 2 ^ 24
