-- What every layer uses: lists made by place, the least place at fault, and what a check answers (SPECIFICATION 8.1).
use Rattle.std.specs.Prelude.{Option, None, Some}
use Rattle.std.specs.Prelude.{Bool, true, false, ◌||◌, ◌&&◌, List, [], ◌∷◌, ℕ, zero, suc, ◌+◌, eqb, leb, if◌then◌else◌, Result, Ok, Err}
use Rattle.text.specs.declared.Reason.{Reason}
use Rattle.text.specs.declared.Refusal.{Refusal}
use Rattle.text.specs.Refusals.{number_of}

-- 1 if the test passes, otherwise 0
abbrev pub one_if : Bool → ℕ
one_if true = 1
one_if false = 0

-- x is from lo to hi
abbrev pub within : ℕ → ℕ → ℕ → Bool
within lo x hi = leb lo x && leb x hi

-- the list has x
abbrev pub has : List ℕ → ℕ → Bool
has [] x = false
has (y ∷ ys) x = eqb y x || has ys x

module _ {A : Type 0} where
  -- the list of f at the n places from i on
  unfoldable pub table_from : (ℕ → A) → ℕ → ℕ → List A
  table_from f i zero = []
  table_from f i (suc n) = f i ∷ table_from f (suc i) n

  -- the list of f at the places below n
  abbrev pub table : (ℕ → A) → ℕ → List A
  table f n = table_from f 0 n

-- each number of a list changed by f, which also gets its place, counted from i
unfoldable pub by_place : (ℕ → ℕ → ℕ) → ℕ → List ℕ → List ℕ
by_place f i [] = []
by_place f i (v ∷ vs) = f i v ∷ by_place f (suc i) vs

-- the test passes at one of the places below n
unfoldable pub some_below : (ℕ → Bool) → ℕ → Bool
some_below test zero = false
some_below test (suc n) = some_below test n || test n

-- of the n places from i on, the least that is at fault
unfoldable pub least_from : (ℕ → Bool) → ℕ → ℕ → Option ℕ
least_from bad zero i = None
least_from bad (suc n) i = let r = least_from bad n (suc i) in if bad i then Some i else r

-- of the places below n, the least that is at fault
abbrev pub least : (ℕ → Bool) → ℕ → Option ℕ
least bad n = least_from bad n 0

-- an answer, the triple of SPECIFICATION 8.1: a refusal's number and its place (p, q); 0 0 0 when accepted
pub record Answer : Type 0 where
  pub number : ℕ
  pub p : ℕ
  pub q : ℕ

-- the answer that a refusal of the code tells
abbrev pub told_refused : Refusal Reason → Answer
told_refused r = record { number = number_of r.reason; p = r.p; q = r.q }

-- the answer that the code's result tells
abbrev pub told : {A : Type 0} → Result A (Refusal Reason) → Answer
told (Ok a) = record { number = 0; p = 0; q = 0 }
told (Err r) = told_refused r

-- what a check answers: a value, or a refusal with its number and its place (p, q)
pub data Checked (A : Type 0) : Type 0 where
  good : A → Checked A
  refused : ℕ → ℕ → ℕ → Checked A

module _ {A B : Type 0} where
  -- one check and then the next, which gets what the first gives; a refusal of the first is that of both
  infixl 15 ◌>>=◌
  infixl 15 ◌>>◌
  unfoldable pub ◌>>=◌ : Checked A → (A → Checked B) → Checked B
  good a >>= f = f a
  refused n p q >>= f = refused n p q

  -- one check and then another; a refusal of the first is that of both
  unfoldable pub ◌>>◌ : Checked A → Checked B → Checked B
  good a >> c = c
  refused n p q >> c = refused n p q

-- refused with the number n at the place found, counted from `first`, with q; accepted if nothing was found
unfoldable pub none_at : ℕ → ℕ → ℕ → Option ℕ → Checked (Unit {0})
none_at n first q None = good tt
none_at n first q (Some p) = refused n (first + p) q

-- refused with n at (p, q) unless the test passes
unfoldable pub must : Bool → ℕ → ℕ → ℕ → Checked (Unit {0})
must true n p q = good tt
must false n p q = refused n p q

-- the answer of a check, the triple of SPECIFICATION 8.1: 0 0 0 when accepted
abbrev pub answer_of : {A : Type 0} → Checked A → Answer
answer_of (good a) = record { number = 0; p = 0; q = 0 }
answer_of (refused n p q) = record { number = n; p = p; q = q }
