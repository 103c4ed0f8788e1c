-- Laws of lists appended number by number.
use mathlib.Core.Path.{◌≡◌, refl, sym, ap, ap₂, ◌∙◌}
use mathlib.Core.Logic.{◌⊎◌, inl, inr, dite}
use mathlib.Core.Bool.{true, or-true, false≢true}
use mathlib.Core.List.{List, [], ◌++◌, append_assoc, append-nil}
use Prim.Native.Nat.{ℕ, zero, suc, ◌+◌, ◌≤◌, ◌<◌}
use native.Mathlib.Omega.{arith}
use native.Mathlib.Decide.{ℕ_discrete}
use Rattle.text.specs.Words.{has}
use Rattle.text.proofs.Words.{or_cases, has_append}
use Rattle.engine.specs.Move.{append_from}

-- the lists from i on, split at i + m
pub append_split : (f : ℕ → List ℕ) (i m n : ℕ) → append_from f i (m + n) ≡ append_from f i m ++ append_from f (i + m) n
unfolding append_from
append_split f i zero n =
    let p : 0 + n ≡ n = omega arith in
    let q : i + 0 ≡ i = omega arith in
    rw (p, q)
append_split f i (suc m) n =
    let p : suc m + n ≡ suc (m + n) = omega arith in
    let q : suc i + m ≡ i + suc m = omega arith in
    rw (p, append_split f (suc i) m n, q) (sym (append_assoc (f i) (append_from f (suc i) m) (append_from f (i + suc m) n)))

pub append_snoc : (f : ℕ → List ℕ) (i n : ℕ) → append_from f i (n + 1) ≡ append_from f i n ++ f (i + n)
unfolding append_from
append_snoc f i n = append_split f i n 1 ∙ ap (λ (s : List ℕ). append_from f i n ++ s) (append-nil (f (i + n)))

pub append_same :
    (f g : ℕ → List ℕ) (i j n : ℕ) → ((k : ℕ) → k < n → f (i + k) ≡ g (j + k)) → append_from f i n ≡ append_from g j n
unfolding append_from
append_same f g i j zero h = refl
append_same f g i j (suc n) h =
    ap₂ (λ (s t : List ℕ). s ++ t) (ap f (omega arith) ∙ h 0 (omega arith) ∙ ap g (omega arith))
    (append_same f g (suc i) (suc j) n (λ k l. ap f (omega arith) ∙ h (suc k) (omega arith) ∙ ap g (omega arith)))

pub append_none : (f : ℕ → List ℕ) (i n : ℕ) → ((k : ℕ) → k < n → f (i + k) ≡ []) → append_from f i n ≡ []
unfolding append_from
append_none f i zero h = refl
append_none f i (suc n) h =
    ap₂ (λ (s t : List ℕ). s ++ t) (ap f (omega arith) ∙ h 0 (omega arith))
    (append_none f (suc i) n (λ k l. ap f (omega arith) ∙ h (suc k) (omega arith)))

-- where f gives nothing from a number on, the numbers from there on may be left out
pub append_past : (f : ℕ → List ℕ) (i m n : ℕ) → ((k : ℕ) → k < n → f (i + m + k) ≡ []) → append_from f i (m + n) ≡ append_from f i m
append_past f i m n h = append_split f i m n ∙ ap (λ (s : List ℕ). append_from f i m ++ s) (append_none f (i + m) n h) ∙ append-nil (append_from f i m)

-- ---- what is in the appended lists

-- what f gives at one of the numbers is in the list
pub append_has : (f : ℕ → List ℕ) (i n l x : ℕ) → i ≤ l → l < i + n → has (f l) x ≡ true → has (append_from f i n) x ≡ true
unfolding append_from
append_has f i zero l x a b h = absurd (omega arith)
append_has f i (suc n) l x a b h =
    dite (ℕ_discrete i l) (λ (e : i ≡ l). rw (has_append (f i) (append_from f (suc i) n) x, e, h))
    (λ (e : ¬ (i ≡ l)). rw (has_append (f i) (append_from f (suc i) n) x, append_has f (suc i) n l x (omega arith) (omega arith) h) (or-true (has (f i) x)))

-- what is in the list comes from one of the numbers
pub append_in : (f : ℕ → List ℕ) (i n x : ℕ) → has (append_from f i n) x ≡ true → (l : ℕ) × (l < i + n) × (has (f l) x ≡ true)
unfolding append_from
append_in f i zero x h = absurd (false≢true h)
append_in f i (suc n) x h =
    go (or_cases (has (f i) x) (has (append_from f (suc i) n) x) (sym (has_append (f i) (append_from f (suc i) n) x) ∙ h)) (append_in f (suc i) n x)
  where
    go : (has (f i) x ≡ true) ⊎ (has (append_from f (suc i) n) x ≡ true)
        → (has (append_from f (suc i) n) x ≡ true → (l : ℕ) × (l < suc i + n) × (has (f l) x ≡ true)) → (l : ℕ) × (l < i + suc n) × (has (f l) x ≡ true)
    go (inl e) r = (i, omega arith, e)
    go (inr e) r = let s = r e in (s.0, omega (arith, s.1), s.2)
