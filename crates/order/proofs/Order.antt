-- Lists of moves: splitting, what an order that keeps the pairs has, and sums over moves, which do not depend on the order.
use mathlib.Core.Path.{◌≡◌, refl, sym, ap, ◌∙◌}
use mathlib.Core.Logic.{◌⊎◌, inl, inr, ◌≢◌}
use mathlib.Core.List.{List, [], ◌∷◌, ◌++◌, append_assoc}
use mathlib.Core.Bool.{Bool, true, false, ◌||◌, or-true, false≢true}
use Prim.Native.Nat.{ℕ, ◌+◌}
use native.Mathlib.Omega.{arith}
use lib.Dec.{eqb}
use borrow.Author.Tests.{eqb-true, eq-eqb}
use Rattle.text.specs.Words.{has}
use Rattle.order.specs.Orders.{Before, one, more, Keeps}
use Rattle.text.proofs.Words.{refuted, or_cases, has_append}

-- ---- what a list has

pub has_left : (p q : List ℕ) (i : ℕ) → has p i ≡ true → has (p ++ q) i ≡ true
has_left p q i h = rw (has_append, h)

pub has_right : (p q : List ℕ) (i : ℕ) → has q i ≡ true → has (p ++ q) i ≡ true
has_right p q i h = rw (has_append, h) (or-true (has p i))

pub has_here : (i : ℕ) (q : List ℕ) → has (i ∷ q) i ≡ true
has_here i q = rw (eq-eqb i i refl)

pub has_at : (p : List ℕ) (i : ℕ) (q : List ℕ) → has (p ++ i ∷ q) i ≡ true
has_at p i q = has_right p (i ∷ q) i (has_here i q)

has_cases : (p q : List ℕ) (i : ℕ) → has (p ++ q) i ≡ true → (has p i ≡ true) ⊎ (has q i ≡ true)
has_cases p q i h = or_cases (has p i) (has q i) (sym (has_append p q i) ∙ h)

pub has_head : (i : ℕ) (q : List ℕ) (j : ℕ) → has (i ∷ q) j ≡ true → (i ≡ j) ⊎ (has q j ≡ true)
has_head i q j h = go (eqb i j) refl h
  where
    go : (b : Bool) → eqb i j ≡ b → (b || has q j) ≡ true → (i ≡ j) ⊎ (has q j ≡ true)
    go true e h = inl (eqb-true i j e)
    go false e h = inr h

pub has_split : (p : List ℕ) (i : ℕ) → has p i ≡ true → (a : List ℕ) × (b : List ℕ) × (p ≡ a ++ i ∷ b)
has_split [] i h = absurd (false≢true h)
has_split (j ∷ p) i h = go (has_head j p i h) (has_split p i)
  where
    go : (j ≡ i) ⊎ (has p i ≡ true) → (has p i ≡ true → (a : List ℕ) × (b : List ℕ) × (p ≡ a ++ i ∷ b))
        → (a : List ℕ) × (b : List ℕ) × (j ∷ p ≡ a ++ i ∷ b)
    go (inl e) r = ([], p, ap (λ (k : ℕ). k ∷ p) e)
    go (inr h) r = (j ∷ (r h).0, (r h).1, ap (λ (k : List ℕ). j ∷ k) (r h).2)

has_drop : (p : List ℕ) (i : ℕ) (q : List ℕ) (k : ℕ) → has (p ++ q) k ≡ true → has (p ++ i ∷ q) k ≡ true
has_drop p i q k h = go (has_cases p q k h)
  where
    go : (has p k ≡ true) ⊎ (has q k ≡ true) → has (p ++ i ∷ q) k ≡ true
    go (inl h) = has_left p (i ∷ q) k h
    go (inr h) = has_right p (i ∷ q) k (has_right (i ∷ []) q k h)

-- ---- a relation between each move and all that stand after it

module _ (R : ℕ → ℕ → Type 0) where
  abbrev pub Upward : List ℕ → Type 0
  Upward [] = Unit {0}
  Upward (i ∷ is) = ((j : ℕ) → has is j ≡ true → R i j) × Upward is

  pub upward_drop : (p : List ℕ) (i : ℕ) (q : List ℕ) → Upward (p ++ i ∷ q) → Upward (p ++ q)
  upward_drop [] i q u = u.1
  upward_drop (j ∷ p) i q u = (λ k h. u.0 k (has_drop p i q k h), upward_drop p i q u.1)

  pub upward_before : (p : List ℕ) (i : ℕ) (q : List ℕ) → Upward (p ++ i ∷ q) → (j : ℕ) → has p j ≡ true → R j i
  upward_before [] i q u j h = absurd (false≢true h)
  upward_before (k ∷ p) i q u j h = go (has_head k p j h) (upward_before p i q u.1 j)
    where
      go : (k ≡ j) ⊎ (has p j ≡ true) → (has p j ≡ true → R j i) → R j i
      go (inl e) r = rw e at (u.0 i (has_at p i q))
      go (inr h) r = r h

  upward_after : (p : List ℕ) (i : ℕ) (q : List ℕ) → Upward (p ++ i ∷ q) → (j : ℕ) → has q j ≡ true → R i j
  upward_after [] i q u j h = u.0 j h
  upward_after (k ∷ p) i q u j h = upward_after p i q u.1 j h

-- ---- what an order that keeps the pairs has: no move twice, and none before one that must come first

abbrev pub Up : (pair : ℕ → ℕ → Type 0) → ℕ → ℕ → Type 0
Up pair i j = (i ≢ j) × ¬ Before pair j i

module _ {log : List ℕ} {pair : ℕ → ℕ → Type 0} {is : List ℕ} (k : Keeps log pair is) where
  -- the first part of an order has, with a move, all moves that come before it by a pair
  closed : (p q : List ℕ) → is ≡ p ++ q → (a b : ℕ) → pair a b → has p b ≡ true → has p a ≡ true
  closed p q e a b r h = go (has_split p b h)
    where
      go : ((x : List ℕ) × (y : List ℕ) × (p ≡ x ++ b ∷ y)) → has p a ≡ true
      go (x, y, s) = rw s (has_left x (b ∷ y) a (k.pairs a b r x (y ++ q) (e ∙ rw s (append_assoc x (b ∷ y) q))))

  closed_all : (p q : List ℕ) → is ≡ p ++ q → {a b : ℕ} → Before pair a b → has p b ≡ true → has p a ≡ true
  closed_all p q e (one {a} {b} r) h = closed p q e a b r h
  closed_all p q e (more {a} {b} {c} f r) h = closed_all p q e f (closed p q e b c r h)

  ready : (p : List ℕ) (i : ℕ) (q : List ℕ) → is ≡ p ++ i ∷ q → {a : ℕ} → Before pair a i → has p a ≡ true
  ready p i q e (one {a} r) = k.pairs a i r p q e
  ready p i q e (more {b} f r) = closed_all p (i ∷ q) e f (k.pairs b i r p q e)

  -- no move stands in two parts
  apart_parts : (p q : List ℕ) → is ≡ p ++ q → (j : ℕ) → has p j ≡ true → ¬ (has q j ≡ true)
  apart_parts p q e j h g = go (has_split q j g)
    where
      go : ((x : List ℕ) × (y : List ℕ) × (q ≡ x ++ j ∷ y)) → ⊥
      go (x, y, s) = false≢true (sym (k.once (p ++ x) j y (e ∙ rw s (sym (append_assoc p x (j ∷ y))))) ∙ has_left p x j h)

  upward_from : (p q : List ℕ) → is ≡ p ++ q → Upward (Up pair) q
  upward_from p [] e = tt
  upward_from p (i ∷ q) e = (
    λ j h. (
      λ s. apart_parts (p ++ i ∷ []) q f j (ap (λ (k : ℕ). has (p ++ i ∷ []) k) (sym s) ∙ has_at p i []) h,
      λ b. apart_parts p (i ∷ q) e j (ready p i q e b) (has_right (i ∷ []) q j h),
    ),
    upward_from (p ++ i ∷ []) q f,
  )
    where
      f : is ≡ (p ++ i ∷ []) ++ q
      f = e ∙ sym (append_assoc p (i ∷ []) q)

  pub upward : Upward (Up pair) is
  upward = upward_from [] is refl

-- a move taken out of both lists leaves lists of the same moves
module _ (pair : ℕ → ℕ → Type 0) (p : List ℕ) (i : ℕ) (q ys : List ℕ) (ux : Upward (Up pair) (p ++ i ∷ q)) (uy : Upward (Up pair) (i ∷ ys))
    (e : (k : ℕ) → has (i ∷ ys) k ≡ has (p ++ i ∷ q) k) where
  gone : ¬ (has (p ++ q) i ≡ true)
  gone h = go (has_cases p q i h)
    where
      go : (has p i ≡ true) ⊎ (has q i ≡ true) → ⊥
      go (inl h) = (upward_before (Up pair) p i q ux i h).0 refl
      go (inr h) = (upward_after (Up pair) p i q ux i h).0 refl

  pub left_same : (k : ℕ) → has ys k ≡ has (p ++ q) k
  left_same k = go (eqb i k) refl
    where
      go : (b : Bool) → eqb i k ≡ b → has ys k ≡ has (p ++ q) k
      go true h = rw (← eqb-true i k h, refuted (has (p ++ q) i) gone) (refuted (has ys i) (λ g. (uy.0 i g).0 refl))
      go false h = rw h at (e k) ∙ has_append p (i ∷ q) k ∙ rw h (sym (has_append p q k))

-- ---- sums over moves

-- the sum of w over these moves
abbrev pub sum : (ℕ → ℕ) → List ℕ → ℕ
sum w [] = 0
sum w (i ∷ is) = w i + sum w is

sum_split : (w : ℕ → ℕ) (p : List ℕ) (i : ℕ) (q : List ℕ) → sum w (p ++ i ∷ q) ≡ w i + sum w (p ++ q)
sum_split w [] i q = refl
sum_split w (j ∷ p) i q = omega (arith, sum_split w p i q)

-- a sum over the same moves, each once, does not depend on their order
pub same_sum : (pair : ℕ → ℕ → Type 0) (w : ℕ → ℕ) (is log : List ℕ) → Upward (Up pair) is → Upward (Up pair) log → ((k : ℕ) → has is k ≡ has log k)
    → sum w is ≡ sum w log
same_sum pair w [] [] ui ul e = refl
same_sum pair w [] (j ∷ log) ui ul e = absurd (false≢true (e j ∙ has_here j log))
same_sum pair w (i ∷ is) log ui ul e = go (has_split log i (sym (e i) ∙ has_here i is)) (λ t. same_sum pair w is t ui.1)
  where
    go : ((p : List ℕ) × (q : List ℕ) × (log ≡ p ++ i ∷ q)) → ((t : List ℕ) → Upward (Up pair) t → ((k : ℕ) → has is k ≡ has t k) → sum w is ≡ sum w t)
        → w i + sum w is ≡ sum w log
    go (p, q, s) next =
        let u : Upward (Up pair) (p ++ i ∷ q) = rw s at ul in
        let h : (k : ℕ) → has (i ∷ is) k ≡ has (p ++ i ∷ q) k = rw s at e in
        let n = next (p ++ q) (upward_drop (Up pair) p i q u) (left_same pair p i q is u ui h) in
        omega (arith, sum_split w p i q, ap (sum w) s)
