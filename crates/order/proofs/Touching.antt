-- Two moves touch by the test of refusal 17 exactly where they touch by the definition.
use mathlib.Core.Path.{◌≡◌, refl, sym, ap, ◌∙◌}
use mathlib.Core.Logic.{◌↔◌, ◌⊎◌, inl, inr, dite}
use mathlib.Core.Bool.{Bool, true, false, or-true, true≢false, false≢true}
use mathlib.Core.List.{List, []}
use Prim.Native.Nat.{ℕ, ◌<◌}
use native.Mathlib.Omega.{arith}
use native.Mathlib.Decide.{dec_lt}
use lib.ListN.{length, get_or-eq_default}
use Rattle.text.proofs.Words.{some_below_true, some_below_from}
use Rattle.book.specs.Book.{Program}
use Rattle.engine.specs.Move.{Fired, is_some, writes}
use Rattle.order.specs.Log.{Log}
use Rattle.order.specs.Run.{reads_at, writes_at, touch_at, touch}
use Rattle.order.specs.Orders.{Touch, Writes, Uses}
use Rattle.order.specs.Demand.{moves_of}
use Rattle.order.proofs.Swap.{writes_value}

-- ---- at one location

-- the first move writes location l, and the second reads or writes it
abbrev OneWay : ℕ → Fired → Fired → Type 0
OneWay l e f = (writes_at l e ≡ true) × ((reads_at l f ≡ true) ⊎ (writes_at l f ≡ true))

touch_at_from : (l : ℕ) (e f : Fired) → OneWay l e f ⊎ OneWay l f e → touch_at e f l ≡ true
touch_at_from l e f (inl (w, inl r)) = simp (w, r)
touch_at_from l e f (inl (w, inr v)) = simp (w, v, or-true)
touch_at_from l e f (inr (w, inl r)) = simp (w, r, or-true)
touch_at_from l e f (inr (w, inr v)) = simp (w, v, or-true)

touch_at_to : (l : ℕ) (e f : Fired) → touch_at e f l ≡ true → OneWay l e f ⊎ OneWay l f e
touch_at_to l e f q = go (writes_at l e) (writes_at l f) (reads_at l e) (reads_at l f) refl refl refl refl
  where
    go : (w v r s : Bool) → writes_at l e ≡ w → writes_at l f ≡ v → reads_at l e ≡ r → reads_at l f ≡ s → OneWay l e f ⊎ OneWay l f e
    go true true r s a b c d = inl (a, inr b)
    go true false r true a b c d = inl (a, inl d)
    go true false r false a b c d = absurd (false≢true (simp (a, b, d) at q))
    go false true true s a b c d = inr (b, inl c)
    go false true false s a b c d = absurd (false≢true (simp (a, b, c) at q))
    go false false r s a b c d = absurd (false≢true (simp (a, b) at q))

-- ---- at any location

-- updates write only their own locations
inside : (us : List (List ℕ)) (l : ℕ) → writes us l ≡ true → l < length us
inside us l e = dite (dec_lt l (length us)) (λ h. h)
    (λ (h : ¬ (l < length us)). absurd (true≢false (sym e ∙ ap is_some (get_or-eq_default us [] {n = l} (omega arith)))))

-- the test of refusal 17 passes exactly if two moves whose updates are of n locations touch
pub touch_iff : (B : Program) (g : Log) (n : ℕ) (e f : Fired) → length e.updates ≡ n → length f.updates ≡ n → (touch n e f ≡ true) ↔ Touch (moves_of B g) e f
touch_iff B g n e f le lf = (λ q. let t = some_below_true (touch_at e f) n q in (t.0, to t.0 (touch_at_to t.0 e f t.2)), λ (l, t). from l t)
  where
    uses : (l : ℕ) (a : Fired) → (reads_at l a ≡ true) ⊎ (writes_at l a ≡ true) → Uses (moves_of B g) a l
    uses l a (inl r) = inl r
    uses l a (inr w) = inr ((writes_value a.updates l).0 w)

    used : (l : ℕ) (a : Fired) → Uses (moves_of B g) a l → (reads_at l a ≡ true) ⊎ (writes_at l a ≡ true)
    used l a (inl r) = inl r
    used l a (inr w) = inr ((writes_value a.updates l).1 w)

    to : (l : ℕ) → OneWay l e f ⊎ OneWay l f e → (Writes (moves_of B g) e l × Uses (moves_of B g) f l) ⊎ (Writes (moves_of B g) f l × Uses (moves_of B g) e l)
    to l (inl (w, u)) = inl ((writes_value e.updates l).0 w, uses l f u)
    to l (inr (w, u)) = inr ((writes_value f.updates l).0 w, uses l e u)

    from : (l : ℕ) → (Writes (moves_of B g) e l × Uses (moves_of B g) f l) ⊎ (Writes (moves_of B g) f l × Uses (moves_of B g) e l) → touch n e f ≡ true
    from l (inl (w, u)) =
        let v = (writes_value e.updates l).1 w in
        let h = inside e.updates l v in
        some_below_from (touch_at e f) n l (omega arith) (touch_at_from l e f (inl (v, used l f u)))
    from l (inr (w, u)) =
        let v = (writes_value f.updates l).1 w in
        let h = inside f.updates l v in
        some_below_from (touch_at e f) n l (omega arith) (touch_at_from l e f (inr (v, used l e u)))
