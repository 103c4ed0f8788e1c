-- Where a move can clash: two releases never clash, so only a location that an update names can.
use mathlib.Core.Path.{◌≡◌, refl, sym, ◌∙◌}
use mathlib.Core.Logic.{◌⊎◌, inl, inr, ◌≢◌}
use mathlib.Core.Bool.{Bool, true, false, not, or-true, false≢true}
use mathlib.Core.List.{List, [], ◌∷◌}
use Prim.Native.Nat.{ℕ, ◌≤◌, ◌<◌}
use native.Mathlib.Omega.{arith}
use lib.Dec.{eqb}
use borrow.Author.Tests.{eqb-true, eqb-false, eq-eqb}
use Rattle.text.specs.Words.{has}
use Rattle.text.proofs.Words.{and_cases, or_cases}
use Rattle.book.specs.Book.{Program, L, arguments_at, concerns}
use Rattle.book.specs.Sound.{Lawful, at, Argument, Sound}
use Rattle.book.proofs.Places.{roll_place, roll_inside, roll_argument, boolean_low}
use Rattle.engine.specs.declared.Instruction.{Instruction}
use Rattle.engine.specs.declared.Instruction.TheVariants.{Update, Release}
use Rattle.engine.specs.Rule.{Walk}
use Rattle.engine.specs.Move.{values, updates, values_at, other, two_values, sets_label, set_to_label, clashes}
use Rattle.engine.proofs.Values.{Sets, Cleared, Origin, origin, updates_at}
use Rattle.engine.proofs.Walks.{Made, releases_fine}

-- ---- two releases give a location the same

module _ (B : Program) (ok : Lawful B) (c : List ℕ) (s : Sound B c) where
  -- a release of another label does not clear Reserve at x
  not_own : (x y l : ℕ) → x < B.E → B.P ≤ y → x ≡ l → y ≢ l → concerns B l (at c l) y ≡ true → ⊥
  not_own x y l hx hy e n k = go (or_cases (has (arguments_at B l) y) (eqb (at c l) y) k)
    where
      low : at c l ≤ 2
      low = boolean_low (at c l) (s.booleans l (omega (arith, roll_inside B ok)) (rw (roll_place B ok l (omega arith), ok.reserve)))

      go : Argument B y l ⊎ (eqb (at c l) y ≡ true) → ⊥
      go (inl a) = n (sym (roll_argument B ok y l (omega arith) a))
      go (inr a) = omega (arith, eqb-true (at c l) y a, low, ok.low)

  pub releases_agree : (x y l v w : ℕ) → (B.P ≤ x) × (x < B.E) → (B.P ≤ y) × (y < B.E) → Cleared B c x l v → Cleared B c y l w → v ≡ w
  releases_agree x y l v w hx hy (inl (e, a)) (inl (f, b)) = a ∙ sym b
  releases_agree x y l v w hx hy (inl (e, a)) (inr (n, d, k, b)) = absurd (not_own x y l hx.1 hy.0 e n k)
  releases_agree x y l v w hx hy (inr (n, d, k, a)) (inl (f, b)) = absurd (not_own y x l hy.1 hx.0 f n k)
  releases_agree x y l v w hx hy (inr (n, d, k, a)) (inr (m, e, j, b)) = a ∙ sym b

-- ---- a location that clashes is the own location of an update

other_is : (v : ℕ) (ws : List ℕ) → other v ws ≡ true → (w : ℕ) × (has ws w ≡ true) × (w ≢ v)
unfolding other
other_is v [] e = absurd (false≢true e)
other_is v (x ∷ ws) e = go (or_cases (not (eqb x v)) (other v ws) e) (other_is v ws)
  where
    unequal : (b : Bool) → eqb x v ≡ b → not b ≡ true → x ≢ v
    unequal true q f = absurd (false≢true f)
    unequal false q f = eqb-false x v q

    go : (not (eqb x v) ≡ true) ⊎ (other v ws ≡ true) → (other v ws ≡ true → (w : ℕ) × (has ws w ≡ true) × (w ≢ v))
        → (w : ℕ) × (has (x ∷ ws) w ≡ true) × (w ≢ v)
    go (inl q) r = (x, (rw (eq-eqb x x refl)), unequal (eqb x v) refl q)
    go (inr q) r = let t = r q in (t.0, (rw t.1 (or-true (eqb x t.0))), t.2)

two_are : (ws : List ℕ) → two_values ws ≡ true → (v : ℕ) × (w : ℕ) × (has ws v ≡ true) × (has ws w ≡ true) × (w ≢ v)
unfolding two_values
two_are [] e = absurd (false≢true e)
two_are (v ∷ ws) e = let t = other_is v ws e in (v, t.0, (rw (eq-eqb v v refl)), (rw t.1 (or-true (eqb v t.0))), t.2)

set_is : (xs : List ℕ) (l : ℕ) (is : List Instruction) → set_to_label xs l is ≡ true → (v : ℕ) × Sets l v is
unfolding set_to_label
set_is xs l [] e = absurd (false≢true e)
set_is xs l (i ∷ is) e = go i (or_cases (sets_label xs l i) (set_to_label xs l is) e) (set_is xs l is)
  where
    go : (i : Instruction) → (sets_label xs l i ≡ true) ⊎ (set_to_label xs l is ≡ true) → (set_to_label xs l is ≡ true → (v : ℕ) × Sets l v is)
        → (v : ℕ) × Sets l v (i ∷ is)
    go (Update k v) (inl q) r = (v, inl (eqb-true k l (and_cases (eqb k l) (has xs v) q).0, refl))
    go (Update k v) (inr q) r = let t = r q in (t.0, inr t.1)
    go (Release x) (inl q) r = absurd (false≢true q)
    go (Release x) (inr q) r = r q

pub clash_own : (B : Program) → Lawful B → (c : List ℕ) → Sound B c → (w : Walk) → Made B c w → (l : ℕ) → l < L B
    → clashes w.made (updates B c w.made) l ≡ true → (v : ℕ) × Sets l v w.made
unfolding clashes
clash_own B ok c s w m l h e = go _ (or_cases (two_values (values_at (updates B c w.made) l)) _ e)
  where
    from : (v u : ℕ) → u ≢ v → Origin B c w.made l v → Origin B c w.made l u → (x : ℕ) × Sets l x w.made
    from v u n (inl t) o = (v, t)
    from v u n (inr t) (inl o) = (u, o)
    from v u n (inr (x, f, a)) (inr (y, g, b)) =
        let p = releases_fine B c w.next w.made x m.all f in
        let q = releases_fine B c w.next w.made y m.all g in
        absurd (n (sym (releases_agree B ok c s x y l v u (p.0, p.1) (q.0, q.1) a b)))

    go : (xs : List ℕ) → (two_values (values_at (updates B c w.made) l) ≡ true) ⊎ (set_to_label xs l w.made ≡ true) → (v : ℕ) × Sets l v w.made
    go xs (inl q) =
        let t = two_are (values B c l w.made) (rw (updates_at B c w.made l h) at q) in
        from t.0 t.1 t.4 (origin B c w.made l t.0 t.2) (origin B c w.made l t.1 t.3)
    go xs (inr q) = set_is xs l w.made q
