-- What instructions give each location, where a value comes from, and what updates leave.
use Rattle.std.specs.Prelude.{if◌then◌else◌}
use mathlib.Core.Path.{◌≡◌, refl, sym, ◌∙◌}
use mathlib.Core.Logic.{◌⊎◌, inl, inr, ◌≢◌}
use mathlib.Core.Bool.{Bool, true, false, not, ◌||◌, ◌&&◌, or-true, false≢true}
use mathlib.Core.List.{List, [], ◌∷◌}
use Prim.Native.Nat.{ℕ, zero, suc, ◌≤◌, ◌<◌}
use native.Mathlib.Omega.{arith}
use lib.Dec.{eqb}
use lib.ListN.{length}
use borrow.Author.Tests.{eqb-true, eqb-false, eq-eqb, ne_eqb, not-false}
use Rattle.text.specs.Words.{has}
use Rattle.text.proofs.Words.{and_cases, or_cases, or_no, length_table_from, getD_table, getD_table_past, has_append}
use Rattle.book.specs.Book.{Program, L, true_element, dynamic_at, default_at, concerns}
use Rattle.book.specs.Sound.{at}
use Rattle.engine.specs.declared.Instruction.{Instruction}
use Rattle.engine.specs.declared.Instruction.TheVariants.{Update, Release}
use Rattle.engine.specs.Move.{given, values, updates, values_at, released, other, two_values, set_to_label, new_value, fire}

-- ---- what instructions say

-- some instruction of the list sets location l to v
abbrev pub Sets : ℕ → ℕ → List Instruction → Type 0
Sets l v [] = ⊥
Sets l v (Update k w ∷ is) = ((k ≡ l) × (w ≡ v)) ⊎ Sets l v is
Sets l v (Release x ∷ is) = Sets l v is

-- some instruction of the list releases x
abbrev pub Releases : ℕ → List Instruction → Type 0
Releases x [] = ⊥
Releases x (Update k w ∷ is) = Releases x is
Releases x (Release y ∷ is) = (y ≡ x) ⊎ Releases x is

pub releases_has : (is : List Instruction) (x : ℕ) → Releases x is → has (released is) x ≡ true
unfolding released
releases_has [] x f = elim f [ ]
releases_has (Update k w ∷ is) x f = releases_has is x f
releases_has (Release y ∷ is) x (inl e) = rw (eq-eqb y x e)
releases_has (Release y ∷ is) x (inr f) = rw (releases_has is x f) (or-true (eqb y x))

pub has_releases : (is : List Instruction) (x : ℕ) → has (released is) x ≡ true → Releases x is
unfolding released
has_releases [] x h = absurd (false≢true h)
has_releases (Update k w ∷ is) x h = has_releases is x h
has_releases (Release y ∷ is) x h = go (or_cases (eqb y x) (has (released is) x) h) (has_releases is x)
  where
    go : (eqb y x ≡ true) ⊎ (has (released is) x ≡ true) → (has (released is) x ≡ true → Releases x is) → Releases x (Release y ∷ is)
    go (inl e) r = inl (eqb-true y x e)
    go (inr e) r = inr (r e)

-- if no update sets l to a label of xs, a value that an update sets l to is none of them
pub set_to_none : (xs : List ℕ) (is : List Instruction) (l v : ℕ) → set_to_label xs l is ≡ false → Sets l v is → has xs v ≡ false
unfolding set_to_label
set_to_none xs [] l v e s = elim s [ ]
set_to_none xs (Update k w ∷ is) l v e (inl (a, b)) = rw (← b) (rw (eq-eqb k l a) at (or_no (eqb k l && has xs w) (set_to_label xs l is) e).0)
set_to_none xs (Update k w ∷ is) l v e (inr s) = set_to_none xs is l v (or_no (eqb k l && has xs w) (set_to_label xs l is) e).1 s
set_to_none xs (Release x ∷ is) l v e s = set_to_none xs is l v e s

-- ---- where a value comes from

module _ (B : Program) (c : List ℕ) where
  -- a release of x gives l the value v: Reserve at x becomes true, and any other dynamic location that concerns x gets its default
  abbrev pub Cleared : ℕ → ℕ → ℕ → Type 0
  Cleared x l v = ((x ≡ l) × (v ≡ true_element)) ⊎ ((x ≢ l) × (dynamic_at B l ≡ true) × (concerns B l (at c l) x ≡ true) × (v ≡ default_at B l))

  abbrev pub Origin : List Instruction → ℕ → ℕ → Type 0
  Origin is l v = Sets l v is ⊎ ((x : ℕ) × Releases x is × Cleared x l v)

  -- ---- each value of an instruction is given

  cleared_given : (x l v : ℕ) → Cleared x l v → has (given B c l (Release x)) v ≡ true
  unfolding given
  cleared_given x l v (inl (e, f)) = rw (eq-eqb x l e, f)
  cleared_given x l v (inr (n, d, e, f)) = rw (ne_eqb x l n, d, e, f, eq-eqb (default_at B l) (default_at B l) refl)

  has_later : (i : Instruction) (is : List Instruction) (l v : ℕ) → has (values B c l is) v ≡ true → has (values B c l (i ∷ is)) v ≡ true
  unfolding values
  has_later i is l v h = rw (has_append (given B c l i) (values B c l is) v, h) (or-true (has (given B c l i) v))

  has_now : (i : Instruction) (is : List Instruction) (l v : ℕ) → has (given B c l i) v ≡ true → has (values B c l (i ∷ is)) v ≡ true
  unfolding values
  has_now i is l v h = rw (has_append (given B c l i) (values B c l is) v, h)

  pub sets_values : (is : List Instruction) (l v : ℕ) → Sets l v is → has (values B c l is) v ≡ true
  unfolding given
  sets_values [] l v s = elim s [ ]
  sets_values (Update k w ∷ is) l v (inl (a, b)) = has_now (Update k w) is l v (rw (eq-eqb k l a, eq-eqb w v b))
  sets_values (Update k w ∷ is) l v (inr s) = has_later (Update k w) is l v (sets_values is l v s)
  sets_values (Release x ∷ is) l v s = has_later (Release x) is l v (sets_values is l v s)

  pub releases_values : (is : List Instruction) (x l v : ℕ) → Releases x is → Cleared x l v → has (values B c l is) v ≡ true
  releases_values [] x l v f h = elim f [ ]
  releases_values (Update k w ∷ is) x l v f h = has_later (Update k w) is l v (releases_values is x l v f h)
  releases_values (Release y ∷ is) x l v (inl q) h = has_now (Release y) is l v (cleared_given y l v (rw q h))
  releases_values (Release y ∷ is) x l v (inr f) h = has_later (Release y) is l v (releases_values is x l v f h)

  -- ---- no other value is given

  given_cleared : (x l v : ℕ) → has (given B c l (Release x)) v ≡ true → Cleared x l v
  unfolding given
  given_cleared x l v h = go (eqb x l) (dynamic_at B l && concerns B l (at c l) x) refl refl h
    where
      one : (w : ℕ) → (eqb w v || false) ≡ true → v ≡ w
      one w e = by (or_cases (eqb w v) false e)
        where
          by : (eqb w v ≡ true) ⊎ (◌≡◌ {A = Bool} false true) → v ≡ w
          by (inl q) = sym (eqb-true w v q)
          by (inr q) = absurd (false≢true q)

      go : (a b : Bool) → eqb x l ≡ a → (dynamic_at B l && concerns B l (at c l) x) ≡ b
          → has (if a then true_element ∷ [] else if b then default_at B l ∷ [] else []) v ≡ true → Cleared x l v
      go true b p q h = inl (eqb-true x l p, one true_element h)
      go false true p q h = let r = and_cases (dynamic_at B l) (concerns B l (at c l) x) q in inr (eqb-false x l p, r.0, r.1, one (default_at B l) h)
      go false false p q h = absurd (false≢true h)

  pub origin : (is : List Instruction) (l v : ℕ) → has (values B c l is) v ≡ true → Origin is l v
  unfolding values given
  origin [] l v h = absurd (false≢true h)
  origin (i ∷ is) l v h = go i (or_cases (has (given B c l i) v) (has (values B c l is) v) (sym (has_append (given B c l i) (values B c l is) v) ∙ h))
      (origin is l v)
    where
      own : (k w : ℕ) (b : Bool) → eqb k l ≡ b → has (if b then w ∷ [] else []) v ≡ true → (k ≡ l) × (w ≡ v)
      own k w true q h = (eqb-true k l q, by (or_cases (eqb w v) false h))
        where
          by : (eqb w v ≡ true) ⊎ (◌≡◌ {A = Bool} false true) → w ≡ v
          by (inl e) = eqb-true w v e
          by (inr e) = absurd (false≢true e)
      own k w false q h = absurd (false≢true h)

      go : (i : Instruction) → (has (given B c l i) v ≡ true) ⊎ (has (values B c l is) v ≡ true) → (has (values B c l is) v ≡ true → Origin is l v)
          → Origin (i ∷ is) l v
      go (Update k w) (inl h) r = inl (inl (own k w (eqb k l) refl h))
      go (Update k w) (inr h) r = on (r h)
        where
          on : Origin is l v → Origin (Update k w ∷ is) l v
          on (inl s) = inl (inr s)
          on (inr s) = inr s
      go (Release x) (inl h) r = inr (x, inl refl, given_cleared x l v h)
      go (Release x) (inr h) r = on (r h)
        where
          on : Origin is l v → Origin (Release x ∷ is) l v
          on (inl s) = inl s
          on (inr (y, f, e)) = inr (y, inr f, e)

  -- ---- the table of updates

  pub length_updates : (is : List Instruction) → length (updates B c is) ≡ L B
  unfolding updates
  length_updates is = length_table_from (λ l. values B c l is) 0 (L B)

  pub updates_at : (is : List Instruction) (l : ℕ) → l < L B → values_at (updates B c is) l ≡ values B c l is
  unfolding updates
  updates_at is l h = getD_table (λ k. values B c k is) (L B) l [] h

  pub updates_past : (is : List Instruction) (l : ℕ) → L B ≤ l → values_at (updates B c is) l ≡ []
  unfolding updates
  updates_past is l h = getD_table_past (λ k. values B c k is) (L B) l [] h

-- ---- values of one location

-- a location is as it was, or has a value that it is given
pub new_cases : (Q : ℕ → Type 0) (v : ℕ) (ws : List ℕ) → (ws ≡ [] → Q v) → ((w : ℕ) → has ws w ≡ true → Q w) → Q (new_value v ws)
new_cases Q v [] old given = old refl
new_cases Q v (w ∷ ws) old given = given w (rw (eq-eqb w w refl))

other_none : (ws : List ℕ) (v w : ℕ) → other v ws ≡ false → has ws w ≡ true → w ≡ v
unfolding other
other_none [] v w e h = absurd (false≢true h)
other_none (x ∷ ws) v w e h = go (or_cases (eqb x w) (has ws w) h) (other_none ws v w)
  where
    go : (eqb x w ≡ true) ⊎ (has ws w ≡ true) → (other v ws ≡ false → has ws w ≡ true → w ≡ v) → w ≡ v
    go (inl q) r = sym (eqb-true x w q) ∙ eqb-true x v (not-false (eqb x v) (or_no (not (eqb x v)) (other v ws) e).0)
    go (inr q) r = r (or_no (not (eqb x v)) (other v ws) e).1 q

-- a location that is not given two values gets each that it is given
pub only_value : (v : ℕ) (ws : List ℕ) (w : ℕ) → two_values ws ≡ false → has ws w ≡ true → new_value v ws ≡ w
unfolding two_values
only_value v [] w e h = absurd (false≢true h)
only_value v (x ∷ ws) w e h = go (or_cases (eqb x w) (has ws w) h)
  where
    go : (eqb x w ≡ true) ⊎ (has ws w ≡ true) → x ≡ w
    go (inl q) = eqb-true x w q
    go (inr q) = sym (other_none ws x w e q)

-- ---- what updates leave: the old values and the new ones, and no others

pub fire_inside : (us : List (List ℕ)) (c : List ℕ) (l : ℕ) → l < length c → at (fire us c) l ≡ new_value (at c l) (values_at us l)
unfolding fire
fire_inside us [] l h = absurd (omega arith)
fire_inside [] (v ∷ c) l h = refl
fire_inside (ws ∷ us) (v ∷ c) zero h = refl
fire_inside (ws ∷ us) (v ∷ c) (suc l) h = fire_inside us c l (omega arith)

pub fire_at : (us : List (List ℕ)) (c : List ℕ) (l : ℕ) → length us ≤ length c → at (fire us c) l ≡ new_value (at c l) (values_at us l)
unfolding fire
fire_at [] [] l h = refl
fire_at (ws ∷ us) [] l h = absurd (omega arith)
fire_at [] (v ∷ c) l h = refl
fire_at (ws ∷ us) (v ∷ c) zero h = refl
fire_at (ws ∷ us) (v ∷ c) (suc l) h = fire_at us c l (omega arith)
