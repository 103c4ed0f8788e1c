-- The search for a clash: the least of the instructions' own locations that clash is the least location that clashes.
use Rattle.std.specs.Prelude.{Option, None, Some}
use Rattle.std.specs.Prelude.{if◌then◌else◌}
use mathlib.Core.Path.{◌≡◌, refl, sym, ap, ◌∙◌}
use mathlib.Core.Bool.{Bool, true, false, ◌&&◌, ◌||◌, not, or-true}
use mathlib.Core.List.{List, [], ◌∷◌}
use Prim.Native.Nat.{ℕ, ◌<◌, ◌≤◌}
use native.Mathlib.Omega.{arith}
use borrow.Author.Tests.{eqb-true, eqb-false, ltb-true, ltb-false, eq-eqb, ne_eqb, not-false}
use lib.Dec.{eqb, ltb}
use lib.ListN.{length}
use Rattle.text.specs.Words.{has, least}
use Rattle.text.proofs.Words.{refuted, or_no, least_none, least_all, least_here, has_append}
use Rattle.book.specs.Book.{Program, L, default, place}
use Rattle.book.specs.Sum.{Strided}
use Rattle.engine.specs.declared.Instruction.{Instruction}
use Rattle.engine.specs.declared.Instruction.TheVariants.{Update, Release}
use Rattle.engine.specs.Move.{updates, released, other, two_values, sets_label, set_to_label, clashes}
use Rattle.engine.proofs.Values.{length_updates, updates_at}
use Rattle.engine_instruction.specs.Given.{own, gets, any}
use Rattle.engine_clash.specs.LeastClash.{held_place, clears_held, values_given, values_given_by, sets_released, clashes_by, least_with, least_clash}
use Rattle.engine_clash.specs.declared.HeldPlace.{HeldPlace}
use Rattle.engine_instruction.proofs.Laws.{and_none, other_append}
use Rattle.engine_clash.proofs.Laws.{own_value, given_strided}

-- ---- tests

-- a place at fault, below which none is, is the least
pub least_is : (bad : ℕ → Bool) (n m : ℕ) → m < n → bad m ≡ true → ((l : ℕ) → l < m → bad l ≡ false) → Some m ≡ least bad n
least_is bad n m h e none = go (least bad n) refl
  where
    go : (o : Option ℕ) → least bad n ≡ o → Some m ≡ o
    go None q = let z : ◌≡◌ {A = ℕ} 0 1 = cc (sym (least_none bad n q m h) ∙ e) in absurd (omega arith)
    go (Some i) q = ap Some (same (ltb m i) (ltb i m) refl refl)
      where
        same : (a b : Bool) → ltb m i ≡ a → ltb i m ≡ b → m ≡ i
        same true b p r = let z : ◌≡◌ {A = ℕ} 0 1 = cc (sym ((least_here bad n i q).2 m (ltb-true m i p)) ∙ e) in absurd (omega arith)
        same false true p r = let z : ◌≡◌ {A = ℕ} 0 1 = cc (sym (none i (ltb-true i m r)) ∙ (least_here bad n i q).1) in absurd (omega arith)
        same false false p r = omega (arith, ltb-false m i p, ltb-false i m r)

-- ---- at one location

-- an instruction that is about another location gives that of s nothing, or its default
else_given : (s : HeldPlace) (i : Instruction) → (own i ≡ s.location → ⊥) → other (default s.function) (values_given s i) ≡ false
unfolding values_given other
else_given s (Update k v) e = rw (ne_eqb k s.location e)
else_given s (Release x) e = rw (ne_eqb x s.location e) (step (clears_held s x))
  where
    step : (b : Bool) → other (default s.function) (if b then default s.function ∷ [] else []) ≡ false
    step true = rw (eq-eqb (default s.function) (default s.function) refl)
    step false = refl

-- a list whose values are all v has no two different values
all_one : (v : ℕ) (vs : List ℕ) → other v vs ≡ false → two_values vs ≡ false
unfolding other two_values
all_one v [] e = refl
all_one v (w ∷ ws) e =
    let f : w ≡ v = eqb-true w v (not-false (eqb w v) (or_no (not (eqb w v)) (other v ws) e).0) in
    rw f (or_no (not (eqb w v)) (other v ws) e).1

has_other : (v w : ℕ) (xs : List ℕ) → has xs v ≡ true → (w ≡ v → ⊥) → other w xs ≡ true
unfolding other
has_other v w [] h n = cc
has_other v w (y ∷ ys) h n = at (eqb y v) refl h (λ g. has_other v w ys g n)
  where
    at : (b : Bool) → eqb y v ≡ b → b || has ys v ≡ true → (has ys v ≡ true → other w ys ≡ true) → not (eqb y w) || other w ys ≡ true
    at true f g r = rw (ne_eqb y w (λ o. n (sym o ∙ eqb-true y v f)))
    at false f g r = rw (r g) (or-true (not (eqb y w)))

-- where v is one of the values, there are two different values exactly if one is other than v
two_other : (v : ℕ) (vs : List ℕ) → has vs v ≡ true → other v vs ≡ two_values vs
unfolding other two_values
two_other v [] e = cc
two_other v (w ∷ ws) e = step (eqb w v) refl e
  where
    step : (b : Bool) → eqb w v ≡ b → b || has ws v ≡ true → not (eqb w v) || other v ws ≡ other w ws
    step true f h = rw (f, eqb-true w v f)
    step false f h = rw f (sym (has_other v w ws h (eqb-false w v f)))

has_values : (v : ℕ) (s : HeldPlace) (is : List Instruction) → has (values_given_by s is) v ≡ any (λ i. has (values_given s i) v) is
unfolding any values_given_by
has_values v s [] = refl
has_values v s (i ∷ is) =
    has_append (values_given s i) (values_given_by s is) v ∙ ap (λ (b : Bool). has (values_given s i) v || b) (has_values v s is)

sets_any : (xs : List ℕ) (l : ℕ) (is : List Instruction) → set_to_label xs l is ≡ any (λ i. eqb (own i) l && sets_released xs i) is
unfolding any set_to_label
sets_any xs l [] = refl
sets_any xs l (i ∷ is) = rw (sets_any xs l is) (ap (λ (b : Bool). b || any (λ i. eqb (own i) l && sets_released xs i) is) (step i))
  where
    step : (i : Instruction) → sets_label xs l i ≡ eqb (own i) l && sets_released xs i
    step (Update k v) = refl
    step (Release x) = sym (and_none (eqb x l))

-- if no instruction is about the location, all that it is given is its default, or nothing
none_own : (s : HeldPlace) (is : List Instruction) → any (λ i. eqb (own i) s.location) is ≡ false → other (default s.function) (values_given_by s is) ≡ false
unfolding any values_given_by other
none_own s [] h = refl
none_own s (i ∷ is) h =
    let n = or_no (eqb (own i) s.location) (any (λ i. eqb (own i) s.location) is) h in
    other_append (default s.function) (values_given s i) (values_given_by s is)
    ∙ rw (else_given s i (eqb-false (own i) s.location n.0), none_own s is n.1)

-- ---- all instructions

module _ (all : List Instruction) where
  -- i is one of all the instructions
  abbrev pub Member : Instruction → Type 0
  Member i = (t : Instruction → Bool) → t i ≡ true → any t all ≡ true

  -- these instructions are some of all
  abbrev pub Within : List Instruction → Type 0
  Within is = (t : Instruction → Bool) → any t is ≡ true → any t all ≡ true

  pub first_in : (i : Instruction) (is : List Instruction) → Within (i ∷ is) → Member i
  unfolding any
  first_in i is h t e = h t (rw e)

  pub rest_in : (i : Instruction) (is : List Instruction) → Within (i ∷ is) → Within is
  unfolding any
  rest_in i is h t e = h t (rw e (or-true (t i)))

  pub find : (q r : Instruction → Bool) (is : List Instruction) → Within is → any q is ≡ true → ((i : Instruction) → Member i → q i ≡ true → r i ≡ true) → any r is ≡ true
  unfolding any
  find q r [] h e f = cc
  find q r (i ∷ is) h e f = step (q i) refl e (λ g. find q r is (rest_in i is h) g f)
    where
      step : (b : Bool) → q i ≡ b → b || any q is ≡ true → (any q is ≡ true → any r is ≡ true) → r i || any r is ≡ true
      step true g k n = rw (f i (first_in i is h) g)
      step false g k n = rw (n k) (or-true (r i))

module _ (B : Program) (c : List ℕ) (all : List Instruction) where
  -- the values that location l is given
  abbrev given_at : ℕ → List ℕ
  given_at l = values_given_by (held_place B c l) all

  -- an instruction of the list gives its own location its own value
  pub gives_own : (i : Instruction) → Member all i → has (given_at (own i)) (gets i) ≡ true
  gives_own i h =
      has_values (gets i) (held_place B c (own i)) all
      ∙ h (λ j. has (values_given (held_place B c (own i)) j) (gets i)) (rw (own_value (held_place B c (own i)) i refl, eq-eqb (gets i) (gets i) refl))

  -- location l clashes
  abbrev Bad : ℕ → Bool
  Bad l = two_values (given_at l) || set_to_label (released all) l all

  -- an instruction that clashes by its own value is a clash at its own location
  clashes_clash : (i : Instruction) → Member all i → clashes_by B c all i ≡ true → Bad (own i) ≡ true
  clashes_clash i h e =
      rw (← (two_other (gets i) (given_at (own i)) (gives_own i h)))
      (step (other (gets i) (given_at (own i))) (sets_released (released all) i) refl e)
    where
      step : (a b : Bool) → sets_released (released all) i ≡ b → a || b ≡ true → a || set_to_label (released all) (own i) all ≡ true
      step true b f g = refl
      step false true f g =
          sets_any (released all) (own i) all
          ∙ h (λ j. eqb (own j) (own i) && sets_released (released all) j) (rw (eq-eqb (own i) (own i) refl, f))
      step false false f g = cc

  -- the instruction i is about l and clashes by its own value
  abbrev pub bad_one : ℕ → Instruction → Bool
  bad_one l i = eqb (own i) l && clashes_by B c all i

  -- a clash at location l is one by some instruction that is about l
  clash_clashes : (l : ℕ) → Bad l ≡ true → any (bad_one l) all ≡ true
  clash_clashes l e = step (two_values (given_at l)) refl e
    where
      about : (b : Bool) → any (λ i. eqb (own i) l) all ≡ b → two_values (given_at l) ≡ true → b ≡ true
      about true f g = refl
      about false f g = sym (all_one (default (place B l).function) (given_at l) (none_own (held_place B c l) all f)) ∙ g

      step : (b : Bool) → two_values (given_at l) ≡ b → b || set_to_label (released all) l all ≡ true → any (bad_one l) all ≡ true
      step true f g =
          find all (λ i. eqb (own i) l) (bad_one l) all (λ t h. h)
          (about (any (λ i. eqb (own i) l) all) refl f)
          (λ i h k.
          let o : own i ≡ l = eqb-true (own i) l k in
          rw (eq-eqb (own i) l o, two_other (gets i) (given_at (own i)) (gives_own i h), o, f))
      step false f g =
          find all (λ i. eqb (own i) l && sets_released (released all) i) (bad_one l) all (λ t h. h)
          (sym (sets_any (released all) l all) ∙ g)
          (λ i h k. either (eqb (own i) l) (sets_released (released all) i) (other (gets i) (given_at (own i))) k)
        where
          either : (a b d : Bool) → a && b ≡ true → a && (d || b) ≡ true
          either true b d k = rw k (or-true d)
          either false b d k = cc

  -- ---- the least of the own locations that clash

  better_le : (i : Instruction) (b : ℕ) → least_with B c all i b ≤ b
  better_le i b = step (ltb (own i) b) (clashes_by B c all i) refl
    where
      step : (t u : Bool) → ltb (own i) b ≡ t → (if t && u then own i else b) ≤ b
      step true true e = omega (arith, ltb-true)
      step true false e = omega arith
      step false u e = omega arith

  pub best_le : (is : List Instruction) (b : ℕ) → least_clash B c all is b ≤ b
  unfolding least_clash
  best_le [] b = omega arith
  best_le (i ∷ is) b = omega (arith, best_le is (least_with B c all i b), better_le i b)

  better_here : (i : Instruction) (b l : ℕ) → bad_one l i ≡ true → least_with B c all i b ≤ l
  better_here i b l e = step (eqb (own i) l) (ltb (own i) b) (clashes_by B c all i) refl refl e
    where
      step : (s t u : Bool) → eqb (own i) l ≡ s → ltb (own i) b ≡ t → s && u ≡ true → (if t && u then own i else b) ≤ l
      step true true true f g h = omega (arith, eqb-true)
      step true false true f g h = omega (arith, eqb-true, ltb-false)
      step true t false f g h = let z : ◌≡◌ {A = ℕ} 0 1 = cc in absurd (omega arith)
      step false t u f g h = let z : ◌≡◌ {A = ℕ} 0 1 = cc in absurd (omega arith)

  pub best_here : (is : List Instruction) (b l : ℕ) → any (bad_one l) is ≡ true → least_clash B c all is b ≤ l
  unfolding least_clash any
  best_here [] b l e = let z : ◌≡◌ {A = ℕ} 0 1 = cc in absurd (omega arith)
  best_here (i ∷ is) b l e = step (bad_one l i) refl e (λ g. best_here is (least_with B c all i b) l g)
    where
      step : (t : Bool) → bad_one l i ≡ t → t || any (bad_one l) is ≡ true
          → (any (bad_one l) is ≡ true → least_clash B c all is (least_with B c all i b) ≤ l)
          → least_clash B c all is (least_with B c all i b) ≤ l
      step true f g r = omega (arith, best_le is (least_with B c all i b), better_here i b l f)
      step false f g r = r g

  -- if a result below n clashes before one step of the search, so does one after it
  better_clashes : (i : Instruction) → Member all i → (b n : ℕ) → (b < n → Bad b ≡ true) → least_with B c all i b < n → Bad (least_with B c all i b) ≡ true
  better_clashes i h b n old = step (ltb (own i) b) (clashes_by B c all i) refl
    where
      step : (t u : Bool) → clashes_by B c all i ≡ u → (if t && u then own i else b) < n → Bad (if t && u then own i else b) ≡ true
      step true true e k = clashes_clash i h e
      step true false e k = old k
      step false u e k = old k

  best_clashes : (is : List Instruction) → Within all is → (b n : ℕ) → (b < n → Bad b ≡ true) → least_clash B c all is b < n → Bad (least_clash B c all is b) ≡ true
  unfolding least_clash
  best_clashes [] h b n old k = old k
  best_clashes (i ∷ is) h b n old k =
      best_clashes is (rest_in all i is h) (least_with B c all i b) n (better_clashes i (first_in all i is h) b n old) k

  -- a result below the start of the search is the own location of some instruction that clashes
  pub least_clash_by : (b : ℕ) → least_clash B c all all b < b → any (bad_one (least_clash B c all all b)) all ≡ true
  least_clash_by b h = clash_clashes (least_clash B c all all b) (best_clashes all (λ t k. k) b b (λ k. absurd (omega arith)) h)

  -- the search begins from a number k that is no location, in a program with the strides of its arities
  module _ (k : ℕ) (k_high : L B ≤ k) (ok : Strided B) where
    clashes_at : (l : ℕ) → l < L B → clashes all (updates B c all) l ≡ Bad l
    unfolding clashes
    clashes_at l h = rw (updates_at B c all l h, given_strided B ok c l all)

    abbrev found : ℕ
    found = least_clash B c all all k

    -- a result below L is the least location that clashes
    pub best_least : found < L B → Some found ≡ least (clashes all (updates B c all)) (length (updates B c all))
    best_least h =
        rw (length_updates B c all)
        (least_is (clashes all (updates B c all)) (L B) found h
        (clashes_at found h ∙ best_clashes all (λ t e. e) k k (λ e. absurd (omega arith)) (omega arith))
        (λ l e. clashes_at l (omega arith) ∙ refuted (Bad l) (λ b. omega (arith, best_here all k l (clash_clashes l b)))))

    -- if the result is not below L, no location clashes
    pub best_none : L B ≤ found → None ≡ least (clashes all (updates B c all)) (length (updates B c all))
    best_none h =
        rw (length_updates B c all)
        (sym (least_all (clashes all (updates B c all)) (L B)
        (λ l e. clashes_at l e ∙ refuted (Bad l) (λ b. omega (arith, best_here all k l (clash_clashes l b))))))
