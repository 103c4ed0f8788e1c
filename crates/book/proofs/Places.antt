-- Laws of locations: each function's locations are one part of the table, a location says its function and arguments, and the first E are Reserve's.
use Rattle.std.specs.Prelude.{if◌then◌else◌}
use mathlib.Core.Path.{◌≡◌, refl, sym, ◌∙◌}
use mathlib.Core.Logic.{◌⊎◌, inl, inr}
use mathlib.Core.Bool.{Bool, true, false, ◌||◌, false≢true, or-false}
use mathlib.Core.List.{List, [], ◌∷◌}
use Prim.Native.Nat.{ℕ, zero, suc, ◌+◌, ◌-◌, ◌*◌, ◌/◌, ◌%◌, ◌≤◌, ◌<◌}
use native.Mathlib.Nat.{zero-add, mul-add-div_right, mul-add-mod_self_right, div-eq_of_lt, mod-eq_of_lt, mul-le-mul_right, suc-mul}
use native.Mathlib.Omega.{arith}
use lib.Dec.{eqb}
use lib.ListN.{length, get_or}
use borrow.Author.Tests.{eqb-true, eq-eqb, lt-ltb, le-ltb}
use Rattle.text.specs.Words.{has}
use Rattle.text.proofs.Words.{or_cases}
use Rattle.book.specs.declared.Function.{Function}
use Rattle.book.specs.Book.{Program, no_function, boolean, relation, default, size, total, L, offset, arguments, location, function_at, place_in, place}
use Rattle.book.specs.Sound.{Laid, Lawful, Argument}

-- the place of location i of function f, the functions being laid out from n on
place_laid : (E n : ℕ) (gs : List Function) → Laid E n gs → (f i : ℕ) → f < length gs → i < size E (get_or gs f no_function).arity
    → (place_in E gs ((get_or gs f no_function).first + i - n) ≡ record { function = get_or gs f no_function; index = i })
    × (n ≤ (get_or gs f no_function).first) × ((get_or gs f no_function).first + i < n + total E gs)
unfolding place_in total
place_laid E n [] d f i h k = absurd (omega arith)
place_laid E n (g ∷ gs) d zero i h k =
    let e : g.first + i - n ≡ i = omega (arith, d.0) in
    (rw (e, lt-ltb i (size E g.arity) k), omega (arith, d.0), omega (arith, d.0))
place_laid E n (g ∷ gs) d (suc f) i h k =
    let r = place_laid E (n + size E g.arity) gs d.1 f i (omega arith) k in
    let l : ℕ = (get_or gs f no_function).first + i in
    let e : l - n - size E g.arity ≡ l - (n + size E g.arity) = omega arith in
    (rw (le-ltb (l - n) (size E g.arity) (omega (arith, r.1)), e) r.0, omega (arith, r.1), omega (arith, r.2))

-- the first location of each function is not below that of the first function
pub past_laid : (E n : ℕ) (gs : List Function) → Laid E n gs → (f : ℕ) → f < length gs → n ≤ (get_or gs f no_function).first
past_laid E n [] d f h = absurd (omega arith)
past_laid E n (g ∷ gs) d zero h = omega (arith, d.0)
past_laid E n (g ∷ gs) d (suc f) h = omega (arith, past_laid E (n + size E g.arity) gs d.1 f (omega arith))

-- ---- arguments

square : (E x y : ℕ) → x < E → y < E → x * E + y < E * E
square E x y h k = omega (arith, mul-le-mul_right E h, suc-mul x E)

pub offset_fits : (E arity x y : ℕ) → x < E → y < E → offset E arity x y < size E arity
offset_fits E arity x y h k = go (eqb arity 0) (eqb arity 1)
  where
    go : (a b : Bool) → (if a then 0 else if b then x else x * E + y) < (if a then 1 else if b then E else E * E)
    go true b = omega arith
    go false true = h
    go false false = square E x y h k

-- the arguments of a location are those that it was made of
argument_of : (E arity x y z : ℕ) → y < E → has (arguments E arity (offset E arity x y)) z ≡ true → (z ≡ x) ⊎ (z ≡ y)
argument_of E arity x y z k e = go (eqb arity 0) (eqb arity 1) e
  where
    one : (a : ℕ) → a ≡ x → (eqb a z || false) ≡ true → z ≡ x
    one a p e = go (or_cases (eqb a z) false e)
      where
        go : (eqb a z ≡ true) ⊎ (false ≡ true) → z ≡ x
        go (inl q) = sym (eqb-true a z q) ∙ p
        go (inr q) = absurd (false≢true q)

    two : (a b : ℕ) → a ≡ x → b ≡ y → (eqb a z || (eqb b z || false)) ≡ true → (z ≡ x) ⊎ (z ≡ y)
    two a b p q e = go (or_cases (eqb a z) (eqb b z || false) e)
      where
        go : (eqb a z ≡ true) ⊎ ((eqb b z || false) ≡ true) → (z ≡ x) ⊎ (z ≡ y)
        go (inl r) = inl (sym (eqb-true a z r) ∙ p)
        go (inr r) = inr (sym (eqb-true b z (rw or-false at r)) ∙ q)

    go : (a b : Bool)
        → has (if a then [] else if b then (if a then 0 else if b then x else x * E + y) ∷ [] else ((if a then 0 else if b then x else x * E + y) / E) ∷ ((if a then 0 else if b then x else x * E + y) % E) ∷ []) z ≡ true
        → (z ≡ x) ⊎ (z ≡ y)
    go true b e = absurd (false≢true e)
    go false true e = inl (one x refl e)
    go false false e =
        two ((x * E + y) / E) ((x * E + y) % E) (mul-add-div_right {m = E} (omega arith) x y ∙ rw (div-eq_of_lt k) (omega arith))
        (mul-add-mod_self_right x E y ∙ mod-eq_of_lt k) e

-- ---- the locations of a book

-- what is known of function f's location at x and y
pub record Located (B : Program) (f x y : ℕ) : Type 0 where
  pub where_at : place B (location B f x y) ≡ record { function = function_at B f; index = offset B.E (function_at B f).arity x y }
  pub inside : location B f x y < L B

module _ (B : Program) (ok : Lawful B) where
  pub located : (f x y : ℕ) → f < length B.functions → x < B.E → y < B.E → Located B f x y
  located f x y h a b =
      let r = place_laid B.E 0 B.functions ok.laid f (offset B.E (function_at B f).arity x y) h (offset_fits B.E (function_at B f).arity x y a b) in
      let e : location B f x y - 0 ≡ location B f x y = omega arith in
      record { where_at = rw e at r.0; inside = omega (arith, r.2) }

  -- the arguments of function f's location at x and y are x and y
  pub held_argument : (f x y z : ℕ) → f < length B.functions → x < B.E → y < B.E → Argument B z (location B f x y) → (z ≡ x) ⊎ (z ≡ y)
  held_argument f x y z h a b e = argument_of B.E (function_at B f).arity x y z b (rw (located f x y h a b).where_at at e)

  pub held_first : (f x : ℕ) → f < length B.functions → x < B.E → (function_at B f).arity ≡ 1 → Argument B x (location B f x 0)
  held_first f x h a e = rw ((located f x 0 h a (omega arith)).where_at, e, eq-eqb x x refl)

  -- ---- Reserve's locations are the first E, and all others come after them

  pub roll_location : (x y : ℕ) → location B 0 x y ≡ x
  roll_location x y = rw ok.reserve (zero-add x)

  pub roll_place : (x : ℕ) → x < B.E → place B x ≡ record { function = function_at B 0; index = x }
  roll_place x h =
      let e : offset B.E (function_at B 0).arity x 0 ≡ x = rw ok.reserve in
      rw (roll_location x 0, e) at (located 0 x 0 ok.some h (omega arith)).where_at

  pub roll_inside : B.E ≤ L B
  unfolding total
  roll_inside = go B.functions ok.some ok.reserve
    where
      go : (gs : List Function) → 0 < length gs → get_or gs 0 no_function ≡ record { first = 0; arity = 1; kind = 3; stride = 1 } → B.E ≤ total B.E gs
      go [] h e = absurd (omega arith)
      go (g ∷ gs) h e = let q : size B.E g.arity ≡ B.E = rw e in omega arith

  pub past_roll : (f x y : ℕ) → 0 < f → f < length B.functions → B.E ≤ location B f x y
  past_roll f x y h k = go B.functions ok.laid ok.reserve f h k
    where
      go : (gs : List Function) → Laid B.E 0 gs → get_or gs 0 no_function ≡ record { first = 0; arity = 1; kind = 3; stride = 1 } → (f : ℕ) → 0 < f → f < length gs
          → B.E ≤ (get_or gs f no_function).first + offset B.E (get_or gs f no_function).arity x y
      go [] d e f h k = absurd (omega arith)
      go (g ∷ gs) d e zero h k = absurd (omega arith)
      go (g ∷ gs) d e (suc f) h k =
          let q : size B.E g.arity ≡ B.E = rw e in
          omega (arith, past_laid B.E (0 + size B.E g.arity) gs d.1 f (omega arith))

  pub roll_argument : (x l : ℕ) → l < B.E → Argument B x l → l ≡ x
  roll_argument x l h e = eqb-true l x (rw or-false at (rw (roll_place l h, ok.reserve) at e))

-- ---- values

pub boolean_low : (v : ℕ) → boolean v ≡ true → v ≤ 2
boolean_low v e = go (or_cases (eqb v 1) (eqb v 2) e)
  where
    go : (eqb v 1 ≡ true) ⊎ (eqb v 2 ≡ true) → v ≤ 2
    go (inl q) = omega (arith, eqb-true v 1 q)
    go (inr q) = omega (arith, eqb-true v 2 q)

pub default_low : (f : Function) → default f ≤ 1
default_low f = go (relation f)
  where
    go : (b : Bool) → (if b then 1 else 0) ≤ 1
    go true = omega arith
    go false = omega arith
