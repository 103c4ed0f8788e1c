-- A lent contents table that passes check 8 is sound.
use Rattle.std.specs.Prelude.{None}
use mathlib.Core.Path.{◌≡◌, refl, sym, ◌∙◌}
use mathlib.Core.Logic.{◌⊎◌, inl, inr, dite}
use mathlib.Core.Bool.{Bool, true, false, or-true, and-false, true≢false, false≢true}
use mathlib.Core.List.{List, [], ◌∷◌}
use Prim.Native.Nat.{ℕ, ◌≤◌, ◌<◌}
use native.Mathlib.Omega.{arith}
use native.Mathlib.Decide.{dec_lt}
use lib.Dec.{eqb, ltb, leb}
use lib.ListN.{length, get_or-eq_default}
use borrow.Author.Tests.{eqb-true, eq-eqb, ltb-true, leb-true, lt-ltb, le-ltb}
use Rattle.text.specs.Words.{has, least}
use Rattle.text.proofs.Words.{and_cases, or_cases, or_no, so_true, so_false, least_none}
use Rattle.book.specs.Book.{Program, L, true_element, boolean, place, relation_at, dynamic_at, default_at, arguments_at}
use Rattle.book.specs.Contents.{on_roll, some_on_roll, all_permanent, bad_value}
use Rattle.book.specs.Sound.{Lawful, at, Argument, OnRoll, Sound}
use Rattle.book.proofs.Places.{roll_place, roll_inside, roll_argument, boolean_low, default_low}

all_permanent_is : (P : ℕ) (xs : List ℕ) (x : ℕ) → all_permanent P xs ≡ true → has xs x ≡ true → x < P
unfolding all_permanent
all_permanent_is P [] x e h = absurd (false≢true h)
all_permanent_is P (y ∷ ys) x e h = go (or_cases (eqb y x) (has ys x) h) (all_permanent_is P ys x (and_cases (ltb y P) (all_permanent P ys) e).1)
  where
    go : (eqb y x ≡ true) ⊎ (has ys x ≡ true) → (has ys x ≡ true → x < P) → x < P
    go (inl q) r = omega (arith, eqb-true y x q, ltb-true y P (and_cases (ltb y P) (all_permanent P ys) e).0)
    go (inr q) r = r q

some_on_roll_is : (B : Program) (c xs : List ℕ) (x : ℕ) → some_on_roll B c xs ≡ false → has xs x ≡ true → on_roll B c x ≡ false
unfolding some_on_roll
some_on_roll_is B c [] x e h = absurd (false≢true h)
some_on_roll_is B c (y ∷ ys) x e h = go (or_cases (eqb y x) (has ys x) h) (some_on_roll_is B c ys x (or_no (on_roll B c y) (some_on_roll B c ys) e).1)
  where
    go : (eqb y x ≡ true) ⊎ (has ys x ≡ true) → (has ys x ≡ true → on_roll B c x ≡ false) → on_roll B c x ≡ false
    go (inl q) r = rw (← eqb-true y x q) (or_no (on_roll B c y) (some_on_roll B c ys) e).0
    go (inr q) r = r q

module _ (B : Program) (ok : Lawful B) (c : List ℕ) where
  rolled : (x : ℕ) → OnRoll B c x → on_roll B c x ≡ true
  rolled x (h, e) = rw (lt-ltb x B.E h, eq-eqb (at c x) true_element e)

  -- ---- what check 8 shows of a location

  record Cell (l : ℕ) : Type 0 where
    pub small : at c l < B.E
    pub booleans : relation_at B l ≡ true → boolean (at c l) ≡ true
    pub fixed : dynamic_at B l ≡ false → (at c l ≡ default_at B l) ⊎ ((all_permanent B.P (arguments_at B l) ≡ true) × (at c l < B.P))
    pub own : l < B.E → at c l ≡ true_element → B.P ≤ l
    pub holds : B.E ≤ l → on_roll B c (at c l) ≡ false
    pub traces : B.E ≤ l → (at c l ≡ default_at B l) ⊎ (some_on_roll B c (arguments_at B l) ≡ false)

  cell : (l : ℕ) → bad_value B c l ≡ false → Cell l
  unfolding bad_value
  cell l h = record {
    small = ltb-true v B.E (so_true (ltb v B.E) bad h (λ q. simp q));
    booleans = λ r. so_true (boolean v) bad h (λ q. simp (r, q, and-false));
    fixed = λ d. fixed d (eqb v e) refl;
    own = λ b r. leb-true B.P l (so_true (leb B.P l) bad h (λ q. simp (lt-ltb l B.E b, eq-eqb v true_element r, q, and-false)));
    holds = λ b. so_false (on_roll B c v) bad h (λ q. simp (le-ltb l B.E b, q, and-false));
    traces = λ b. traces b (eqb v e) refl;
  }
    where
      v : ℕ
      v = at c l

      e : ℕ
      e = default_at B l

      bad : Bool
      bad = bad_value B c l

      fixed : dynamic_at B l ≡ false → (w : Bool) → eqb v e ≡ w → (v ≡ e) ⊎ ((all_permanent B.P (arguments_at B l) ≡ true) × (v < B.P))
      fixed d true w = inl (eqb-true v e w)
      fixed d false w =
          inr (
            so_true (all_permanent B.P (arguments_at B l)) bad h (λ q. simp (d, w, q, and-false)),
            ltb-true v B.P (so_true (ltb v B.P) bad h (λ q. simp (d, w, q, and-false))),
          )

      traces : B.E ≤ l → (w : Bool) → eqb v e ≡ w → (v ≡ e) ⊎ (some_on_roll B c (arguments_at B l) ≡ false)
      traces b true w = inl (eqb-true v e w)
      traces b false w = inr (so_false (some_on_roll B c (arguments_at B l)) bad h (λ q. simp (le-ltb l B.E b, w, q, or-true, and-false)))

  default_small : (l : ℕ) → at c l ≡ default_at B l → at c l < B.P
  default_small l e = omega (arith, ok.low, default_low (place B l).function)

  module _ (long : length c ≡ L B) (good : least (bad_value B c) (L B) ≡ None) where
    here : (l : ℕ) → l < L B → Cell l
    here l h = cell l (least_none (bad_value B c) (L B) good l h)

    roll_here : (x : ℕ) → OnRoll B c x → B.P ≤ x
    roll_here x o = (here x (omega (arith, o.0, roll_inside B ok))).own o.0 o.1

    pub table_sound : Sound B c
    table_sound = record {
      long = long;
      small = λ l. dite (dec_lt l (L B)) (λ h. (here l h).small) (λ (h : ¬ (l < L B)). rw (get_or-eq_default c 0 {n = l} (omega arith)) (omega (arith, ok.low, ok.high)));
      booleans = λ l h r. (here l h).booleans r;
      fixed_values = λ l h d. fixed_values l ((here l h).fixed d);
      fixed_arguments = λ l x h d p a. fixed_arguments l x p a ((here l h).fixed d);
      labels = roll_here;
      arguments = λ x l o h n a. dite (dec_lt l B.E) (λ b. absurd (n (roll_argument B ok x l b a)))
          (λ (b : ¬ (l < B.E)). arguments l x o a ((here l h).traces (omega arith)));
      values = λ x l o h e. dite (dec_lt l B.E)
          (λ b. omega (arith, boolean_low (at c l) ((here l h).booleans (rw (roll_place B ok l b, ok.reserve))), roll_here x o, ok.low))
          (λ (b : ¬ (l < B.E)). true≢false (sym (rolled x o) ∙ rw (← e) ((here l h).holds (omega arith))));
    }
      where
        fixed_values : (l : ℕ) → (at c l ≡ default_at B l) ⊎ ((all_permanent B.P (arguments_at B l) ≡ true) × (at c l < B.P)) → at c l < B.P
        fixed_values l (inl e) = default_small l e
        fixed_values l (inr t) = t.1

        fixed_arguments : (l x : ℕ) → B.P ≤ x → Argument B x l → (at c l ≡ default_at B l) ⊎ ((all_permanent B.P (arguments_at B l) ≡ true) × (at c l < B.P)) → at c l ≡ default_at B l
        fixed_arguments l x p a (inl e) = e
        fixed_arguments l x p a (inr t) = absurd (omega (arith, all_permanent_is B.P (arguments_at B l) x t.0 a))

        arguments : (l x : ℕ) → OnRoll B c x → Argument B x l → (at c l ≡ default_at B l) ⊎ (some_on_roll B c (arguments_at B l) ≡ false) → at c l ≡ default_at B l
        arguments l x o a (inl e) = e
        arguments l x o a (inr t) = absurd (true≢false (sym (rolled x o) ∙ some_on_roll_is B c (arguments_at B l) x t a))
