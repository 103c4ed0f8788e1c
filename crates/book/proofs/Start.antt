-- The contents that a run of a lawful book starts from are sound, by check 8 on its contents lines.
use Rattle.std.specs.Prelude.{if◌then◌else◌}
use mathlib.Core.Path.{◌≡◌, refl, sym, ap, subst, ◌∙◌}
use mathlib.Core.Logic.{◌⊎◌, inl, inr, dite, ◌≢◌}
use mathlib.Core.Bool.{Bool, true, false, ◌&&◌, ◌||◌, or-true, and-false, true≢false, false≢true}
use mathlib.Core.List.{List, [], ◌∷◌}
use Prim.Native.Nat.{ℕ, zero, suc, ◌+◌, ◌≤◌, ◌<◌}
use native.Mathlib.Omega.{arith}
use native.Mathlib.Decide.{ℕ_discrete, dec_lt}
use lib.Dec.{eqb, ltb, leb}
use lib.ListN.{length, get_or, set, length-set}
use lib.Seq.{get_or-set_same, get_or-set_other}
use borrow.Author.Tests.{eqb-true, eq-eqb, ne_eqb, ltb-true, leb-true, lt-leb}
use Rattle.text.specs.Words.{table}
use Rattle.text.proofs.Words.{so_true, so_false, length_table_from, getD_table, getD_table_past}
use Rattle.book.specs.declared.Function.{Function}
use Rattle.book.specs.declared.Entry.{Entry}
use Rattle.book.specs.Book.{Program, Book, L, no_entry, true_element, boolean, relation, dynamic, defaults, enter, start, location, entry_location, function_at, entry_at, place, relation_at, dynamic_at, default_at}
use Rattle.book.specs.Sum.{Fitting}
use Rattle.book.specs.Contents.{in_bounds, entry_fits, least_location, rolled, untraced, bad_entry}
use Rattle.book.specs.Sound.{Lawful, at, Argument, OnRoll, Sound}
use Rattle.book.proofs.Places.{Located, located, held_argument, roll_place, roll_location, past_roll, roll_argument, boolean_low, default_low}

-- ---- entry i

-- what check 8 shows of entry i
record InForm (B : Program) (es : List Entry) (i : ℕ) (e : Entry) : Type 0 where
  pub known : e.function < length B.functions
  pub first : e.arg1 < B.E
  pub second : e.arg2 < B.E
  pub small : e.value < B.E
  pub true_only : relation (function_at B e.function) ≡ true → e.value ≡ true_element
  pub permanent : dynamic (function_at B e.function) ≡ false → (e.arg1 < B.P) × (e.arg2 < B.P) × (e.value < B.P)
  pub label : e.function ≡ 0 → B.P ≤ e.arg1
  pub above : least_location B es i ≤ entry_location B e
  pub clear : e.function ≢ 0 → (rolled es e.arg1 i ≡ false) × (rolled es e.arg2 i ≡ false) × (rolled es e.value i ≡ false)

pub in_bounds_is : (B : Program) (e : Entry) → in_bounds B e ≡ true → (e.function < length B.functions) × (e.arg1 < B.E) × (e.arg2 < B.E) × (e.value < B.E)
unfolding in_bounds
in_bounds_is B e h = (
  ltb-true e.function (length B.functions) (so_true (ltb e.function (length B.functions)) (in_bounds B e) h (λ q. simp q)),
  ltb-true e.arg1 B.E (so_true (ltb e.arg1 B.E) (in_bounds B e) h (λ q. simp (q, and-false))),
  ltb-true e.arg2 B.E (so_true (ltb e.arg2 B.E) (in_bounds B e) h (λ q. simp (q, and-false))),
  ltb-true e.value B.E (so_true (ltb e.value B.E) (in_bounds B e) h (λ q. simp (q, and-false))),
)

module _ (P : ℕ) (e : Entry) (f : Function) (h : entry_fits P e f ≡ true) where
  -- an argument that the function has not is 0
  pub entry_fitting : Fitting f.arity e.arg1 e.arg2
  unfolding entry_fits
  entry_fitting = (
    λ l. eqb-true e.arg1 0 (so_true (eqb e.arg1 0) (entry_fits P e f) h (λ q. simp (lt-leb 1 f.arity l, q))),
    λ l. eqb-true e.arg2 0 (so_true (eqb e.arg2 0) (entry_fits P e f) h (λ q. simp (ne_eqb f.arity 2 (λ z. omega arith), q, and-false))),
  )

  true_in_relation : relation f ≡ true → e.value ≡ true_element
  unfolding entry_fits
  true_in_relation r = eqb-true e.value true_element (so_true (eqb e.value true_element) (entry_fits P e f) h (λ q. simp (r, q, and-false)))

  permanent_in_static : dynamic f ≡ false → (e.arg1 < P) × (e.arg2 < P) × (e.value < P)
  unfolding entry_fits
  permanent_in_static d = (
    ltb-true e.arg1 P (so_true (ltb e.arg1 P) (entry_fits P e f) h (λ q. simp (d, q, and-false))),
    ltb-true e.arg2 P (so_true (ltb e.arg2 P) (entry_fits P e f) h (λ q. simp (d, q, and-false))),
    ltb-true e.value P (so_true (ltb e.value P) (entry_fits P e f) h (λ q. simp (d, q, and-false))),
  )

  label_in_reserve : e.function ≡ 0 → P ≤ e.arg1
  unfolding entry_fits
  label_in_reserve z = leb-true P e.arg1 (so_true (leb P e.arg1) (entry_fits P e f) h (λ q. simp (eq-eqb e.function 0 z, q, and-false)))

untraced_is : (es : List Entry) (i : ℕ) → untraced es i ≡ true → (entry_at es i).function ≢ 0
    → (rolled es (entry_at es i).arg1 i ≡ false) × (rolled es (entry_at es i).arg2 i ≡ false) × (rolled es (entry_at es i).value i ≡ false)
unfolding untraced
untraced_is es i h n =
    let e = entry_at es i in
    let z = ne_eqb e.function 0 n in (
      so_false (rolled es e.arg1 i) (untraced es i) h (λ q. simp (z, q)),
      so_false (rolled es e.arg2 i) (untraced es i) h (λ q. simp (z, q, and-false)),
      so_false (rolled es e.value i) (untraced es i) h (λ q. simp (z, q, and-false)),
    )

passed : (B : Program) (es : List Entry) (i : ℕ) → bad_entry B es i ≡ false → InForm B es i (entry_at es i)
unfolding bad_entry
passed B es i h =
    let e = entry_at es i in
    let f = function_at B e.function in
    let bounds = in_bounds_is B e (so_true (in_bounds B e) (bad_entry B es i) h (λ q. simp q)) in
    let form = so_true (entry_fits B.P e f) (bad_entry B es i) h (λ q. simp (q, and-false)) in
    record {
      known = bounds.0;
      first = bounds.1;
      second = bounds.2;
      small = bounds.3;
      true_only = true_in_relation B.P e f form;
      permanent = permanent_in_static B.P e f form;
      label = label_in_reserve B.P e f form;
      above = leb-true (least_location B es i) (entry_location B e) (so_true (leb (least_location B es i) (entry_location B e)) (bad_entry B es i) h (λ q. simp (q, and-false)));
      clear = untraced_is es i (so_true (untraced es i) (bad_entry B es i) h (λ q. simp (q, and-false)));
    }

module _ (b : Book) (ok : Lawful b.program) (right : (i : ℕ) → i < length b.entries → bad_entry b.program b.entries i ≡ false) where
  abbrev B : Program
  B = b.program

  abbrev es : List Entry
  es = b.entries

  -- ---- entry by entry

  -- Contents with the first i entries in: past the last of them all is default, and they say what is on the roll.
  record Entered (i : ℕ) (c : List ℕ) : Type 0 where
    pub sound : Sound B c
    pub rest : (l : ℕ) → least_location B es i ≤ l → l < L B → at c l ≡ default_at B l
    pub roll : (x : ℕ) → OnRoll B c x → rolled es x i ≡ true

  boolean_default : (b : Bool) → b ≡ true → boolean (if b then 1 else 0) ≡ true
  boolean_default true e = refl
  boolean_default false e = absurd (false≢true e)

  none_entered : Entered 0 (defaults B)
  unfolding defaults
  none_entered = record {
    sound = record {
      long = length_table_from (default_at B) 0 (L B);
      small = λ l. omega (arith, low l, ok.low, ok.high);
      booleans = λ l h r. rw (here l h) (boolean_default (relation_at B l) r);
      fixed_values = λ l h e. omega (arith, low l, ok.low);
      fixed_arguments = λ l x h e p a. here l h;
      labels = λ x o. absurd (no x o);
      arguments = λ x l o h n a. absurd (no x o);
      values = λ x l o h. absurd (no x o);
    };
    rest = λ l a h. here l h;
    roll = λ x o. absurd (no x o);
  }
    where
      c : List ℕ
      c = table (default_at B) (L B)

      here : (l : ℕ) → l < L B → at c l ≡ default_at B l
      here l h = getD_table (default_at B) (L B) l 0 h

      low : (l : ℕ) → at c l ≤ 1
      low l = dite (dec_lt l (L B)) (λ h. rw (here l h) (default_low (place B l).function))
          (λ (h : ¬ (l < L B)). rw (getD_table_past (default_at B) (L B) l 0 (omega arith)) (omega arith))

      no : (x : ℕ) → OnRoll B c x → ⊥
      no x o = omega (arith, low x, o.1)

  module _ (i : ℕ) (c : List ℕ) (k : Entered i c) (form : InForm B es i (entry_at es i)) where
    abbrev e : Entry
    e = entry_at es i

    abbrev l : ℕ
    l = entry_location B e

    abbrev v : ℕ
    v = e.value

    abbrev d : List ℕ
    d = set c l v

    s : Located B e.function e.arg1 e.arg2
    s = located B ok e.function e.arg1 e.arg2 form.known form.first form.second

    by_location : (Q : ℕ → Type 0) (j : ℕ) → (j ≡ l → Q v) → (j ≢ l → Q (at c j)) → Q (at d j)
    by_location Q j here_it other = dite (ℕ_discrete j l) (λ q. rw (q, get_or-set_same c l v 0 (omega (arith, s.inside, k.sound.long))) (here_it q))
        (λ n. rw (get_or-set_other c l j v 0 n) (other n))

    -- the arguments of the entry's location are those of the entry
    by_argument : (y j : ℕ) → j ≡ l → Argument B y j → (y ≡ e.arg1) ⊎ (y ≡ e.arg2)
    by_argument y j q a = held_argument B ok e.function e.arg1 e.arg2 y form.known form.first form.second (rw q at a)

    at_roll : e.function ≡ 0 → l ≡ e.arg1
    at_roll q = ap (λ (f : ℕ). location B f e.arg1 e.arg2) q ∙ roll_location B ok e.arg1 e.arg2

    -- a location below E is Reserve's: then the entry is of function 0, and l is its label
    reserved : l < B.E → (e.function ≡ 0) × (l ≡ e.arg1)
    reserved h = go e.function refl
      where
        go : (f : ℕ) → e.function ≡ f → (e.function ≡ 0) × (l ≡ e.arg1)
        go zero q = (q, at_roll q)
        go (suc f) q = absurd (omega (arith, past_roll B ok e.function e.arg1 e.arg2 (omega arith) form.known))

    two_at_roll : e.function ≡ 0 → v ≡ true_element
    two_at_roll q = form.true_only (rw (q, ok.reserve))

    -- a label on the roll is this entry's, or was on it
    on_roll : (y : ℕ) → OnRoll B d y → ((y ≡ l) × (e.function ≡ 0)) ⊎ OnRoll B c y
    on_roll y (h, q) = by_location (λ w. w ≡ true_element → ((y ≡ l) × (e.function ≡ 0)) ⊎ OnRoll B c y) y
        (λ z w. inl (z, (reserved (rw z at h)).0)) (λ n w. inr (h, w)) q

    label_of : (y : ℕ) → y ≡ l → e.function ≡ 0 → y < B.E → B.P ≤ y
    label_of y z q h = omega (arith, form.label q, (reserved (rw z at h)).1)

    labels : (y : ℕ) → OnRoll B d y → B.P ≤ y
    labels y o = go (on_roll y o)
      where
        go : ((y ≡ l) × (e.function ≡ 0)) ⊎ OnRoll B c y → B.P ≤ y
        go (inl (z, q)) = label_of y z q o.0
        go (inr p) = k.sound.labels y p

    -- where y was on the roll before, the entry's location does not have y as argument
    not_argument : (y j : ℕ) → OnRoll B c y → j ≡ l → j ≢ y → Argument B y j → ⊥
    not_argument y j p q n a = dite (ℕ_discrete e.function 0)
        (λ f. n (roll_argument B ok y j (omega (arith, q, at_roll f, form.first)) a))
        (λ f. past (form.clear f) (by_argument y j q a))
      where
        past : (rolled es e.arg1 i ≡ false) × (rolled es e.arg2 i ≡ false) × (rolled es v i ≡ false) → (y ≡ e.arg1) ⊎ (y ≡ e.arg2) → ⊥
        past u (inl z) = true≢false (sym (k.roll y p) ∙ rw z u.0)
        past u (inr z) = true≢false (sym (k.roll y p) ∙ rw z u.1)

    not_value : (y : ℕ) → OnRoll B c y → v ≢ y
    not_value y p z = dite (ℕ_discrete e.function 0) (λ f. omega (arith, two_at_roll f, k.sound.labels y p, ok.low))
        (λ f. true≢false (sym (k.roll y p) ∙ rw (← z) (form.clear f).2))

    arguments : (y j : ℕ) → OnRoll B d y → j < L B → j ≢ y → Argument B y j → at d j ≡ default_at B j
    arguments y j o h n a = go (on_roll y o)
      where
        go : ((y ≡ l) × (e.function ≡ 0)) ⊎ OnRoll B c y → at d j ≡ default_at B j
        go (inl (z, q)) = by_location (λ w. w ≡ default_at B j) j (λ r. absurd (n (r ∙ sym z))) (λ r. dite (dec_lt j B.E)
            (λ b. absurd (n (roll_argument B ok y j b a)))
            (λ (b : ¬ (j < B.E)). k.rest j (omega (arith, o.0, form.above)) h))
        go (inr p) = by_location (λ w. w ≡ default_at B j) j (λ r. absurd (not_argument y j p r n a)) (λ r. k.sound.arguments y j p h n a)

    -- while all entries so far are Reserve's, no value is a label
    roll_low : (j : ℕ) → j < L B → least_location B es i ≤ B.E → at c j ≤ 2
    roll_low j h b = dite (dec_lt j B.E)
        (λ q. boolean_low (at c j) (k.sound.booleans j h (rw (roll_place B ok j q, ok.reserve))))
        (λ (q : ¬ (j < B.E)). rw (k.rest j (omega arith) h) (omega (arith, default_low (place B j).function)))

    values : (y j : ℕ) → OnRoll B d y → j < L B → at d j ≢ y
    values y j o h = go (on_roll y o)
      where
        go : ((y ≡ l) × (e.function ≡ 0)) ⊎ OnRoll B c y → at d j ≢ y
        go (inl (z, q)) = by_location (λ w. w ≢ y) j (λ r w. omega (arith, two_at_roll q, label_of y z q o.0, ok.low))
            (λ r w. omega (arith, roll_low j h (omega (arith, o.0, form.above)), label_of y z q o.0, ok.low))
        go (inr p) = by_location (λ w. w ≢ y) j (λ r. not_value y p) (λ r. k.sound.values y j p h)

    static_entry : (j : ℕ) → j ≡ l → dynamic_at B j ≡ false → (e.arg1 < B.P) × (e.arg2 < B.P) × (v < B.P)
    static_entry j q f = form.permanent (rw (q, s.where_at) at f)

    permanent_argument : (y : ℕ) → (e.arg1 < B.P) × (e.arg2 < B.P) × (v < B.P) → B.P ≤ y → (y ≡ e.arg1) ⊎ (y ≡ e.arg2) → ⊥
    permanent_argument y t p (inl z) = omega (arith, t.0)
    permanent_argument y t p (inr z) = omega (arith, t.1)

    one_entered : Entered (suc i) d
    unfolding least_location rolled
    one_entered = record {
      sound = record {
        long = length-set c l v ∙ k.sound.long;
        small = λ j. by_location (λ w. w < B.E) j (λ q. form.small) (λ n. k.sound.small j);
        booleans = λ j h r. by_location (λ w. boolean w ≡ true) j (λ q. rw (form.true_only (rw (q, s.where_at) at r))) (λ n. k.sound.booleans j h r);
        fixed_values = λ j h f. by_location (λ w. w < B.P) j (λ q. (static_entry j q f).2) (λ n. k.sound.fixed_values j h f);
        fixed_arguments = λ j y h f p a. by_location (λ w. w ≡ default_at B j) j (λ q. absurd (permanent_argument y (static_entry j q f) p (by_argument y j q a))) (λ n. k.sound.fixed_arguments j y h f p a);
        labels = labels;
        arguments = arguments;
        values = values;
      };
      rest = λ j a h. by_location (λ w. w ≡ default_at B j) j (λ q. absurd (omega arith)) (λ n. k.rest j (omega (arith, form.above)) h);
      roll = λ y o. roll y o (on_roll y o);
    }
      where
        roll : (y : ℕ) → OnRoll B d y → ((y ≡ l) × (e.function ≡ 0)) ⊎ OnRoll B c y → (rolled es y i || eqb e.function 0 && eqb e.arg1 y) ≡ true
        roll y o (inr p) = rw (k.roll y p)
        roll y o (inl (z, q)) = rw (eq-eqb e.function 0 q, eq-eqb e.arg1 y (sym (z ∙ (reserved (rw z at o.0)).1))) (or-true (rolled es y i))

  -- ---- all entries

  -- the contents after all entries are sound; xs are the entries from i on
  all_entered : (xs : List Entry) (i : ℕ) (c : List ℕ) → i + length xs ≡ length es → ((j : ℕ) → get_or xs j no_entry ≡ entry_at es (i + j))
      → Entered i c → Sound B (enter B xs c)
  unfolding enter
  all_entered [] i c h g k = k.sound
  all_entered (e ∷ xs) i c h g k =
      let z : i + 0 ≡ i = omega arith in
      let q : e ≡ entry_at es i = g 0 ∙ ap (λ (j : ℕ). entry_at es j) z in
      all_entered xs (suc i) (set c (entry_location B e) e.value) (omega arith) (λ j. g (suc j) ∙ ap (λ (n : ℕ). entry_at es n) (step j))
      (subst (λ (x : Entry). Entered (suc i) (set c (entry_location B x) x.value)) (sym q) (one_entered i c k (passed B es i (right i (omega arith)))))
    where
      step : (j : ℕ) → i + suc j ≡ suc i + j
      step j = omega arith

  pub start_sound : Sound B (start b)
  unfolding start
  start_sound = all_entered es 0 (defaults B) (omega arith) (λ j. ap (λ (n : ℕ). entry_at es n) (step j)) none_entered
    where
      step : (j : ℕ) → j ≡ 0 + j
      step j = omega arith
