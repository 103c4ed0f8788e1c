-- Laws of what every layer uses: choices by a test, lists made by place, the least place at fault, and checks that pass.
use Rattle.std.specs.Prelude.{Option, None, Some}
use Rattle.std.specs.Prelude.{if◌then◌else◌}
use mathlib.Core.Path.{◌≡◌, refl, sym, ap, ◌∙◌}
use mathlib.Core.Logic.{◌⊎◌, inl, inr, dite}
use mathlib.Core.Bool.{Bool, true, false, not, ◌||◌, ◌&&◌, or_assoc, or-true, true≢false, false≢true}
use mathlib.Core.List.{List, [], ◌∷◌, ◌++◌, map}
use Prim.Native.Nat.{ℕ, zero, suc, ◌+◌, ◌-◌, ◌≤◌, ◌<◌}
use native.Mathlib.Nat.{zero-add, suc-add}
use native.Mathlib.Numerals.{add-one}
use native.Mathlib.Omega.{arith}
use native.Mathlib.Decide.{ℕ_discrete}
use lib.Dec.{eqb}
use lib.ListN.{length, get_or, set, get_or-eq_default}
use lib.Seq.{get_or-set_same, get_or-set_other}
use borrow.Author.Tests.{eqb-true, eqb-false}
use Rattle.text.specs.Words.{has, table_from, table, some_below, least_from, least, Checked, good, refused, ◌>>=◌, ◌>>◌, none_at, must}

-- ---- tests

pub and_cases : (a b : Bool) → (a && b) ≡ true → (a ≡ true) × (b ≡ true)
and_cases true b e = (refl, e)
and_cases false b e = absurd (false≢true e)

pub or_cases : (a b : Bool) → (a || b) ≡ true → (a ≡ true) ⊎ (b ≡ true)
or_cases true b e = inl refl
or_cases false b e = inr e

pub or_no : (a b : Bool) → (a || b) ≡ false → (a ≡ false) × (b ≡ false)
or_no true b e = absurd (true≢false e)
or_no false b e = (refl, e)

not_same : (x : Bool) → x ≡ not x → ⊥
not_same true e = true≢false e
not_same false e = false≢true e

-- t is true, since b would be otherwise if t were false
pub so_true : (t b : Bool) {x : Bool} → b ≡ x → (t ≡ false → b ≡ not x) → t ≡ true
so_true true b e k = refl
so_true false b {x} e k = absurd (not_same x (sym e ∙ k refl))

-- t is false, since b would be otherwise if t were true
pub so_false : (t b : Bool) {x : Bool} → b ≡ x → (t ≡ true → b ≡ not x) → t ≡ false
so_false true b {x} e k = absurd (not_same x (sym e ∙ k refl))
so_false false b e k = refl

-- ---- lists made by place

module _ {A : Type 0} where
  pub length_table_from : (f : ℕ → A) (i n : ℕ) → length (table_from f i n) ≡ n
  unfolding table_from
  length_table_from f i zero = refl
  length_table_from f i (suc n) = ap suc (length_table_from f (suc i) n)

  getD_table_from : (f : ℕ → A) (j n i : ℕ) (d : A) → i < n → get_or (table_from f j n) i d ≡ f (j + i)
  unfolding table_from
  getD_table_from f j zero i d h = absurd (omega arith)
  getD_table_from f j (suc n) zero d h = let e : j + 0 ≡ j = omega arith in rw e
  getD_table_from f j (suc n) (suc i) d h = let e : j + suc i ≡ suc j + i = omega arith in rw e (getD_table_from f (suc j) n i d (omega arith))

  pub getD_table : (f : ℕ → A) (n i : ℕ) (d : A) → i < n → get_or (table f n) i d ≡ f i
  getD_table f n i d h = getD_table_from f 0 n i d h ∙ ap f (zero-add i)

  pub getD_table_past : (f : ℕ → A) (n i : ℕ) (d : A) → n ≤ i → get_or (table f n) i d ≡ d
  getD_table_past f n i d h = get_or-eq_default (table f n) d {n = i} (omega (arith, length_table_from f 0 n))

  table_from_ext : (f g : ℕ → A) (j n : ℕ) → ((i : ℕ) → j ≤ i → i < j + n → f i ≡ g i) → table_from f j n ≡ table_from g j n
  unfolding table_from
  table_from_ext f g j zero e = refl
  table_from_ext f g j (suc n) e = rw (e j (omega arith) (omega arith), table_from_ext f g (suc j) n (λ i a b. e i (omega arith) (omega arith)))

  -- tables of functions that are equal below n
  pub table_ext : (f g : ℕ → A) (n : ℕ) → ((i : ℕ) → i < n → f i ≡ g i) → table f n ≡ table g n
  table_ext f g n e = table_from_ext f g 0 n (λ i a b. e i (omega arith))

module _ {A B : Type 0} (g : A → B) (f : ℕ → A) where
  map_table_from : (i n : ℕ) → map g (table_from f i n) ≡ table_from (λ k. g (f k)) i n
  unfolding table_from
  map_table_from i zero = refl
  map_table_from i (suc n) = ap (◌∷◌ (g (f i))) (map_table_from (suc i) n)

  pub map_table : (n : ℕ) → map g (table f n) ≡ table (λ k. g (f k)) n
  map_table n = map_table_from 0 n

-- ---- some place

pub refuted : (b : Bool) → ¬ (b ≡ true) → b ≡ false
refuted true h = absurd (h refl)
refuted false h = refl

pub some_below_true : (test : ℕ → Bool) (n : ℕ) → some_below test n ≡ true → (i : ℕ) × (i < n) × (test i ≡ true)
unfolding some_below
some_below_true test zero e = absurd (false≢true e)
some_below_true test (suc n) e = go (or_cases (some_below test n) (test n) e) (some_below_true test n)
  where
    go : (some_below test n ≡ true) ⊎ (test n ≡ true) → (some_below test n ≡ true → (i : ℕ) × (i < n) × (test i ≡ true)) → (i : ℕ) × (i < suc n) × (test i ≡ true)
    go (inl q) r = let s = r q in (s.0, omega (arith, s.1), s.2)
    go (inr q) r = (n, omega arith, q)

pub some_below_from : (test : ℕ → Bool) (n i : ℕ) → i < n → test i ≡ true → some_below test n ≡ true
unfolding some_below
some_below_from test zero i h e = absurd (omega arith)
some_below_from test (suc n) i h e =
    dite (ℕ_discrete i n) (λ (q : i ≡ n). rw (← q, e) (or-true (some_below test i)))
    (λ (q : ¬ (i ≡ n)). rw (some_below_from test n i (omega arith) e))

-- ---- the least place at fault

pub least_from_none : (bad : ℕ → Bool) (n j : ℕ) → least_from bad n j ≡ None → (i : ℕ) → j ≤ i → i < j + n → bad i ≡ false
unfolding least_from
least_from_none bad zero j e i a b = absurd (omega arith)
least_from_none bad (suc n) j e i a b = go (bad j) refl e (least_from_none bad n (suc j))
  where
    go : (t : Bool) → bad j ≡ t → (if t then Some j else least_from bad n (suc j)) ≡ None
        → (least_from bad n (suc j) ≡ None → (i : ℕ) → suc j ≤ i → i < suc j + n → bad i ≡ false) → bad i ≡ false
    go true q e r = let z : ◌≡◌ {A = ℕ} 0 1 = cc in absurd (omega arith)
    go false q e r = dite (ℕ_discrete i j) (λ (s : i ≡ j). rw s q) (λ (s : ¬ (i ≡ j)). r e i (omega arith) (omega arith))

pub least_none : (bad : ℕ → Bool) (n : ℕ) → least bad n ≡ None → (i : ℕ) → i < n → bad i ≡ false
least_none bad n e i h = least_from_none bad n 0 e i (omega arith) (omega arith)

pub least_from_all : (bad : ℕ → Bool) (n j : ℕ) → ((i : ℕ) → j ≤ i → i < j + n → bad i ≡ false) → least_from bad n j ≡ None
unfolding least_from
least_from_all bad zero j h = refl
least_from_all bad (suc n) j h = rw (h j (omega arith) (omega arith)) (least_from_all bad n (suc j) (λ i a b. h i (omega arith) (omega arith)))

pub least_from_at : (bad : ℕ → Bool) (n j i : ℕ) → j ≤ i → i < j + n → bad i ≡ true → ((k : ℕ) → j ≤ k → k < i → bad k ≡ false) → least_from bad n j ≡ Some i
unfolding least_from
least_from_at bad zero j i a b e h = absurd (omega arith)
least_from_at bad (suc n) j i a b e h =
    dite (ℕ_discrete j i) (λ (q : j ≡ i). rw (q, e))
    (λ (q : ¬ (j ≡ i)). rw (h j (omega arith) (omega arith)) (least_from_at bad n (suc j) i (omega arith) (omega arith) e (λ k x y. h k (omega arith) y)))

pub least_all : (bad : ℕ → Bool) (n : ℕ) → ((i : ℕ) → i < n → bad i ≡ false) → least bad n ≡ None
least_all bad n h = least_from_all bad n 0 (λ i a b. h i (omega arith))

pub least_from_here : (bad : ℕ → Bool) (n k i : ℕ) → least_from bad n k ≡ Some i → (k ≤ i) × (i < k + n) × (bad i ≡ true) × ((j : ℕ) → k ≤ j → j < i → bad j ≡ false)
unfolding least_from
least_from_here bad zero k i e = let z : ◌≡◌ {A = ℕ} 0 1 = cc in absurd (omega arith)
least_from_here bad (suc n) k i e = go (bad k) refl e (least_from_here bad n (suc k) i)
  where
    go : (t : Bool) → bad k ≡ t → (if t then Some k else least_from bad n (suc k)) ≡ Some i
        → (least_from bad n (suc k) ≡ Some i → (suc k ≤ i) × (i < suc k + n) × (bad i ≡ true) × ((j : ℕ) → suc k ≤ j → j < i → bad j ≡ false))
        → (k ≤ i) × (i < k + suc n) × (bad i ≡ true) × ((j : ℕ) → k ≤ j → j < i → bad j ≡ false)
    go true q e r = let s : k ≡ i = cc in (omega arith, omega arith, rw (← s) q, λ j a b. absurd (omega arith))
    go false q e r =
        let t = r e in (
          omega (arith, t.0),
          omega (arith, t.1),
          t.2,
          λ j a b. dite (ℕ_discrete j k) (λ (s : j ≡ k). rw s q) (λ (s : ¬ (j ≡ k)). t.3 j (omega arith) b),
        )

pub least_here : (bad : ℕ → Bool) (n i : ℕ) → least bad n ≡ Some i → (i < n) × (bad i ≡ true) × ((j : ℕ) → j < i → bad j ≡ false)
least_here bad n i e = let r = least_from_here bad n 0 i e in (omega (arith, r.1), r.2, λ j h. r.3 j (omega arith) h)

pub least_from_same : (f g : ℕ → Bool) (n j : ℕ) → ((i : ℕ) → j ≤ i → i < j + n → f i ≡ g i) → least_from f n j ≡ least_from g n j
unfolding least_from
least_from_same f g zero j h = refl
least_from_same f g (suc n) j h =
    let r : least_from f n (suc j) ≡ least_from g n (suc j) = least_from_same f g n (suc j) (λ i a b. h i (omega arith) (omega arith)) in
    rw (h j (omega arith) (omega arith), r)

-- two tests that agree below n find the same least place
pub least_same : (f g : ℕ → Bool) (n : ℕ) → ((i : ℕ) → i < n → f i ≡ g i) → least f n ≡ least g n
least_same f g n h = least_from_same f g n 0 (λ i a b. h i (omega arith))

-- a place found in the first m places is found in the m + n
pub least_first : (bad : ℕ → Bool) (m n i p : ℕ) → least_from bad m i ≡ Some p → least_from bad (m + n) i ≡ Some p
unfolding least_from
least_first bad zero n i p e = let z : ◌≡◌ {A = ℕ} 0 1 = cc in absurd (omega arith)
least_first bad (suc m) n i p e = rw (suc-add m n) (go (bad i) e (least_first bad m n (suc i) p))
  where
    go :
        (t : Bool) → (if t then Some i else least_from bad m (suc i)) ≡ Some p →
        (least_from bad m (suc i) ≡ Some p → least_from bad (m + n) (suc i) ≡ Some p) →
        (if t then Some i else least_from bad (m + n) (suc i)) ≡ Some p
    go true e r = e
    go false e r = r e

pub least_rest : (bad : ℕ → Bool) (m n i : ℕ) → least_from bad m i ≡ None → least_from bad (m + n) i ≡ least_from bad n (i + m)
unfolding least_from
least_rest bad zero n i e = let a : 0 + n ≡ n = omega arith in let b : i + 0 ≡ i = omega arith in rw (a, b)
least_rest bad (suc m) n i e = rw (suc-add m n) (go (bad i) e (least_rest bad m n (suc i)))
  where
    go :
        (t : Bool) → (if t then Some i else least_from bad m (suc i)) ≡ None →
        (least_from bad m (suc i) ≡ None → least_from bad (m + n) (suc i) ≡ least_from bad n (suc i + m)) →
        (if t then Some i else least_from bad (m + n) (suc i)) ≡ least_from bad n (i + suc m)
    go true e r = let z : ◌≡◌ {A = ℕ} 0 1 = cc in absurd (omega arith)
    go false e r = let q : i + suc m ≡ suc i + m = omega arith in rw q (r e)

-- ---- a loop that searches for the least place at fault, up to n; t is what the search gives

module _ (bad : ℕ → Bool) (n : ℕ) where
  pub least_start : least_from bad (n - 0) 0 ≡ least bad n
  least_start = let e : n - 0 ≡ n = omega arith in rw e

  -- a place that is not at fault is passed over
  pub least_pass : {t : Option ℕ} (i : ℕ) → i < n → bad i ≡ false → least_from bad (n - i) i ≡ t → least_from bad (n - (i + 1)) (i + 1) ≡ t
  unfolding least_from
  least_pass i h b p = let e : n - i ≡ suc (n - suc i) = omega arith in rw (add-one i) (rw (e, b) at p)

  -- the first place that is at fault is the least
  pub least_stop : {t : Option ℕ} (i : ℕ) → i < n → bad i ≡ true → least_from bad (n - i) i ≡ t → Some i ≡ t
  unfolding least_from
  least_stop i h b p = let e : n - i ≡ suc (n - suc i) = omega arith in rw (e, b) at p

  -- if all places were passed over, none is at fault
  pub least_end : {t : Option ℕ} (i : ℕ) → n ≤ i → least_from bad (n - i) i ≡ t → None ≡ t
  unfolding least_from
  least_end i h p = let e : n - i ≡ 0 = omega arith in rw e at p

-- ---- what a check that passes has passed

pub bind_good : {A B : Type 0} (c : Checked A) (f : A → Checked B) (b : B) → (c >>= f) ≡ good b → (a : A) × (c ≡ good a) × (f a ≡ good b)
unfolding ◌>>=◌
bind_good (good a) f b e = (a, refl, e)
bind_good (refused n p q) f b e = let z : ◌≡◌ {A = ℕ} 0 1 = cc in absurd (omega arith)

pub then_good : {A B : Type 0} (c : Checked A) (d : Checked B) (b : B) → (c >> d) ≡ good b → (a : A) × (c ≡ good a) × (d ≡ good b)
unfolding ◌>>◌
then_good (good a) d b e = (a, refl, e)
then_good (refused n p q) d b e = let z : ◌≡◌ {A = ℕ} 0 1 = cc in absurd (omega arith)

pub none_good : (n first q : ℕ) (o : Option ℕ) (u : Unit {0}) → none_at n first q o ≡ good u → o ≡ None
unfolding none_at
none_good n first q None u e = refl
none_good n first q (Some p) u e = let z : ◌≡◌ {A = ℕ} 0 1 = cc in absurd (omega arith)

must_good : (b : Bool) (n p q : ℕ) (u : Unit {0}) → must b n p q ≡ good u → b ≡ true
unfolding must
must_good true n p q u e = refl
must_good false n p q u e = let z : ◌≡◌ {A = ℕ} 0 1 = cc in absurd (omega arith)

-- if a check that begins with a search passes, the search finds nothing and the rest passes
pub found_good : {B : Type 0} (n first q : ℕ) (o : Option ℕ) (d : Checked B) (b : B) → (none_at n first q o >> d) ≡ good b → (o ≡ None) × (d ≡ good b)
found_good n first q o d b e = let r = then_good (none_at n first q o) d b e in (none_good n first q o r.0 r.1, r.2)

-- if a check that begins with a test passes, the test and the rest pass
pub test_good : {B : Type 0} (t : Bool) (n p q : ℕ) (d : Checked B) (b : B) → (must t n p q >> d) ≡ good b → (t ≡ true) × (d ≡ good b)
test_good t n p q d b e = let r = then_good (must t n p q) d b e in (must_good t n p q r.0 r.1, r.2)

-- a check gives one value only
pub good_same : {A : Type 0} (x y : A) → good x ≡ good y → x ≡ y
good_same x y e = cc

-- ---- lists and tests

-- what a list of two parts has
pub has_append : (p q : List ℕ) (i : ℕ) → has (p ++ q) i ≡ (has p i || has q i)
has_append [] q i = refl
has_append (j ∷ p) q i = rw (has_append p q i) (sym (or_assoc (eqb j i) (has p i) (has q i)))

-- what stands at place n after a store at x
pub set_at : (s : List ℕ) (x v n : ℕ) → n < length s → get_or (set s x v) n 0 ≡ (if eqb x n then v else get_or s n 0)
set_at s x v n h = go (eqb x n) refl
  where
    go : (b : Bool) → eqb x n ≡ b → get_or (set s x v) n 0 ≡ (if b then v else get_or s n 0)
    go true e = let p : x ≡ n = eqb-true x n e in rw p (get_or-set_same s n v 0 h)
    go false e = get_or-set_other s x n v 0 (λ p. eqb-false x n e (sym p))

-- two tests are equal where each passes with the other
pub both_ways : (a b : Bool) → (a ≡ true → b ≡ true) → (b ≡ true → a ≡ true) → a ≡ b
both_ways true b f g = sym (f refl)
both_ways false true f g = g refl
both_ways false false f g = refl
