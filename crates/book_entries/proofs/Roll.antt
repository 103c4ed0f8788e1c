-- The table of the labels on the roll, and what the loop over contents lines has tested.
use Rattle.std.specs.Prelude.{if◌then◌else◌}
use mathlib.Core.Path.{◌≡◌, refl, sym, ap, ◌∙◌}
use mathlib.Core.Bool.{Bool, true, false, not, ◌&&◌, ◌||◌, true≢false}
use mathlib.Core.List.{List}
use Prim.Native.Nat.{ℕ, zero, suc, ◌+◌, ◌<◌, ◌≤◌}
use native.Mathlib.Numerals.{add-one}
use native.Mathlib.Omega.{arith}
use borrow.Author.Tests.{ltb-true, eqb-true, eqb-false}
use lib.Dec.{eqb, ltb, leb}
use lib.ListN.{length, get_or, set, replicate, length-set, length-replicate, get_or-replicate}
use lib.Seq.{get_or-set_same, get_or-set_other}
use Rattle.text.specs.Text.{line}
use Rattle.text.proofs.Words.{and_cases, getD_table}
use Rattle.book.specs.declared.Entry.{Entry}
use Rattle.book.specs.Book.{Program, no_entry, function_at, entry_at, entry_location}
use Rattle.book.specs.Sum.{Strided, sum}
use Rattle.book.specs.Lines.{entry_of}
use Rattle.book.specs.Contents.{in_bounds, entry_fits, least_location, rolled, untraced, bad_entry}
use Rattle.book.proofs.Sum.{sum_location}
use Rattle.book.proofs.Start.{entry_fitting}
use Rattle.book_entries.specs.Roll.{entries_from, roll_with, roll_of, untraced_by, RollEmpty}

-- ---- the table has exactly the labels that the entries put on the roll

length_with : (e : Entry) (s : List ℕ) → length (roll_with e s) ≡ length s
length_with e s = go (eqb e.function 0)
  where
    go : (b : Bool) → length (if b then set s e.arg1 1 else s) ≡ length s
    go true = length-set s e.arg1 1
    go false = refl

length_roll : (es : List Entry) (i : ℕ) (s : List ℕ) → length (roll_of es i s) ≡ length s
unfolding roll_of
length_roll es zero s = refl
length_roll es (suc i) s = length_with (entry_at es i) (roll_of es i s) ∙ length_roll es i s

roll_with_at :
    (e : Entry) (s : List ℕ) (x : ℕ) (r : Bool) → x < length s → eqb (get_or s x 0) 0 ≡ not r →
    eqb (get_or (roll_with e s) x 0) 0 ≡ not (r || eqb e.function 0 && eqb e.arg1 x)
roll_with_at l s x r h p = go (eqb l.function 0) (eqb l.arg1 x) refl
  where
    last : (r : Bool) → false ≡ not (r || true)
    last true = refl
    last false = refl

    same : (r : Bool) → not r ≡ not (r || false)
    same true = refl
    same false = refl

    go : (b d : Bool) → eqb l.arg1 x ≡ d → eqb (get_or (if b then set s l.arg1 1 else s) x 0) 0 ≡ not (r || b && d)
    go false d e = p ∙ same r
    go true true e = let q : l.arg1 ≡ x = eqb-true l.arg1 x e in rw (q, get_or-set_same s x 1 0 h) (last r)
    go true false e = rw (get_or-set_other s l.arg1 x 1 0 (λ q. eqb-false l.arg1 x e (sym q))) (p ∙ same r)

roll_at : (es : List Entry) (x i : ℕ) (s : List ℕ) → x < length s → get_or s x 0 ≡ 0 → eqb (get_or (roll_of es i s) x 0) 0 ≡ not (rolled es x i)
unfolding roll_of rolled
roll_at es x zero s h p = rw p
roll_at es x (suc i) s h p = roll_with_at (entry_at es i) (roll_of es i s) x (rolled es x i) (rw (length_roll es i s) h) (roll_at es x i s h p)

roll_clear : (es : List Entry) (E x i : ℕ) (s : List ℕ) → RollEmpty E s → x < E → eqb (get_or (roll_of es i s) x 0) 0 ≡ not (rolled es x i)
roll_clear es E x i s k h = roll_at es x i s (omega (arith, k.long)) (k.empty x h)

-- a table of zeros, at least one for each element, has no label on the roll
pub clear : (E k : ℕ) → E ≤ k → RollEmpty E (replicate k 0)
clear E k h =
    record {
      long = rw (length-replicate {A = ℕ} k 0) h;
      empty = λ x l. get_or-replicate {A = ℕ} k x 0 0 (omega arith);
    }

-- ---- the loop

pub roll_none : (es : List Entry) (s : List ℕ) → s ≡ roll_of es 0 s
unfolding roll_of
roll_none es s = refl

pub roll_step : (es : List Entry) (i : ℕ) (s : List ℕ) (e : Entry) → entry_at es i ≡ e → roll_of es (i + 1) s ≡ roll_with e (roll_of es i s)
unfolding roll_of
roll_step es i s e p = rw (add-one i, ← p)

-- the elements of an entry in bounds
pub bounded : (f x y v F E : ℕ) → (ltb f F && ltb x E && ltb y E && ltb v E) ≡ true → (x < E) × (y < E) × (v < E)
bounded f x y v F E p =
    let q = and_cases (ltb f F && ltb x E && ltb y E) (ltb v E) p in
    let r = and_cases (ltb f F && ltb x E) (ltb y E) q.0 in
    let s = and_cases (ltb f F) (ltb x E) r.0 in
    (ltb-true x E s.1, ltb-true y E r.1, ltb-true v E q.1)

rest_of :
    (B : Program) (es : List Entry) (i : ℕ) (e : Entry) (s : List ℕ) → entry_at es i ≡ e → in_bounds B e ≡ true → RollEmpty B.E s →
    bad_entry B es i
    ≡ not
    (entry_fits B.P e (function_at B e.function) && leb (least_location B es i) (entry_location B e)
    && untraced_by (roll_of es i s) e)
unfolding in_bounds bad_entry untraced
rest_of B es i e s at p k =
    let w = bounded e.function e.arg1 e.arg2 e.value (length B.functions) B.E p in
    rw (
      at,
      p,
      roll_clear es B.E e.arg1 i s k w.0,
      roll_clear es B.E e.arg2 i s k w.1,
      roll_clear es B.E e.value i s k w.2,
    )

-- the tests of an entry that passed say that it is in bounds and fits its function
pub tests_passed : (a b c d : Bool) → not (a && (b && c && d)) ≡ false → (a ≡ true) × (b ≡ true)
tests_passed true true c d h = (refl, refl)
tests_passed true false c d h = absurd (true≢false h)
tests_passed false b c d h = absurd (true≢false h)

module _ (B : Program) (strided : Strided B) (es : List Entry) (i : ℕ) (e : Entry) (at : entry_at es i ≡ e) where
  abbrev fits : Bool
  fits = entry_fits B.P e (function_at B e.function)

  abbrev found : ℕ
  found = sum (function_at B e.function) e.arg1 e.arg2

  -- the location of an entry that fits its function is the sum
  found_is : fits ≡ true → found ≡ entry_location B e
  found_is p = sum_location B strided e.function e.arg1 e.arg2 (entry_fitting B.P e (function_at B e.function) p)

  -- the tests that the code makes of an entry say whether it is at fault
  pub bad_tests :
      (s : List ℕ) → RollEmpty B.E s →
      bad_entry B es i
      ≡ not
      ((ltb e.function (length B.functions) && ltb e.arg1 B.E && ltb e.arg2 B.E && ltb e.value B.E)
      && (fits && leb (least_location B es i) found && untraced_by (roll_of es i s) e))
  unfolding in_bounds bad_entry
  bad_tests s k = go (in_bounds B e) refl ∙ ap (λ (t : Bool). not (in_bounds B e && t)) (by_sum fits refl)
    where
      rest : ℕ → Bool
      rest l = fits && leb (least_location B es i) l && untraced_by (roll_of es i s) e

      go : (t : Bool) → in_bounds B e ≡ t → bad_entry B es i ≡ not (t && rest (entry_location B e))
      go true p = rest_of B es i e s at p k
      go false p = rw (at, p)

      by_sum : (t : Bool) → fits ≡ t → rest (entry_location B e) ≡ rest found
      by_sum true p = ap rest (sym (found_is p))
      by_sum false p = rw p

  pub low_step : fits ≡ true → least_location B es (i + 1) ≡ found + 1
  unfolding least_location
  low_step p = rw (add-one i, at, found_is p)

pub low_none : (B : Program) (es : List Entry) → 0 ≡ least_location B es 0
unfolding least_location
low_none B es = refl

pub entry_there : (text : List ℕ) (first n i : ℕ) → i < n → entry_at (entries_from text first n) i ≡ entry_of (line text (first + i))
entry_there text first n i h = getD_table (λ i. entry_of (line text (first + i))) n i no_entry h
