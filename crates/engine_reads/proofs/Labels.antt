-- Laws of the search for a label.
use Rattle.std.specs.Prelude.{None, Some}
use Rattle.std.specs.Prelude.{if◌then◌else◌}
use mathlib.Core.Path.{◌≡◌, refl, ap, sym, ◌∙◌}
use mathlib.Core.Bool.{Bool, true, false}
use mathlib.Core.List.{List, [], ◌∷◌}
use Prim.Native.Nat.{ℕ, zero, suc, ◌+◌, ◌-◌, ◌≤◌, ◌<◌}
use native.Mathlib.Numerals.{add-one}
use native.Mathlib.Omega.{arith}
use lib.Dec.{eqb}
use lib.ListN.{get_or}
use borrow.Author.Tests.{eq-eqb, ne_eqb}
use Rattle.book.specs.Book.{Program}
use Rattle.engine.specs.Reader.{done, value_in, locations_read, ◌>>=◌}
use Rattle.engine.specs.Move.{dynamic_among}
use Rattle.engine.specs.Rule.{lowest}
use Rattle.engine_term.specs.Marks.{marked, Placed, Runs}
use Rattle.engine_reads.specs.Marking.{found_below}

module _ (c : List ℕ) where
  lowest_more : (x k : ℕ)
      → (value_in c (lowest x (suc k)) ≡ (if eqb (get_or c x 0) 2 then Some x else value_in c (lowest (suc x) k)))
      × (locations_read c (lowest x (suc k)) ≡ x ∷ (if eqb (get_or c x 0) 2 then [] else locations_read c (lowest (suc x) k)))
  unfolding lowest value_in locations_read ◌>>=◌
  lowest_more x k = go (eqb (get_or c x 0) 2)
    where
      go : (b : Bool) → (value_in c (if b then done (Some x) else lowest (suc x) k) ≡ (if b then Some x else value_in c (lowest (suc x) k)))
          × (◌≡◌ {A = List ℕ} (x ∷ locations_read c (if b then done (Some x) else lowest (suc x) k)) (x ∷ (if b then [] else locations_read c (lowest (suc x) k))))
      go true = (refl, refl)
      go false = (refl, refl)

  module _ (e x : ℕ) (h : x < e) where
    one_more : e - x ≡ suc (e - suc x)
    one_more = omega arith

    pub lowest_stop : get_or c x 0 ≡ 2 → (value_in c (lowest x (e - x)) ≡ Some x) × (locations_read c (lowest x (e - x)) ≡ x ∷ [])
    lowest_stop g =
        let r = lowest_more x (e - suc x) in
        let q = eq-eqb (get_or c x 0) 2 g in
        rw one_more (r.0 ∙ rw q, r.1 ∙ rw q)

    pub lowest_pass : ((get_or c x 0 ≡ 2) → ⊥)
        → (value_in c (lowest x (e - x)) ≡ value_in c (lowest (x + 1) (e - (x + 1)))) × (locations_read c (lowest x (e - x)) ≡ x ∷ locations_read c (lowest (x + 1) (e - (x + 1))))
    lowest_pass g =
        let r = lowest_more x (e - suc x) in
        let q = ne_eqb (get_or c x 0) 2 g in
        rw (add-one x, one_more) (r.0 ∙ rw q, r.1 ∙ rw q)

pub lowest_end : (c : List ℕ) (e x : ℕ) → e ≤ x → (value_in c (lowest x (e - x)) ≡ None) × (locations_read c (lowest x (e - x)) ≡ [])
unfolding lowest value_in locations_read
lowest_end c e x h = let z : e - x ≡ 0 = omega arith in (rw z, rw z)

-- all that a search for a label reads is Reserve's, and dynamic
all_roll : (B : Program) → Placed B → (c : List ℕ) (k x : ℕ) → ((j : ℕ) → j < k → x + j < B.E) → dynamic_among B (locations_read c (lowest x k)) ≡ locations_read c (lowest x k)
unfolding lowest locations_read dynamic_among ◌>>=◌
all_roll B p c zero x h = refl
all_roll B p c (suc k) x h = rw (p.roll x (omega (arith, h 0 (omega arith)))) (ap (λ (s : List ℕ). x ∷ s) (go (eqb (get_or c x 0) 2) (all_roll B p c k (suc x) (λ j i. omega (arith, h (suc j) (omega arith))))))
  where
    go : (b : Bool) → dynamic_among B (locations_read c (lowest (suc x) k)) ≡ locations_read c (lowest (suc x) k)
        → dynamic_among B (locations_read c (if b then done (Some x) else lowest (suc x) k)) ≡ locations_read c (if b then done (Some x) else lowest (suc x) k)
    go true e = refl
    go false e = e

pub runs_lowest : (B : Program) (c : List ℕ) (bit from e x : ℕ) (m n : List ℕ) → e ≡ B.E → found_below e x ≡ value_in c (lowest from (e - from))
    → n ≡ marked bit (locations_read c (lowest from (e - from))) m → Runs B c bit (lowest from (B.E - from)) (found_below B.E x) m n
runs_lowest B c bit from e x m n q h k =
    record {
      value = λ p. rw (← q) h;
      marks = λ p. k ∙ rw q (ap (λ (s : List ℕ). marked bit s m) (sym (all_roll B p c (B.E - from) from (λ j i. omega arith))));
    }
