-- The sets of predecessors are exactly the order by chaining.
use mathlib.Core.Path.{◌≡◌, refl, sym, ap, ◌∙◌}
use mathlib.Core.Logic.{◌↔◌, ◌⊎◌, inl, inr, dite}
use mathlib.Core.Bool.{Bool, true, false, ◌||◌, or-true, true≢false}
use mathlib.Core.List.{List, [], ◌∷◌}
use Prim.Native.Nat.{ℕ, zero, suc, ◌<◌}
use native.Mathlib.Omega.{arith}
use native.Mathlib.Decide.{dec_lt}
use lib.Dec.{eqb}
use lib.ListN.{length, get_or, length-append, get_or-append}
use lib.Seq.{get_or_at}
use borrow.Author.Tests.{eqb-true, eqb-false, eq-eqb}
use Rattle.order.specs.Sets.{bit}
use Rattle.order.specs.Pairs.{Pair, predecessors_of, predecessors}
use Rattle.order.specs.Orders.{Before, one, more}
use Rattle.order.specs.Demand.{PairOf}
use Rattle.text.proofs.Words.{or_cases}
use Rattle.order.proofs.Sets.{bit_of_or, bit_one, bit_empty}

pub length_rows : (ps : List Pair) (n : ℕ) → length (predecessors ps n) ≡ n
unfolding predecessors
length_rows ps zero = refl
length_rows ps (suc n) = length-append (predecessors ps n) (predecessors_of (predecessors ps n) n ps ∷ []) ∙ rw (length_rows ps n) (omega arith)

module _ (rs : List ℕ) (j i : ℕ) where
  -- i comes before j by one of the pairs and through the sets of predecessors rs
  abbrev Through : List Pair → Type 0
  Through ps = (a : ℕ) × PairOf ps a j × ((bit (get_or rs a 0) i ≡ true) ⊎ (a ≡ i))

  -- what one pair adds to the predecessors of j
  module _ (p : Pair) (ps : List Pair) where
    added : eqb p.later j ≡ true → bit (predecessors_of rs j (p ∷ ps)) i ≡ ((bit (get_or rs p.earlier 0) i || eqb p.earlier i) || bit (predecessors_of rs j ps) i)
    unfolding predecessors_of
    added q = simp (q, bit_of_or, bit_one)

    not_added : eqb p.later j ≡ false → bit (predecessors_of rs j (p ∷ ps)) i ≡ bit (predecessors_of rs j ps) i
    unfolding predecessors_of
    not_added q = simp q

  row_bit : (ps : List Pair) → (bit (predecessors_of rs j ps) i ≡ true) ↔ Through ps
  unfolding predecessors_of
  row_bit [] = (λ e. absurd (true≢false (sym e ∙ none)), λ t. absurd t.1)
    where
      none : bit (predecessors_of rs j []) i ≡ false
      none = bit_empty i
  row_bit (p ∷ ps) = go (eqb p.later j) refl (row_bit ps)
    where
      to : p.later ≡ j → ((bit (predecessors_of rs j ps) i ≡ true) ↔ Through ps) → ((bit (get_or rs p.earlier 0) i || eqb p.earlier i) ≡ true) ⊎ (bit (predecessors_of rs j ps) i ≡ true)
          → Through (p ∷ ps)
      to q k (inr e) = let r = k.0 e in (r.0, inr r.1, r.2)
      to q k (inl e) = by (or_cases (bit (get_or rs p.earlier 0) i) (eqb p.earlier i) e)
        where
          by : (bit (get_or rs p.earlier 0) i ≡ true) ⊎ (eqb p.earlier i ≡ true) → Through (p ∷ ps)
          by (inl h) = (p.earlier, inl (refl, q), inl h)
          by (inr h) = (p.earlier, inl (refl, q), inr (eqb-true p.earlier i h))

      from : ((bit (predecessors_of rs j ps) i ≡ true) ↔ Through ps) → Through (p ∷ ps) → ((bit (get_or rs p.earlier 0) i || eqb p.earlier i) || bit (predecessors_of rs j ps) i) ≡ true
      from k (x, inr m, h) = rw (k.1 (x, m, h)) (or-true (bit (get_or rs p.earlier 0) i || eqb p.earlier i))
      from k (x, inl (e, q), inl h) = rw (ap (λ (y : ℕ). bit (get_or rs y 0) i) e ∙ h)
      from k (x, inl (e, q), inr h) = rw (eq-eqb p.earlier i (e ∙ h), or-true (bit (get_or rs p.earlier 0) i))

      only : eqb p.later j ≡ false → Through (p ∷ ps) → Through ps
      only q (x, inl (e, f), h) = absurd (eqb-false p.later j q f)
      only q (x, inr m, h) = (x, m, h)

      go : (b : Bool) → eqb p.later j ≡ b → ((bit (predecessors_of rs j ps) i ≡ true) ↔ Through ps) → (bit (predecessors_of rs j (p ∷ ps)) i ≡ true) ↔ Through (p ∷ ps)
      go true q k = (λ e. to (eqb-true p.later j q) k (or_cases _ _ (sym (added p ps q) ∙ e)), λ t. added p ps q ∙ from k t)
      go false q k = (λ e. let r = k.0 (sym (not_added p ps q) ∙ e) in (r.0, inr r.1, r.2), λ t. not_added p ps q ∙ k.1 (only q t))

module _ (ps : List Pair) (up : (a b : ℕ) → PairOf ps a b → a < b) where
  -- the sets of predecessors of the first n moves say what comes before each
  abbrev Say : ℕ → Type 0
  Say n = (j i : ℕ) → j < n → (bit (get_or (predecessors ps n) j 0) i ≡ true) ↔ Before (PairOf ps) i j

  module _ (n : ℕ) (k : Say n) where
    to_before : (i : ℕ) → Through (predecessors ps n) n i ps → Before (PairOf ps) i n
    to_before i (a, m, inl e) = more ((k a i (up a n m)).0 e) m
    to_before i (a, m, inr e) = one (rw e at m)

    from_before : {i j : ℕ} → Before (PairOf ps) i j → j ≡ n → Through (predecessors ps n) n i ps
    from_before (one {a} m) e = (a, (rw e at m), inr refl)
    from_before (more {a} {b} {c} g m) e = (b, (rw e at m), inl ((k b a (omega (arith, up b c m))).1 g))

    one_more : Say (suc n)
    unfolding predecessors
    one_more j i h = dite (dec_lt j n) old (λ (x : ¬ (j < n)). last (omega arith))
      where
        old : j < n → (bit (get_or (predecessors ps (suc n)) j 0) i ≡ true) ↔ Before (PairOf ps) i j
        old l = rw (get_or-append (predecessors ps n) (predecessors_of (predecessors ps n) n ps ∷ []) 0 j (omega (arith, length_rows ps n))) (k j i l)

        last : j ≡ n → (bit (get_or (predecessors ps (suc n)) j 0) i ≡ true) ↔ Before (PairOf ps) i j
        last e = rw (e, get_or_at (predecessors ps n) (predecessors_of (predecessors ps n) n ps) [] 0 n (length_rows ps n))
            (λ h. to_before i ((row_bit (predecessors ps n) n i ps).0 h), λ b. (row_bit (predecessors ps n) n i ps).1 (from_before b refl))

  pub rows_set : (n : ℕ) → Say n
  rows_set zero = λ j i h. absurd (omega arith)
  rows_set (suc n) = one_more n (rows_set n)
