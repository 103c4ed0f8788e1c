-- The least first move that is unordered with a second one and touches it, and the least pair of moves by the marks.
use Rattle.std.specs.Prelude.{Option, None, Some}
use mathlib.Core.Path.{◌≡◌, sym, ap, ◌∙◌}
use mathlib.Core.Logic.{dite}
use mathlib.Core.Bool.{Bool, true, false, not, ◌&&◌, true≢false}
use mathlib.Core.List.{List}
use Prim.Native.Nat.{ℕ, ◌-◌, ◌*◌, ◌%◌, ◌^◌, ◌≤◌, ◌<◌, min}
use native.Mathlib.Omega.{arith}
use native.Mathlib.Decide.{dec_lt}
use lib.Bits.{bit_and}
use lib.Count.{count_trailing_zeros}
use lib.ListN.{get_or, get_or-eq_default}
use Rattle.text.proofs.Words.{and_cases}
use Rattle.order.specs.Sets.{bit}
use Rattle.order.specs.Pairs.{least_pair, ordered_by}
use Rattle.order.proofs.Sets.{bit_empty}
use Rattle.order.proofs.Masks.{shl_one, bit_of_and, bit_not, bit_below, below_bit, least_below, least_in}
use Rattle.order.proofs.Best.{Best, best_found, best_none}
use Rattle.order.proofs.Search.{two_alike}
use Rattle.order_touch.specs.declared.MovePair.{MovePair}
use Rattle.order_touch.specs.Marked.{unordered_marked, clipped, pair_as, TouchSets, LeastTouching}

-- ---- the least first move

module _ (touching predecessors j : ℕ) (fit : touching < 2 ^ 64) (predecessors_fit : predecessors < 2 ^ 64) (small : j < 64) where
  abbrev near : ℕ
  near = bit_and (bit_and touching ((2 ^ 64 - 1) - predecessors)) (2 ^ j - 1)

  near_bit : (i : ℕ) → i < 64 → bit near i ≡ ((bit touching i && not (bit predecessors i)) && bit (2 ^ j - 1) i)
  near_bit i h = bit_of_and (bit_and touching ((2 ^ 64 - 1) - predecessors)) (2 ^ j - 1) i ∙ rw (bit_of_and touching ((2 ^ 64 - 1) - predecessors) i, bit_not 64 predecessors i predecessors_fit h)

  near_hit : count_trailing_zeros 64 near < 64 → (count_trailing_zeros 64 near < j) × ((not (bit predecessors (count_trailing_zeros 64 near)) && bit touching (count_trailing_zeros 64 near)) ≡ true)
  near_hit h =
      let r = count_trailing_zeros 64 near in
      let e = and_cases (bit touching r && not (bit predecessors r)) (bit (2 ^ j - 1) r) (sym (near_bit r h) ∙ least_in 64 near h) in
      let f = and_cases (bit touching r) (not (bit predecessors r)) e.0 in
      (below_bit j r e.1, rw (f.0, f.1))

  near_low : (i : ℕ) → i < j → (not (bit predecessors i) && bit touching i) ≡ true → count_trailing_zeros 64 near ≤ i
  near_low i h e =
      let f = and_cases (not (bit predecessors i)) (bit touching i) e in
      let b : bit near i ≡ true = near_bit i (omega arith) ∙ rw (f.0, f.1, bit_below j i h) in
      dite (dec_lt i (count_trailing_zeros 64 near)) (λ (y : i < count_trailing_zeros 64 near). absurd (true≢false (sym b ∙ least_below 64 near i y)))
      (λ (n : ¬ (i < count_trailing_zeros 64 near)). omega arith)

  pub near_is : LeastTouching touching predecessors j (count_trailing_zeros 64 (bit_and (bit_and touching ((2 ^ 64 - 1) - predecessors)) ((1 * 2 ^ j) % 2 ^ 64 - 1)))
  near_is = rw (shl_one j small) (record { hit = near_hit; low = near_low })

-- ---- the least pair, as the code gives it

module _ (f : ℕ → ℕ → Bool) where
  pub pair_found : (m a b : ℕ) → Best f m a b → a < 64 → ◌≡◌ {A = Option MovePair} (Some (record { first = a; second = b })) (pair_as (least_pair f m))
  pair_found m a b s h = let e = best_found f m a b s h in rw e

  pub pair_none : (m a b : ℕ) → m ≤ 64 → Best f m a b → 64 ≤ a → ◌≡◌ {A = Option MovePair} None (pair_as (least_pair f m))
  pair_none m a b small s h = let e = best_none f m a b small s h in rw e

-- ---- pairs by the marks

module _ (order rs ws u : List ℕ) (n : ℕ) (a : TouchSets rs ws n u) where
  abbrev gathered : ℕ → ℕ → Bool
  gathered i j = not (ordered_by order i j) && bit (get_or u j 0) i

  same : (i j : ℕ) → gathered i j ≡ unordered_marked order rs ws n i j
  same i j = rw (a.bits j i)

  -- no pair has a second move from 64 on
  second_small : (i j : ℕ) → gathered i j ≡ true → j < 64
  second_small i j e =
      let p = (and_cases (not (ordered_by order i j)) (bit (get_or u j 0) i) e).1 in
      dite (dec_lt j 64) (λ h. h)
      (λ (h : ¬ (j < 64)). let z : get_or u j 0 ≡ 0 = get_or-eq_default u 0 {n = j} (omega (arith, a.long)) in absurd (true≢false (sym p ∙ rw z (bit_empty i))))

  pub walk_marked_two : (m : ℕ) → least_pair gathered (min m 64) ≡ least_pair (unordered_marked order rs ws n) m
  walk_marked_two m = two_alike gathered (unordered_marked order rs ws n) (min m 64) m
      (λ i j p. let h : j < min m 64 = p.1 in (p.0, omega arith, sym (same i j) ∙ p.2))
      (λ i j p. let e : gathered i j ≡ true = same i j ∙ p.2 in (p.0, omega (arith, p.1, second_small i j e), e))

-- what the code finds is the least pair by the marks: the locations clipped to the tables, and the moves to 64
pub all_found : (order rs ws u : List ℕ) (n k x m : ℕ) (r : Option MovePair) → n ≡ clipped rs ws k → TouchSets rs ws n u → x ≡ min m 64
    → r ≡ pair_as (least_pair (λ i j. not (ordered_by order i j) && bit (get_or u j 0) i) x)
    → r ≡ pair_as (least_pair (unordered_marked order rs ws (clipped rs ws k)) m)
all_found order rs ws u n k x m r e a f g =
    g ∙ ap (λ (y : ℕ). pair_as (least_pair (λ i j. not (ordered_by order i j) && bit (get_or u j 0) i) y)) f
    ∙ ap pair_as (walk_marked_two order rs ws u n a m) ∙ ap (λ (y : ℕ). pair_as (least_pair (unordered_marked order rs ws y) m)) e
