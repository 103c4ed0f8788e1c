-- The moves that touch each other, found location by location: a location's users are taken one by one, the least first.
use Rattle.std.specs.Prelude.{if◌then◌else◌}
use mathlib.Core.Path.{◌≡◌, refl, sym, ap, ◌∙◌}
use mathlib.Core.Logic.{dite, ◌≢◌}
use mathlib.Core.Bool.{Bool, true, false, not, ◌||◌, ◌&&◌, and-true, or-false}
use mathlib.Core.List.{List}
use Prim.Native.Nat.{ℕ, zero, suc, ◌+◌, ◌-◌, ◌/◌, ◌^◌, ◌<◌}
use native.Mathlib.Numerals.{add-one}
use native.Mathlib.Omega.{arith}
use native.Mathlib.Decide.{ℕ_discrete}
use lib.Dec.{eqb}
use lib.Bits.{bit_and, bit_or, and_le_l, and_le_r, or_add_and}
use lib.Count.{count_trailing_zeros}
use lib.ListN.{length, get_or, take, drop, set, length-set, replicate, length-replicate}
use lib.Seq.{get_or-set_same, get_or-set_other, get_or-take, get_or-drop}
use borrow.Author.Tests.{eq-eqb, ne_eqb}
use Rattle.text.specs.Words.{some_below}
use Rattle.text.proofs.Words.{and_cases}
use Rattle.order.specs.Sets.{bit}
use Rattle.order.proofs.Sets.{bit_of_or, bit_empty}
use Rattle.order.proofs.Masks.{row_none, test_in, test_out, least_in, least_lt, rest, bit_rest}
use Rattle.order_touch.specs.Marked.{touch_by, TouchAdded, TouchSets}

-- of the users of a location those that touch j, if j is one of them
abbrev pub others : ℕ → ℕ → ℕ → ℕ
others r w j = if bit w j then bit_or r w else w

-- all users touch a move that writes, by the code's test of a mark
pub others_all : (r w j : ℕ) → bit_and (w / 2 ^ j) 1 ≡ 1 → bit_or r w ≡ others r w j
others_all r w j e = rw (test_in w j e)

-- the writers touch a move that does not write, by the code's test of a mark
pub others_writers : (r w j : ℕ) → bit_and (w / 2 ^ j) 1 ≢ 1 → w ≡ others r w j
others_writers r w j n = rw (test_out w j n)

-- u is t after all users but those in `left` have been added
pub record Sofar (r w : ℕ) (t u : List ℕ) (left : ℕ) : Type 0 where
  pub long : length u ≡ length t
  pub within : (j : ℕ) → bit left j ≡ true → bit (bit_or r w) j ≡ true
  pub bits : (j i : ℕ) → bit (get_or u j 0) i ≡ (bit (get_or t j 0) i || (bit (bit_or r w) j && not (bit left j)) && bit (others r w j) i)

-- the user that is taken was left, and is not any more
taken : (t o : Bool) → ((t || (true && not true) && o) || o) ≡ (t || (true && not (true && not true)) && o)
taken true o = refl
taken false true = refl
taken false false = refl

-- one user more: the least that is left
module _ (r w : ℕ) (t u : List ℕ) (left : ℕ) (fit : left < 2 ^ 64) (some : left ≢ 0) where
  pub left_lt : count_trailing_zeros 64 left < 64
  left_lt = least_lt 64 left fit some

  module _ (s : Sofar r w t u left) (size : length u ≡ 64) (o : ℕ) (is : o ≡ others r w (count_trailing_zeros 64 left)) where
    abbrev k : ℕ
    k = count_trailing_zeros 64 left

    abbrev u' : List ℕ
    u' = set u k (bit_or (get_or u k 0) o)

    bits_at : (j i : ℕ) → j ≡ k → bit (get_or u' j 0) i ≡ (bit (get_or t j 0) i || (bit (bit_or r w) j && not (bit (rest left) j)) && bit (others r w j) i)
    bits_at j i e =
        let l : bit left k ≡ true = least_in 64 left left_lt in
        rw (
          e,
          get_or-set_same u k (bit_or (get_or u k 0) o) 0 (omega (arith, size, left_lt)),
          bit_of_or (get_or u k 0) o i,
          s.bits k i,
          is,
          bit_rest 64 left k fit,
          eq-eqb k k refl,
          s.within k l,
          l,
        )
        (taken (bit (get_or t k 0) i) (bit (others r w k) i))

    bits_off : (j i : ℕ) → j ≢ k → bit (get_or u' j 0) i ≡ (bit (get_or t j 0) i || (bit (bit_or r w) j && not (bit (rest left) j)) && bit (others r w j) i)
    bits_off j i n =
        rw (get_or-set_other u k j (bit_or (get_or u k 0) o) 0 n, bit_rest 64 left j fit, ne_eqb k j (λ e. n (sym e)), and-true (bit left j)) (s.bits j i)

    pub sofar_turn : Sofar r w t u' (rest left)
    sofar_turn = record {
      long = length-set u k (bit_or (get_or u k 0) o) ∙ s.long;
      within = λ j e. s.within j (and_cases (bit left j) (not (eqb k j)) (sym (bit_rest 64 left j fit) ∙ e)).0;
      bits = λ j i. dite (ℕ_discrete j k) (bits_at j i) (bits_off j i);
    }

-- ---- one location done

others_bit : (r w j i : ℕ) → bit (others r w j) i ≡ (if bit w j then bit r i || bit w i else bit w i)
others_bit r w j i = go (bit w j)
  where
    go : (b : Bool) → bit (if b then bit_or r w else w) i ≡ (if b then bit r i || bit w i else bit w i)
    go true = bit_of_or r w i
    go false = refl

-- who touches j at a location: all its users if j writes it, its writers if j only reads it
touch_bool : (ri wi rj wj : Bool) → (((rj || wj) && not false) && (if wj then ri || wi else wi)) ≡ (wi && (rj || wj) || wj && (ri || wi))
touch_bool true true true true = refl
touch_bool false true true true = refl
touch_bool ri true true false = refl
touch_bool ri true false false = refl
touch_bool true true false true = refl
touch_bool false true false true = refl
touch_bool ri false true true = refl
touch_bool ri false true false = refl
touch_bool ri false false true = refl
touch_bool ri false false false = refl

pub sofar_end : (r w : ℕ) (t u : List ℕ) (left : ℕ) → left ≡ 0 → Sofar r w t u left → TouchAdded r w t u
sofar_end r w t u left none s = record {
  long = s.long;
  bits = λ j i. s.bits j i ∙ ap (λ (x : Bool). bit (get_or t j 0) i || x) (touch j i);
}
  where
    touch : (j i : ℕ) → ((bit (bit_or r w) j && not (bit left j)) && bit (others r w j) i) ≡ touch_by r w i j
    touch j i =
        rw (none, bit_empty j, bit_of_or r w j, others_bit r w j i) (touch_bool (bit r i) (bit w i) (bit r j) (bit w j))

-- where no move writes, nothing touches
pub touching_unwritten : (r w : ℕ) (t : List ℕ) → w ≡ 0 → TouchAdded r w t t
touching_unwritten r w t z = record {
  long = refl;
  bits = λ j i. sym (rw (z, bit_empty i, bit_empty j) (or-false (bit (get_or t j 0) i)));
}

-- ---- all locations

module _ (rs ws : List ℕ) where
  pub all_start : TouchSets rs ws 0 (replicate 64 0)
  unfolding some_below
  all_start = record { long = length-replicate {A = ℕ} 64 0; bits = λ j i. rw (row_none 64 j) (bit_empty i) }

  pub all_turn : (l : ℕ) (t u : List ℕ) → TouchSets rs ws l t → TouchAdded (get_or rs l 0) (get_or ws l 0) t u → TouchSets rs ws (l + 1) u
  unfolding some_below
  all_turn l t u a m = rw (add-one l) (record { long = m.long ∙ a.long; bits = λ j i. m.bits j i ∙ rw (a.bits j i) })

  -- a part that no move writes is passed over
  pub all_unwritten : (a n : ℕ) (t : List ℕ) → ((k : ℕ) → k < n → get_or ws (a + k) 0 ≡ 0) → TouchSets rs ws a t → TouchSets rs ws (a + n) t
  all_unwritten a zero t z m = let e : a + 0 ≡ a = omega arith in rw e m
  all_unwritten a (suc n) t z m =
      let e : a + suc n ≡ a + n + 1 = omega arith in
      rw e (all_turn (a + n) t t (all_unwritten a n t (λ k h. z k (omega arith)) m) (touching_unwritten (get_or rs (a + n) 0) (get_or ws (a + n) 0) t (z n (omega arith))))

-- the part of the marks that the code tests is that of the table
pub unwritten : (ws : List ℕ) (a n k : ℕ) → k < n → get_or (take (a + n - a) (drop a ws)) k 0 ≡ 0 → get_or ws (a + k) 0 ≡ 0
unwritten ws a n k h e = sym (get_or-take (a + n - a) (drop a ws) k 0 (omega arith) ∙ get_or-drop a ws k 0) ∙ e

-- if the union of two marks is empty, each is
pub join_none : (a b : ℕ) → bit_or a b ≡ 0 → (a ≡ 0) × (b ≡ 0)
join_none a b e = (omega (arith, or_add_and a b, and_le_r a b), omega (arith, or_add_and a b, and_le_l a b))
