-- The least place at fault, function after function.
use Rattle.std.specs.Prelude.{Option, None, Some}
use Rattle.std.specs.Prelude.{if◌then◌else◌}
use mathlib.Core.Path.{◌≡◌, refl, sym, ◌∙◌}
use mathlib.Core.Bool.{Bool, true, false}
use mathlib.Core.List.{List}
use Prim.Native.Nat.{ℕ, zero, suc, ◌+◌, ◌-◌, ◌<◌, ◌≤◌}
use native.Mathlib.Omega.{arith}
use lib.ListN.{length}
use Rattle.text.specs.Words.{least_from, least}
use Rattle.book.specs.Book.{Program, L, size, function_at}
use Rattle.book.specs.Sum.{Strided}
use Rattle.book.specs.Contents.{bad_value}
use Rattle.book_parts.specs.declared.Owner.{Owner}
use Rattle.book_parts.specs.Part.{part_from}
use Rattle.book_parts.proofs.Places.{From, from_here, from_fits, part_ends}
use Rattle.contents_check.specs.Part.{Part}

module _ (bad : ℕ → Bool) where
  -- if no place of a part is at fault, the search goes on past it; places are counted from the part's first
  part_nowhere : (n first j : ℕ) → least_from (λ i. bad (first + i)) n j ≡ None → (m : ℕ) → least_from bad (n + m) (first + j) ≡ least_from bad m (first + j + n)
  unfolding least_from
  part_nowhere zero first j e m = let p : 0 + m ≡ m = omega arith in let q : first + j + 0 ≡ first + j = omega arith in rw (p, q)
  part_nowhere (suc n) first j e m = go (bad (first + j)) refl e (part_nowhere n first (suc j))
    where
      go :
          (t : Bool) → bad (first + j) ≡ t → (if t then Some j else least_from (λ i. bad (first + i)) n (suc j)) ≡ None →
          (least_from (λ i. bad (first + i)) n (suc j) ≡ None → (m : ℕ) → least_from bad (n + m) (first + suc j) ≡ least_from bad m (first + suc j + n)) →
          least_from bad (suc n + m) (first + j) ≡ least_from bad m (first + j + suc n)
      go true q e r = let z : ◌≡◌ {A = ℕ} 0 1 = cc in absurd (omega arith)
      go false q e r =
          let a : suc n + m ≡ suc (n + m) = omega arith in
          let b : suc (first + j) ≡ first + suc j = omega arith in
          let d : first + suc j + n ≡ first + j + suc n = omega arith in
          rw (a, q, b) (r e m ∙ rw d)

  part_here : (n first j i : ℕ) → least_from (λ i. bad (first + i)) n j ≡ Some i → (m : ℕ) → least_from bad (n + m) (first + j) ≡ Some (first + i)
  unfolding least_from
  part_here zero first j i e m = let z : ◌≡◌ {A = ℕ} 0 1 = cc in absurd (omega arith)
  part_here (suc n) first j i e m = go (bad (first + j)) refl e (part_here n first (suc j) i)
    where
      go :
          (t : Bool) → bad (first + j) ≡ t → (if t then Some j else least_from (λ i. bad (first + i)) n (suc j)) ≡ Some i →
          (least_from (λ i. bad (first + i)) n (suc j) ≡ Some i → (m : ℕ) → least_from bad (n + m) (first + suc j) ≡ Some (first + i)) →
          least_from bad (suc n + m) (first + j) ≡ Some (first + i)
      go true q e r =
          let a : suc n + m ≡ suc (n + m) = omega arith in
          let s : j ≡ i = cc in
          rw (a, q, s)
      go false q e r =
          let a : suc n + m ≡ suc (n + m) = omega arith in
          let b : suc (first + j) ≡ first + suc j = omega arith in
          rw (a, q, b) (r e m)

  -- a part with no place at fault is passed over
  part_pass :
      (all first n : ℕ) → first + n ≤ all → least (λ i. bad (first + i)) n ≡ None → least_from bad (all - first) first ≡ least bad all →
      least_from bad (all - (first + n)) (first + n) ≡ least bad all
  part_pass all first n h e p =
      let a : n + (all - (first + n)) ≡ all - first = omega arith in
      let b : first + 0 ≡ first = omega arith in
      let q = part_nowhere n first 0 e (all - (first + n)) in
      sym (rw (a, b) at q) ∙ p

  -- the least of a part is the least of all
  part_stop :
      (all first n i : ℕ) → first + n ≤ all → least (λ i. bad (first + i)) n ≡ Some i → least_from bad (all - first) first ≡ least bad all →
      Some (first + i) ≡ least bad all
  part_stop all first n i h e p =
      let a : n + (all - (first + n)) ≡ all - first = omega arith in
      let b : first + 0 ≡ first = omega arith in
      let q = part_here n first 0 i e (all - (first + n)) in
      sym (rw (a, b) at q) ∙ p

-- function g's part: r is its least place at fault, counted from its first, and no place before the part is at fault
module _ (B : Program) (c : List ℕ) (E P g first : ℕ) (own : Owner) (r : Option ℕ) (e : E ≡ B.E) (p : P ≡ B.P) (is : own ≡ part_from B g first)
    (strides : Strided B) (at : From B g first) (more : g < length B.functions) (below : least_from (bad_value B c) (L B - first) first ≡ least (bad_value B c) (L B))
    (found : (B : Program) → Part B E P own.function first own.end → r ≡ least (λ i. bad_value B c (first + i)) (size E own.function.arity)) where
  abbrev n : ℕ
  n = size B.E (function_at B g).arity

  own_part : Part B E P own.function first own.end
  own_part = record { elements = sym e; permanent = sym p; strided = rw (is, e) (strides g); long = rw (is, e); places = λ i h. rw is (from_here B g first at more i (rw (e, is) at h)) }

  least_is : r ≡ least (λ i. bad_value B c (first + i)) n
  least_is = found B own_part ∙ rw (is, e)

  pub own_stop : (i : ℕ) → r ≡ Some i → Some (first + i) ≡ least (bad_value B c) (L B)
  own_stop i h = part_stop (bad_value B c) (L B) first n i (from_fits B g first at more) (sym least_is ∙ h) below

  pub own_pass : r ≡ None → least_from (bad_value B c) (L B - own.end) own.end ≡ least (bad_value B c) (L B)
  own_pass h = rw (part_ends B g first own is) (part_pass (bad_value B c) (L B) first n (from_fits B g first at more) (sym least_is ∙ h) below)
