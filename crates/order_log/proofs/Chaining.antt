-- The sets of predecessors that one pass over the pairs, in ascending order, puts into a table are those of the definition.
use mathlib.Core.Path.{◌≡◌, refl, sym, ◌∙◌}
use mathlib.Core.Logic.{◌↔◌, ◌⊎◌, inl, inr, dite, ◌≢◌}
use mathlib.Core.List.{List, [], ◌∷◌}
use mathlib.Core.Bool.{true, ◌||◌, or-true, true≢false}
use Prim.Native.Nat.{ℕ, ◌≤◌, ◌<◌}
use native.Mathlib.Omega.{arith}
use native.Mathlib.Decide.{ℕ_discrete}
use lib.Dec.{eqb}
use lib.Bits.{bit_or}
use lib.ListN.{length, get_or, length-set}
use lib.Seq.{get_or-set_same, get_or-set_other}
use borrow.Author.Tests.{eqb-true, eq-eqb}
use Rattle.text.proofs.Words.{or_cases, both_ways}
use Rattle.order.specs.Sets.{bit, with_move}
use Rattle.order.specs.Pairs.{Pair, predecessors}
use Rattle.order.specs.Orders.{Before, one, more}
use Rattle.order.specs.Demand.{PairOf}
use Rattle.order.proofs.Sets.{bit_of_or, bit_with, bit_empty}
use Rattle.order.proofs.Predecessors.{rows_set}
use Rattle.order.proofs.Masks.{bit_ext}
use Rattle.order_log.specs.Read.{pair_put, pairs_put}

-- each pair goes upwards, below m, and their earlier moves ascend from lo on
abbrev pub Up : ℕ → ℕ → List Pair → Type 0
Up m lo [] = Unit {0}
Up m lo (p ∷ ps) = (lo ≤ p.earlier) × (p.earlier < p.later) × (p.later < m) × Up m p.earlier ps

pair_up : (m lo : ℕ) (ps : List Pair) → Up m lo ps → (a b : ℕ) → PairOf ps a b → (a < b) × (b < m)
pair_up m lo [] u a b r = absurd r
pair_up m lo (p ∷ ps) u a b (inl e) = let x : p.earlier < p.later = u.1 in let y : p.later < m = u.2 in (omega arith, omega arith)
pair_up m lo (p ∷ ps) u a b (inr r) = pair_up m p.earlier ps u.3 a b r

-- the sets of the first m moves say what follows from the pairs q
record Says (m : ℕ) (q : ℕ → ℕ → Type 0) (r : List ℕ) : Type 0 where
  size : m ≤ length r
  set : (i j : ℕ) → j < m → (bit (get_or r j 0) i ≡ true) ↔ Before q i j

before_map : {p q : ℕ → ℕ → Type 0} → ((a b : ℕ) → p a b → q a b) → {i j : ℕ} → Before p i j → Before q i j
before_map f (one {a} {b} r) = one (f a b r)
before_map f (more {a} {b} {c} g r) = more (before_map f g) (f b c r)

module _ (q : ℕ → ℕ → Type 0) (a b : ℕ) where
  -- the pairs q, and (a, b)
  abbrev With : ℕ → ℕ → Type 0
  With c d = q c d ⊎ ((a ≡ c) × (b ≡ d))

  abbrev New : ℕ → ℕ → Type 0
  New i j = Before q i j ⊎ ((b ≡ j) × ((a ≡ i) ⊎ Before q i a))

-- a pair more whose earlier move is not below those of the others
module _ (q : ℕ → ℕ → Type 0) (a b : ℕ) (h : a < b) (low : (c d : ℕ) → q c d → c ≤ a) where
  new_more : (i x j : ℕ) → New q a b i x → With q a b x j → New q a b i j
  new_more i x j (inl f) (inl r) = inl (more f r)
  new_more i x j (inl f) (inr (e, e')) = inr (e', inr (rw e f))
  new_more i x j (inr (e, f)) (inl r) = absurd (omega (arith, low x j r))
  new_more i x j (inr (e, f)) (inr (e', g)) = absurd (omega arith)

  to_new : {i j : ℕ} → Before (With q a b) i j → New q a b i j
  to_new (one (inl r)) = inl (one r)
  to_new (one (inr (e, e'))) = inr (e', inl e)
  to_new (more {a = i} {b = x} {c = j} f r) = new_more i x j (to_new f) r

  from_new : {i j : ℕ} → New q a b i j → Before (With q a b) i j
  from_new (inl f) = before_map (λ c d. inl) f
  from_new (inr (e, inl e')) = one (inr (e', e))
  from_new (inr (e, inr f)) = more (before_map (λ c d. inl) f) (inr (refl, e))

  module _ (m : ℕ) (r : List ℕ) (w : Says m q r) (lim : b < m) where
    bit_join : (i : ℕ) → bit (get_or (pair_put r a b) b 0) i ≡ (bit (get_or r b 0) i || (bit (get_or r a 0) i || eqb a i))
    bit_join i = rw (
      get_or-set_same r b (bit_or (get_or r b 0) (with_move (get_or r a 0) a)) 0 (omega (arith, w.size)),
      bit_of_or (get_or r b 0) (with_move (get_or r a 0) a) i,
      bit_with (get_or r a 0) a i,
    )

    same_row : (j : ℕ) → j ≢ b → get_or (pair_put r a b) j 0 ≡ get_or r j 0
    same_row j n = get_or-set_other r b j (bit_or (get_or r b 0) (with_move (get_or r a 0) a)) 0 n

    to_row : (i : ℕ) → bit (get_or (pair_put r a b) b 0) i ≡ true → New q a b i b
    to_row i e = go (or_cases _ _ (sym (bit_join i) ∙ e))
      where
        then : (bit (get_or r a 0) i ≡ true) ⊎ (eqb a i ≡ true) → New q a b i b
        then (inl e) = inr (refl, inr ((w.set i a (omega arith)).0 e))
        then (inr e) = inr (refl, inl (eqb-true a i e))

        go : (bit (get_or r b 0) i ≡ true) ⊎ ((bit (get_or r a 0) i || eqb a i) ≡ true) → New q a b i b
        go (inl e) = inl ((w.set i b lim).0 e)
        go (inr e) = then (or_cases _ _ e)

    from_row : (i : ℕ) → New q a b i b → bit (get_or (pair_put r a b) b 0) i ≡ true
    from_row i (inl f) = bit_join i ∙ rw ((w.set i b lim).1 f)
    from_row i (inr (e, inl e')) = bit_join i ∙ rw (eq-eqb a i e', or-true (bit (get_or r a 0) i)) (or-true (bit (get_or r b 0) i))
    from_row i (inr (e, inr f)) = bit_join i ∙ rw ((w.set i a (omega arith)).1 f) (or-true (bit (get_or r b 0) i))

    to_before : (i j : ℕ) → j < m → bit (get_or (pair_put r a b) j 0) i ≡ true → New q a b i j
    to_before i j h e = dite (ℕ_discrete j b) (λ (y : j ≡ b). rw y (to_row i (rw y at e))) (λ n. inl ((w.set i j h).0 (rw (same_row j n) at e)))

    from_before : (i j : ℕ) → j < m → New q a b i j → bit (get_or (pair_put r a b) j 0) i ≡ true
    from_before i j h f = dite (ℕ_discrete j b) (λ (y : j ≡ b). rw y (from_row i (rw y at f))) (λ n. rw (same_row j n) (old n f))
      where
        old : j ≢ b → New q a b i j → bit (get_or r j 0) i ≡ true
        old n (inl f) = (w.set i j h).1 f
        old n (inr (e, f)) = absurd (n (sym e))

    says_join : Says m (With q a b) (pair_put r a b)
    says_join = record {
      size = omega (arith, w.size, length-set r b (bit_or (get_or r b 0) (with_move (get_or r a 0) a)));
      set = λ i j h. (λ e. from_new (to_before i j h e), λ f. from_before i j h (to_new f));
    }

says_iff : {m : ℕ} {p q : ℕ → ℕ → Type 0} {r : List ℕ} → ((a b : ℕ) → p a b ↔ q a b) → Says m p r → Says m q r
says_iff e w = record {
  size = w.size;
  set = λ i j k. (λ h. before_map (λ a b. (e a b).0) ((w.set i j k).0 h), λ f. (w.set i j k).1 (before_map (λ a b. (e a b).1) f));
}

close_says : (m : ℕ) (q : ℕ → ℕ → Type 0) (lo : ℕ) (ps : List Pair) (r : List ℕ) → ((c d : ℕ) → q c d → c ≤ lo) → Up m lo ps → Says m q r
    → Says m (λ c d. q c d ⊎ PairOf ps c d) (pairs_put ps r)
unfolding pairs_put
close_says m q lo [] r low up w = says_iff (λ a b. (inl, back a b)) w
  where
    back : (a b : ℕ) → q a b ⊎ ⊥ → q a b
    back a b (inl h) = h
    back a b (inr h) = absurd h
close_says m q lo (p ∷ ps) r low up w =
    says_iff (λ c d. (to c d, from c d)) (close_says m (With q p.earlier p.later) p.earlier ps (pair_put r p.earlier p.later) low' up.3
    (says_join q p.earlier p.later up.1 (λ c d h. omega (arith, low c d h, up.0)) m r w up.2))
  where
    low' : (c d : ℕ) → With q p.earlier p.later c d → c ≤ p.earlier
    low' c d (inl h) = omega (arith, low c d h, up.0)
    low' c d (inr h) = omega (arith, h.0)

    to : (c d : ℕ) → (q c d ⊎ ((p.earlier ≡ c) × (p.later ≡ d))) ⊎ PairOf ps c d → q c d ⊎ (((p.earlier ≡ c) × (p.later ≡ d)) ⊎ PairOf ps c d)
    to c d (inl (inl h)) = inl h
    to c d (inl (inr h)) = inr (inl h)
    to c d (inr h) = inr (inr h)

    from : (c d : ℕ) → q c d ⊎ (((p.earlier ≡ c) × (p.later ≡ d)) ⊎ PairOf ps c d) → (q c d ⊎ ((p.earlier ≡ c) × (p.later ≡ d))) ⊎ PairOf ps c d
    from c d (inl h) = inl (inl h)
    from c d (inr (inl h)) = inl (inr h)
    from c d (inr (inr h)) = inr h

-- the pairs are put into a table of m empty sets, and maybe more
module _ (ps : List Pair) (m : ℕ) (r : List ℕ) (size : m ≤ length r) (clear : (j : ℕ) → j < m → get_or r j 0 ≡ 0) (up : Up m 0 ps) where
  closed : Says m (PairOf ps) (pairs_put ps r)
  closed = says_iff (λ a b. (back a b, inr)) (close_says m (λ c d. ⊥) 0 ps r (λ c d h. absurd h) up none)
    where
      back : (a b : ℕ) → ⊥ ⊎ PairOf ps a b → PairOf ps a b
      back a b (inl h) = absurd h
      back a b (inr h) = h

      nothing : {i j : ℕ} → Before (λ c d. ⊥) i j → ⊥
      nothing (one r) = r
      nothing (more f r) = r

      none : Says m (λ c d. ⊥) r
      none = record {
        size = size;
        set = λ i j k. (λ h. absurd (true≢false (sym (rw (clear j k) at h) ∙ bit_empty i)), λ f. absurd (nothing f));
      }

  pub closed_rows : (j : ℕ) → j < m → get_or (pairs_put ps r) j 0 ≡ get_or (predecessors ps m) j 0
  closed_rows j h = bit_ext (get_or (pairs_put ps r) j 0) (get_or (predecessors ps m) j 0) (λ i.
      let said = closed.set i j h in
      let told = rows_set ps (λ a b p. (pair_up m 0 ps up a b p).0) m j i h in
      both_ways _ _ (λ e. told.1 (said.0 e)) (λ e. said.1 (told.0 e)))

-- what stands after the m sets stays
pub close_past : (m lo : ℕ) (ps : List Pair) (r : List ℕ) → Up m lo ps → (k : ℕ) → m ≤ k → get_or (pairs_put ps r) k 0 ≡ get_or r k 0
unfolding pairs_put
close_past m lo [] r u k h = refl
close_past m lo (p ∷ ps) r u k h =
    close_past m p.earlier ps (pair_put r p.earlier p.later) u.3 k h
    ∙ get_or-set_other r p.later k (bit_or (get_or r p.later 0) (with_move (get_or r p.earlier 0) p.earlier)) 0
    (λ (e : k ≡ p.later). let l : p.later < m = u.2 in absurd (omega arith))

-- the length of the table stays
pub close_long : (ps : List Pair) (r : List ℕ) → length (pairs_put ps r) ≡ length r
unfolding pairs_put
close_long [] r = refl
close_long (p ∷ ps) r =
    close_long ps (pair_put r p.earlier p.later)
    ∙ length-set r p.later (bit_or (get_or r p.later 0) (with_move (get_or r p.earlier 0) p.earlier))
