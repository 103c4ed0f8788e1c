-- The labels that firing counts are those that the move's instructions issue and return.
use Rattle.std.specs.Prelude.{if◌then◌else◌}
use mathlib.Core.Path.{◌≡◌, refl, sym, ap, ap₂, ◌∙◌}
use mathlib.Core.Logic.{inl, inr, dite, ◌≢◌}
use mathlib.Core.Bool.{Bool, true, false, not, ◌&&◌, and-false, or-true}
use mathlib.Core.List.{List, [], ◌∷◌}
use Prim.Native.Nat.{ℕ, ◌+◌, ◌≤◌, ◌<◌}
use native.Mathlib.Omega.{arith}
use native.Mathlib.Decide.{ℕ_discrete}
use lib.Dec.{eqb, ltb}
use lib.ListN.{length, get_or, set, length-set}
use lib.Seq.{get_or-set_same, get_or-set_other}
use borrow.Author.Tests.{ltb-true, lt-ltb, eq-eqb, ne_eqb}
use Rattle.text.specs.Words.{one_if, has}
use Rattle.text.proofs.Words.{or_no}
use Rattle.book.specs.Book.{Program, L, true_element, false_element, place}
use Rattle.book.specs.Sound.{Lawful, Sound}
use Rattle.book.proofs.Places.{roll_inside, default_low}
use Rattle.engine.specs.declared.Instruction.{Instruction}
use Rattle.engine.specs.declared.Instruction.TheVariants.{Update, Release}
use Rattle.engine.specs.Labels.{issued, returned, tally_of, move_tally, count_below, in_reserve}
use Rattle.engine.specs.Move.{Input, Fired, fires, move, released}
use Rattle.engine.proofs.Counts.{count_same, count_none, count_point}
use Rattle.engine.proofs.Labels.{distinct_count, fired_issues, fired_releases}
use Rattle.engine.proofs.Values.{Sets}
use Rattle.engine_instruction.specs.Given.{any, own, gets}
use Rattle.engine_release.specs.Steps.{all_cleared}
use Rattle.engine_fire.specs.Steps.{returns_at, put_issued, put_returned, fire_tally}
use Rattle.engine_fire.proofs.Fires.{rest, instruction_clears, length_clears, all_cleared_at}
use Rattle.engine_fire.proofs.Taken.{clear_is}

-- updates at Reserve's locations set them to false
put_issued_is : (B : Program) (is : List Instruction) → ((l v : ℕ) → Sets l v is → l < B.E → v ≡ false_element) → put_issued B.E is ≡ issued B is
unfolding put_issued issued
put_issued_is B [] h = refl
put_issued_is B (Update l v ∷ is) h = ap₂ (λ (x y : ℕ). x + y) (go (ltb l B.E) refl) (put_issued_is B is (λ k w s. h k w (inr s)))
  where
    go : (b : Bool) → ltb l B.E ≡ b → one_if (b && not (eqb v true_element)) ≡ one_if b
    go true e = rw (h l v (inl (refl, refl)) (ltb-true l B.E e))
    go false e = refl
put_issued_is B (Release x ∷ is) h = ap₂ (λ (x y : ℕ). x + y) (ap one_if (and-false (ltb x B.E))) (put_issued_is B is h)

-- ---- labels returned

-- the contents c with the instruction's own value put; n is how many locations the book has
abbrev put : ℕ → Instruction → List ℕ → List ℕ
put n i c = if ltb (own i) n then set c (own i) (gets i) else c

length_put : (n : ℕ) (i : Instruction) (c : List ℕ) → length (put n i c) ≡ length c
length_put n i c = go (ltb (own i) n)
  where
    go : (b : Bool) → length (if b then set c (own i) (gets i) else c) ≡ length c
    go true = length-set c (own i) (gets i)
    go false = refl

put_other : (n : ℕ) (i : Instruction) (c : List ℕ) (x : ℕ) → x ≢ own i → get_or (put n i c) x 0 ≡ get_or c x 0
put_other n i c x d = go (ltb (own i) n)
  where
    go : (b : Bool) → get_or (if b then set c (own i) (gets i) else c) x 0 ≡ get_or c x 0
    go true = get_or-set_other c (own i) x (gets i) 0 d
    go false = refl

-- x is released, and not yet on the roll in the contents c
abbrev newly : List Instruction → List ℕ → ℕ → Bool
newly is c x = has (released is) x && not (in_reserve c x)

module _ (E n : ℕ) (fits : E ≤ n) where
  update_returns : (l v : ℕ) (is : List Instruction) (c : List ℕ) → (l < E → (v ≡ false_element) × (has (released is) l ≡ false))
      → one_if (returns_at E l v (get_or c l 0)) + count_below (newly is (put n (Update l v) c)) E ≡ count_below (newly is c) E
  update_returns l v is c h =
      omega (arith, none (ltb l E) refl, count_same (newly is (put n (Update l v) c)) (newly is c) E (λ x k. dite (ℕ_discrete x l) (same x k) (other x)))
    where
      none : (b : Bool) → ltb l E ≡ b → one_if (b && (eqb v true_element && not (in_reserve c l))) ≡ 0
      none true e = rw (h (ltb-true l E e)).0
      none false e = refl

      same : (x : ℕ) → x < E → x ≡ l → newly is (put n (Update l v) c) x ≡ newly is c x
      same x k e = let z : has (released is) x ≡ false = ap (has (released is)) e ∙ (h (omega (arith, k, e))).1 in rw z

      other : (x : ℕ) → x ≢ l → newly is (put n (Update l v) c) x ≡ newly is c x
      other x d = rw (put_other n (Update l v) c x d)

  release_returns : (y : ℕ) (is : List Instruction) (c : List ℕ) → y < E → E ≤ length c
      → one_if (returns_at E y true_element (get_or c y 0)) + count_below (newly is (put n (Release y) c)) E ≡ count_below (newly (Release y ∷ is) c) E
  unfolding released
  release_returns y is c h long =
      ap (λ (k : ℕ). k + count_below (newly is (put n (Release y) c)) E) first
      ∙ sym (count_point (newly (Release y ∷ is) c) (newly is (put n (Release y) c)) E y h (λ x k d. rw (ne_eqb y x (λ e. d (sym e)), put_other n (Release y) c x d)) now)
    where
      first : one_if (returns_at E y true_element (get_or c y 0)) ≡ one_if (newly (Release y ∷ is) c y)
      first = rw (lt-ltb y E h, eq-eqb y y refl)

      stored : get_or (put n (Release y) c) y 0 ≡ true_element
      stored = rw (lt-ltb y n (omega arith)) (get_or-set_same c y true_element 0 (omega arith))

      now : newly is (put n (Release y) c) y ≡ false
      now = rw stored (and-false (has (released is) y))

  -- what is counted as labels are put is how many labels are released that were not on the roll
  put_returned_is : (is : List Instruction) (c : List ℕ) → E ≤ length c
      → ((l v : ℕ) → Sets l v is → l < E → (v ≡ false_element) × (has (released is) l ≡ false)) → ((x : ℕ) → has (released is) x ≡ true → x < E)
      → put_returned E n is c ≡ count_below (newly is c) E
  unfolding put_returned released
  put_returned_is [] c h u r = sym (count_none (newly [] c) E (λ x k. refl))
  put_returned_is (Update l v ∷ is) c h u r =
      ap (λ (k : ℕ). one_if (returns_at E l v (get_or c l 0)) + k)
      (put_returned_is is (put n (Update l v) c) (omega (arith, length_put n (Update l v) c)) (λ k w s. u k w (inr s)) r)
      ∙ update_returns l v is c (u l v (inl (refl, refl)))
  put_returned_is (Release y ∷ is) c h u r =
      ap (λ (k : ℕ). one_if (returns_at E y true_element (get_or c y 0)) + k)
      (put_returned_is is (put n (Release y) c) (omega (arith, length_put n (Release y) c))
      (λ k w s b. ((u k w s b).0, (or_no (eqb y k) (has (released is) k) (u k w s b).1).1)) (λ x e. r x (rw e (or-true (eqb y x)))))
      ∙ release_returns y is c (r y (rw (eq-eqb y y refl))) h

-- ---- the tally of a move that fires

pub fire_tally_is : (B : Program) → Lawful B → (c : List ℕ) → Sound B c → (i : Input) (f : Fired) → move B c i ≡ fires f
    → fire_tally B f.instructions c ≡ move_tally B f
unfolding returned
fire_tally_is B ok c sound i f e =
    ap₂ tally_of (put_issued_is B is (λ l v s h. (issues l v s h).0))
    (put_returned_is B.E (L B) (roll_inside B ok) is (all_cleared B is c) (omega (arith, length_clears B is c, sound.long, roll_inside B ok)) issues low
    ∙ count_same (newly is (all_cleared B is c)) (has (released is)) B.E (λ x k. go x k (has (released is) x) refl)
    ∙ sym (distinct_count B.E (released is) low))
  where
    is : List Instruction
    is = f.instructions

    issues : (l v : ℕ) → Sets l v is → l < B.E → (v ≡ false_element) × (has (released is) l ≡ false)
    issues = fired_issues B ok c sound i f e

    low : (x : ℕ) → has (released is) x ≡ true → x < B.E
    low x h = (fired_releases B ok c sound i f e x h).1

    -- a label that is released is not on the roll, and clearing does not put it there
    off : (x : ℕ) → x < B.E → has (released is) x ≡ true → get_or (all_cleared B is c) x 0 ≢ true_element
    off x k h q = by (any (instruction_clears B x (get_or c x 0)) is) (sym (all_cleared_at B is c x (omega (arith, sound.long, roll_inside B ok)) ∙ clear_is B x is (get_or c x 0)) ∙ q)
      where
        by : (b : Bool) → (if b then rest B x else get_or c x 0) ≡ true_element → ⊥
        by true z = omega (arith, default_low (place B x).function, z)
        by false z = (fired_releases B ok c sound i f e x h).2 z

    go : (x : ℕ) → x < B.E → (b : Bool) → has (released is) x ≡ b → (b && not (in_reserve (all_cleared B is c) x)) ≡ b
    go x k true h = rw (ne_eqb (get_or (all_cleared B is c) x 0) true_element (off x k h))
    go x k false h = refl
