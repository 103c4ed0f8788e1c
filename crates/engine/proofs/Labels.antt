-- The label tally of a move: which labels its instructions issue and return, how many, and what that leaves on the roll.
use mathlib.Core.Path.{◌≡◌, refl, sym, ap, ◌∙◌}
use mathlib.Core.Logic.{◌≢◌}
use mathlib.Core.Bool.{Bool, true, false, not, ◌||◌, ◌&&◌, and-true, and-false, or-true}
use mathlib.Core.List.{List, [], ◌∷◌}
use Prim.Native.Nat.{ℕ, ◌+◌, ◌≤◌, ◌<◌}
use native.Mathlib.Omega.{arith}
use lib.Dec.{eqb, ltb}
use lib.ListN.{length}
use borrow.Author.Tests.{eqb-true, eq-eqb, ne_eqb, lt-ltb, le-ltb}
use Rattle.text.specs.Words.{one_if, has}
use Rattle.text.proofs.Words.{refuted}
use Rattle.book.specs.Book.{Program, true_element, false_element}
use Rattle.book.specs.Sound.{Lawful, at, Sound}
use Rattle.engine.specs.declared.Instruction.{Instruction}
use Rattle.engine.specs.declared.Instruction.TheVariants.{Update, Release}
use Rattle.engine.specs.Move.{Input, Fired, fires, released, move, fire}
use Rattle.engine.specs.Claims.{RollAfter}
use Rattle.engine.specs.Labels.{issues, issued, distinct, returned, move_tally, count_below, in_reserve, roll_count, labels_leaving}
use Rattle.engine.proofs.Counts.{one_few, count_same, count_upto, count_none, count_point, count_balance}
use Rattle.engine.proofs.Values.{Sets, has_releases}
use Rattle.engine.proofs.Walks.{Made, sets_fine, releases_fine}
use Rattle.engine.proofs.Moves.{firing, walked_made, fired_returns, fired_sets, fired_roll}

-- ---- an instruction issues or returns at most one label

pub issued_few : (B : Program) (is : List Instruction) → issued B is ≤ length is
unfolding issued
issued_few B [] = omega arith
issued_few B (i ∷ is) = omega (arith, one_few (issues B i), issued_few B is)

pub returned_few : (is : List Instruction) → returned is ≤ length is
unfolding returned distinct released
returned_few [] = omega arith
returned_few (Update l v ∷ is) = omega (arith, returned_few is)
returned_few (Release x ∷ is) = omega (arith, one_few (not (has (released is) x)), returned_few is)

-- ---- how many different numbers a list has

-- numbers below n, counted by place
pub distinct_count : (n : ℕ) (xs : List ℕ) → ((x : ℕ) → has xs x ≡ true → x < n) → distinct xs ≡ count_below (has xs) n
unfolding distinct
distinct_count n [] h = sym (count_none (has []) n (λ x k. refl))
distinct_count n (x ∷ xs) h = ap (λ (k : ℕ). one_if (not (has xs x)) + k) (distinct_count n xs (λ y k. h y (rw k (or-true (eqb x y))))) ∙ go (has xs x) refl
  where
    self : has (x ∷ xs) x ≡ true
    self = rw (eq-eqb x x refl)

    go : (b : Bool) → has xs x ≡ b → one_if (not (has xs x)) + count_below (has xs) n ≡ count_below (has (x ∷ xs)) n
    go true e =
        let p = count_same (has xs) (has (x ∷ xs)) n (λ y k. same y (eqb x y) refl) in
        omega (arith, p, ap (λ (b : Bool). one_if (not b)) e)
      where
        same : (y : ℕ) (b : Bool) → eqb x y ≡ b → has xs y ≡ (b || has xs y)
        same y true q = rw (← eqb-true x y q) e
        same y false q = refl
    go false e =
        let p = count_point (has (x ∷ xs)) (has xs) n x (h x self) (λ y k d. rw (ne_eqb x y (λ q. d (sym q)))) e in
        omega (arith, p, ap one_if self, ap (λ (b : Bool). one_if (not b)) e)

-- two rolls differ by the labels that are on one of them alone
rolls_balance : (B : Program) (c d : List ℕ) → roll_count B d + labels_leaving B c d ≡ roll_count B c + labels_leaving B d c
unfolding roll_count labels_leaving
rolls_balance B c d =
    count_balance (in_reserve d) (λ x. in_reserve c x && not (in_reserve d x)) (in_reserve c) (λ x. in_reserve d x && not (in_reserve c x)) B.E
    (λ x h. go (in_reserve c x) (in_reserve d x))
  where
    go : (a b : Bool) → one_if b + one_if (a && not b) ≡ one_if a + one_if (b && not a)
    go true true = refl
    go true false = refl
    go false true = refl
    go false false = refl

-- ---- a move that fires

module _ (B : Program) (ok : Lawful B) (c : List ℕ) (sound : Sound B c) (i : Input) (f : Fired) (moves : move B c i ≡ fires f) where
  made : Made B c (firing B c i f moves).walk
  made = let s = firing B c i f moves in walked_made B ok c sound i s.walk s.went

  given : (firing B c i f moves).walk.made ≡ f.instructions
  given = ap (λ (g : Fired). g.instructions) (firing B c i f moves).gave

  -- an update of Reserve takes a label off the roll, and the move does not release that label
  pub fired_issues : (l v : ℕ) → Sets l v f.instructions → l < B.E → (v ≡ false_element) × (has (released f.instructions) l ≡ false)
  fired_issues l v t h =
      let w = (firing B c i f moves).walk in
      let e = (sets_fine B c w.next w.made l v made.all (rw (← given) at t)).4 h in (
        e,
        refuted (has (released f.instructions) l)
            (λ r. omega (arith, fired_sets B ok c sound i f moves l v t, (fired_returns B ok c sound i f moves l r).1)),
      )

  -- what a move releases is a label that is not on the roll
  pub fired_releases : (x : ℕ) → has (released f.instructions) x ≡ true → (B.P ≤ x) × (x < B.E) × (at c x ≢ true_element)
  fired_releases x r =
      let w = (firing B c i f moves).walk in
      releases_fine B c w.next w.made x made.all (has_releases w.made x (rw (← given) at r))

  -- the labels issued are those on the roll that the walk passed
  taken : ℕ → Bool
  taken x = in_reserve c x && ltb x (firing B c i f moves).walk.next

  issued_count : issued B f.instructions ≡ count_below taken B.E
  unfolding taken
  issued_count =
      let n = (firing B c i f moves).walk.next in
      sym (ap (issued B) given) ∙ made.many
      ∙ count_same (in_reserve c) taken n (λ x h. rw (lt-ltb x n h) (sym (and-true (in_reserve c x))))
      ∙ sym (count_upto taken n B.E made.upto (λ x a b. rw (le-ltb x n a) (and-false (in_reserve c x))))

  -- a label is issued if it is on the roll before the move and not after it, and returned if it is on the roll after the move and not before
  turned : (x : ℕ) → x < B.E
      → (taken x ≡ (in_reserve c x && not (in_reserve (fire f.updates c) x)))
      × (has (released f.instructions) x ≡ (in_reserve (fire f.updates c) x && not (in_reserve c x)))
  unfolding taken
  turned x h =
      rw (fired_roll B ok c sound i f moves x h)
      (go (has (released f.instructions) x) (in_reserve c x) (ltb x (firing B c i f moves).walk.next)
      (λ r b. (fired_releases x r).2 (eqb-true (at c x) true_element b)))
    where
      go : (r b t : Bool) → (r ≡ true → b ≡ true → ⊥) → ((b && t) ≡ (b && not (r || (b && not t)))) × (r ≡ ((r || (b && not t)) && not b))
      go true true t k = absurd (k refl refl)
      go true false t k = (refl, refl)
      go false true true k = (refl, refl)
      go false true false k = (refl, refl)
      go false false t k = (refl, refl)

  issued_left : (move_tally B f).issued ≡ labels_leaving B c (fire f.updates c)
  unfolding labels_leaving
  issued_left = issued_count ∙ count_same taken (λ x. in_reserve c x && not (in_reserve (fire f.updates c) x)) B.E (λ x h. (turned x h).0)

  returned_left : (move_tally B f).returned ≡ labels_leaving B (fire f.updates c) c
  unfolding labels_leaving returned
  returned_left =
      distinct_count B.E (released f.instructions) (λ x h. (fired_releases x h).1)
      ∙ count_same (has (released f.instructions)) (λ x. in_reserve (fire f.updates c) x && not (in_reserve c x)) B.E (λ x h. (turned x h).1)

  -- the tally of the move says what becomes of the roll
  pub fired_tally : RollAfter B c f
  fired_tally = record {
    issued = issued_left;
    returned = returned_left;
    balance = omega (arith, rolls_balance B c (fire f.updates c), issued_left, returned_left);
  }
