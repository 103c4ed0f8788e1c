-- Freedom of order from the swap of two moves: where all moves of a log fire and no two that the pairs leave unordered touch, every order that keeps the
-- pairs does the same.
use mathlib.Core.Path.{◌≡◌, refl, sym, ap, subst, ◌∙◌}
use mathlib.Core.Logic.{inl, inr, ◌≢◌}
use mathlib.Core.List.{List, [], ◌∷◌, ◌++◌}
use mathlib.Core.Option.{Option, none, some}
use mathlib.Core.Bool.{Bool, true, false, ◌||◌, false≢true}
use Prim.Native.Nat.{ℕ}
use lib.Dec.{eqb}
use borrow.Author.Tests.{eqb-true, eq-eqb, ne_eqb}
use Rattle.text.specs.Words.{has}
use Rattle.order.specs.Orders.{Moves, Laws, value_after, Touch, after_act, step, run_in_order, Before, Keeps}
use Rattle.order.proofs.Order.{has_here, has_at, has_right, has_left, has_split, Upward, Up, upward_drop, upward_before, upward, left_same}

-- ---- what a move does in a run

module _ (S : Moves) where
  abbrev pub choose : Bool → Option S.Act → Option S.Act → Option S.Act
  choose true a b = a
  choose false a b = b

  -- what move i does in the run of these moves, in this order: none if it is refused, or is none of them
  abbrev pub act : S.Con → List ℕ → ℕ → Option S.Act
  act c [] i = none
  act c (j ∷ is) i = choose (eqb j i) (S.does j c) (act (step S c j) is i)

-- What the run of a log in the listed order has to show.
pub record Accepted (S : Moves) (start : S.Con) (log : List ℕ) (pair : ℕ → ℕ → Type 0) : Type 0 where
  pub good : S.Good start
  pub keeps : Keeps log pair log
  -- all moves of the log fire
  pub fires : (i : ℕ) → has log i ≡ true → (a : S.Act) × (act S start log i ≡ some a)
  -- no two moves that the pairs leave unordered touch
  pub apart : (i j : ℕ) (a b : S.Act) → i ≢ j → act S start log i ≡ some a → act S start log j ≡ some b
      → ¬ Before pair i j → ¬ Before pair j i → ¬ Touch S a b

-- What then holds of an order of the log's moves, compared with the listed order.
pub record Same (S : Moves) (start : S.Con) (log is : List ℕ) : Type 0 where
  -- each move does what it does in the listed order: it fires, with the same act
  pub acts : (i : ℕ) → act S start is i ≡ act S start log i
  -- the end is that of the listed order
  pub ends : run_in_order S start is ≡ run_in_order S start log
  -- the contents are good at the start and after each move
  pub good : (p q : List ℕ) → is ≡ p ++ q → S.Good (run_in_order S start p)

-- ---- a run in which each move does what f says

module _ (S : Moves) (f : ℕ → Option S.Act) where
  -- from contents c these moves, in this order, fire with these acts and end in contents d
  abbrev Runs : S.Con → List ℕ → S.Con → Type 0
  Runs c [] d = c ≡ d
  Runs c (i ∷ is) d = (a : S.Act) × (f i ≡ some a) × (S.does i c ≡ some a) × Runs (S.after c a) is d

  runs_end : (is : List ℕ) (c d : S.Con) → Runs c is d → run_in_order S c is ≡ d
  runs_end [] c d r = r
  runs_end (i ∷ is) c d r = rw r.2 (runs_end is (S.after c r.0) d r.3)

  runs_act : (is : List ℕ) (c d : S.Con) → Runs c is d → (i : ℕ) → has is i ≡ true → act S c is i ≡ f i
  runs_act [] c d r i h = absurd (false≢true h)
  runs_act (j ∷ is) c d r i h = rw r.2 (go (eqb j i) refl h (runs_act is (S.after c r.0) d r.3 i))
    where
      go : (b : Bool) → eqb j i ≡ b → (b || has is i) ≡ true → (has is i ≡ true → act S (S.after c r.0) is i ≡ f i)
          → choose S b (some r.0) (act S (S.after c r.0) is i) ≡ f i
      go true e h k = sym r.1 ∙ ap f (eqb-true j i e)
      go false e h k = k h

  runs_from : (pair : ℕ → ℕ → Type 0) (is : List ℕ) (c : S.Con) → Upward (Up pair) is
      → ((i : ℕ) → has is i ≡ true → (a : S.Act) × (act S c is i ≡ some a))
      → ((i : ℕ) → has is i ≡ true → f i ≡ act S c is i) → Runs c is (run_in_order S c is)
  runs_from pair [] c u fires g = refl
  runs_from pair (i ∷ is) c u fires g = (
    (fires i (has_here i is)).0,
    g i (has_here i is) ∙ (fires i (has_here i is)).1,
    first,
    subst (λ (x : S.Con). Runs x is (run_in_order S (step S c i) is)) (ap (λ o. after_act S c o) first)
        (runs_from pair is (step S c i) u.1
        (λ j h. ((fires j (has_right (i ∷ []) is j h)).0, sym (rest j h) ∙ (fires j (has_right (i ∷ []) is j h)).1))
        (λ j h. g j (has_right (i ∷ []) is j h) ∙ rest j h)),
  )
    where
      first : S.does i c ≡ some (fires i (has_here i is)).0
      first = rw (eq-eqb i i refl) at (fires i (has_here i is)).1

      rest : (j : ℕ) → has is j ≡ true → act S c (i ∷ is) j ≡ act S (step S c i) is j
      rest j h = rw (ne_eqb i j (u.0 j h).0)

pub act_none : (S : Moves) (is : List ℕ) (c : S.Con) (i : ℕ) → has is i ≡ false → act S c is i ≡ none
act_none S [] c i h = refl
act_none S (j ∷ is) c i h = go (eqb j i) h (act_none S is (step S c j) i)
  where
    go : (b : Bool) → (b || has is i) ≡ false → (has is i ≡ false → act S (step S c j) is i ≡ none) → choose S b (S.does j c) (act S (step S c j) is i) ≡ none
    go true h k = absurd (false≢true (sym h))
    go false h k = k h

-- what a move does in a run is what it does on the contents that the moves before it leave
act_turn : (S : Moves) (c : S.Con) (p : List ℕ) (i : ℕ) (q : List ℕ) → has p i ≡ false → act S c (p ++ i ∷ q) i ≡ S.does i (run_in_order S c p)
act_turn S c [] i q h = rw (eq-eqb i i refl)
act_turn S c (j ∷ p) i q h = go (eqb j i) h (act_turn S (step S c j) p i q)
  where
    go : (b : Bool) → (b || has p i) ≡ false → (has p i ≡ false → act S (step S c j) (p ++ i ∷ q) i ≡ S.does i (run_in_order S (step S c j) p))
        → choose S b (S.does j c) (act S (step S c j) (p ++ i ∷ q) i) ≡ S.does i (run_in_order S (step S c j) p)
    go true h k = absurd (false≢true (sym h))
    go false h k = k h

-- ---- swaps

module _ (S : Moves) (law : Laws S) where
  -- two acts that do not touch leave the same contents in either order
  commute : (i j : ℕ) (c : S.Con) (a b : S.Act) → S.Good c → S.does i c ≡ some a → S.does j (S.after c a) ≡ some b → ¬ Touch S a b
      → S.after (S.after c a) b ≡ S.after (S.after c b) a
  commute i j c a b g da db n =
      let s = law.swap i j c a b g da db n in
      let ga = law.keep i c a g da in
      let gb = law.keep j c b g s.0 in
      law.ext (S.after (S.after c a) b) (S.after (S.after c b) a) (law.keep j (S.after c a) b ga db) (law.keep i (S.after c b) a gb s.1)
      (λ l. rw (law.frame j (S.after c a) b l ga db, law.frame i (S.after c b) a l gb s.1, law.frame i c a l g da, law.frame j c b l g s.0)
      (go l (S.gives a l) (S.gives b l) refl refl))
    where
      go : (l : ℕ) (x y : Option ℕ) → S.gives a l ≡ x → S.gives b l ≡ y → value_after y (value_after x (S.at c l)) ≡ value_after x (value_after y (S.at c l))
      go l none none ex ey = refl
      go l none (some w) ex ey = refl
      go l (some v) none ex ey = refl
      go l (some v) (some w) ex ey = absurd (n (l, inl ((v, ex), inr (w, ey))))

  module _ (f : ℕ → Option S.Act) where
    abbrev Apart : ℕ → ℕ → Type 0
    Apart i j = (a b : S.Act) → f i ≡ some a → f j ≡ some b → ¬ Touch S a b

    -- a move that touches none of those before it may come first
    bring : (p : List ℕ) (i : ℕ) (q : List ℕ) (c d : S.Con) → S.Good c → ((j : ℕ) → has p j ≡ true → Apart j i)
        → Runs S f c (p ++ i ∷ q) d → Runs S f c (i ∷ (p ++ q)) d
    bring [] i q c d g n r = r
    bring (j ∷ p) i q c d g n (a, fa, da, r) =
        let t = bring p i q (S.after c a) d (law.keep j c a g da) (λ k h. n k (has_right (j ∷ []) p k h)) r in
        let m = n j (has_here j p) a t.0 fa t.1 in
        let s = law.swap j i c a t.0 g da t.2 m in
        (t.0, t.1, s.0, (a, fa, s.1, subst (λ (x : S.Con). Runs S f x (p ++ q) d) (commute j i c a t.0 g da t.2 m) t.3))

    -- all orders of the same moves, in which no move stands before one that must come first, run alike
    reorder : (pair : ℕ → ℕ → Type 0) → ((i j : ℕ) → i ≢ j → ¬ Before pair i j → ¬ Before pair j i → Apart i j)
        → (is log : List ℕ) (c d : S.Con) → S.Good c → Upward (Up pair) is → Upward (Up pair) log → ((k : ℕ) → has is k ≡ has log k)
        → Runs S f c log d → Runs S f c is d
    reorder pair n [] [] c d g ui ul e r = r
    reorder pair n [] (j ∷ log) c d g ui ul e r = absurd (false≢true (e j ∙ has_here j log))
    reorder pair n (i ∷ is) log c d g ui ul e r = go (has_split log i (sym (e i) ∙ has_here i is)) (λ t. reorder pair n is t)
      where
        go : ((p : List ℕ) × (q : List ℕ) × (log ≡ p ++ i ∷ q))
            → ((t : List ℕ) (c d : S.Con) → S.Good c → Upward (Up pair) is → Upward (Up pair) t → ((k : ℕ) → has is k ≡ has t k) → Runs S f c t d → Runs S f c is d)
            → Runs S f c (i ∷ is) d
        go (p, q, s) next =
            let u : Upward (Up pair) (p ++ i ∷ q) = rw s at ul in
            let h : (k : ℕ) → has (i ∷ is) k ≡ has (p ++ i ∷ q) k = rw s at e in
            let same = left_same pair p i q is u ui h in
            let free : (j : ℕ) → has p j ≡ true → Apart j i = λ j x.
            n j i (upward_before (Up pair) p i q u j x).0 (ui.0 j (same j ∙ has_left p q j x)).1 (upward_before (Up pair) p i q u j x).1 in
            let b = bring p i q c d g free (rw s at r) in
            (b.0, b.1, b.2, next (p ++ q) (S.after c b.0) d (law.keep i c b.0 g b.2) ui.1 (upward_drop (Up pair) p i q u) same b.3)

    runs_good : (p q : List ℕ) (c d : S.Con) → S.Good c → Runs S f c (p ++ q) d → S.Good (run_in_order S c p)
    runs_good [] q c d g r = g
    runs_good (i ∷ p) q c d g (a, fa, da, r) = rw da (runs_good p q (S.after c a) d (law.keep i c a g da) r)

-- ---- the theorem

module _ (S : Moves) (law : Laws S) (start : S.Con) (log : List ℕ) (pair : ℕ → ℕ → Type 0) (acc : Accepted S start log pair) where
  ordered : (is : List ℕ) → Keeps log pair is → Runs S (act S start log) start is (run_in_order S start log)
  ordered is k = reorder S law (act S start log) pair (λ i j n x y a b ea eb. acc.apart i j a b n ea eb x y) is log start (run_in_order S start log)
      acc.good (upward k) (upward acc.keeps) k.all
      (runs_from S (act S start log) pair log start (upward acc.keeps) acc.fires (λ i h. refl))

  -- Every order that keeps the pairs does the same as the listed one.
  pub free : (is : List ℕ) → Keeps log pair is → Same S start log is
  free is k = record {
    acts = λ i. go i (has is i) refl;
    ends = runs_end S (act S start log) is start (run_in_order S start log) (ordered is k);
    good = λ p q e. runs_good S law (act S start log) p q start (run_in_order S start log) acc.good (rw e at (ordered is k));
  }
    where
      go : (i : ℕ) (b : Bool) → has is i ≡ b → act S start is i ≡ act S start log i
      go i true h = runs_act S (act S start log) is start (run_in_order S start log) (ordered is k) i h
      go i false h = act_none S is start i h ∙ sym (act_none S log start i (sym (k.all i) ∙ h))

  -- In every order that keeps the pairs no move is refused, and each does what it does in the listed run.
  pub in_turn : (is : List ℕ) → Keeps log pair is → (p : List ℕ) (i : ℕ) (q : List ℕ) → is ≡ p ++ i ∷ q
      → (a : S.Act) × (S.does i (run_in_order S start p) ≡ some a) × (act S start log i ≡ some a)
  in_turn is k p i q e =
      let f = acc.fires i (sym (k.all i) ∙ rw e (has_at p i q)) in
      (f.0, sym (act_turn S start p i q (k.once p i q e)) ∙ (ap (λ (x : List ℕ). act S start x i) (sym e) ∙ (free is k).acts i) ∙ f.1, f.1)
