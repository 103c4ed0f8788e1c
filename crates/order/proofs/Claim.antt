-- Demand 3, freedom of order, holds.
use mathlib.Core.Path.{◌≡◌, refl, sym, ap, ap₂, subst, ◌∙◌}
use mathlib.Core.Logic.{◌↔◌, ◌⊎◌, inl, inr}
use mathlib.Core.Bool.{Bool, true, false, not, true≢false}
use mathlib.Core.List.{List}
use Prim.Native.Nat.{ℕ, ◌≤◌, ◌<◌}
use native.Mathlib.Omega.{arith}
use lib.ListN.{length}
use Rattle.text.specs.Words.{Checked, good, refused}
use Rattle.text.proofs.Words.{and_cases, bind_good, then_good, good_same}
use Rattle.book.specs.Book.{Program, Book, L, start}
use Rattle.book.specs.Check.{check_book}
use Rattle.book.specs.Sound.{Lawful, Sound}
use Rattle.book.proofs.Claims.{accepted_book}
use Rattle.engine.specs.Move.{Fired, move}
use Rattle.engine.specs.Single.{over_first}
use Rattle.engine.proofs.Moves.{fired_length}
use Rattle.order.specs.Pairs.{predecessors, ordered_by, PairFound, no_pair, a_pair, least_pair}
use Rattle.order.specs.declared.Lengths.{Lengths}
use Rattle.order.specs.Log.{Log, move_at, check_log}
use Rattle.order.specs.Run.{Run, RunOutcome, ran, halted, run, touch, fired_at, unordered_touching, LogAnswer, order_checked, run_answer, run_from, run_log}
use Rattle.order.specs.Call.{lengths, check_lent, check_all, left_past, log_answer, log_call}
use Rattle.order.specs.Orders.{Moves, listed, one, more, from, Keeps, Agrees, LeastPair}
use Rattle.order.specs.Demand.{PairOf, moves_of, count, OrderedByPairs, Does, AllFire, UnorderedTouch, Passes, Demand3}
use Rattle.order.proofs.Listed.{agrees}
use Rattle.order.proofs.Predecessors.{rows_set}
use Rattle.order.proofs.Pairs.{Passing, two_none, two_least}
use Rattle.order.proofs.Marks.{Left, run_left, run_through, halted_number}
use Rattle.order.proofs.Log.{Passed, passed}
use Rattle.order.proofs.Numbers.{Early, on, off, all_early}
use Rattle.order.proofs.Swap.{act_fires, laws}
use Rattle.order.proofs.Touching.{touch_iff}
use Rattle.engine.specs.Tables.{Tables}

-- the answer is refusal 17, at the place (i, j)
abbrev Is17 : LogAnswer → ℕ → ℕ → Type 0
Is17 a i j = (a.answer.number ≡ 17) × (a.answer.p ≡ i) × (a.answer.q ≡ j)

-- a log's run from the contents c
module _ (B : Program) (g : Log) (c : List ℕ) where
  abbrev S : Moves
  S = moves_of B g

  abbrev m : ℕ
  m = count g

  -- ---- an accepted log

  module _ (lawful : Lawful B) (sound : Sound B c) (ok : Passed (length B.agents) B.E g) where
    up : (a b : ℕ) → PairOf g.pairs a b → a < b
    up a b p = (ok.up a b p).0

    before_up : {a b : ℕ} → OrderedByPairs g a b → a < b
    before_up (one {a} {b} p) = up a b p
    before_up (more {a} {b} {c} f p) = omega (arith, before_up f, up b c p)

    -- the test of refusal 17
    abbrev test : Run → ℕ → ℕ → Bool
    test s = unordered_touching (predecessors g.pairs m) (L B) s.fired

    module _ (s : Run) (k : Left B g c m s) where
      all_fire : AllFire B g c m
      all_fire i h = (fired_at s.fired i, k.fired i h)

      -- the move i that a run has is what it does in the listed order
      is_act : (i : ℕ) (f : Fired) → i < m → Does B g c i f → fired_at s.fired i ≡ f
      is_act i f h e = let q = k.fired i h in cc

      long : (i : ℕ) → i < m → length (fired_at s.fired i).updates ≡ L B
      long i h =
          let d = listed S c i in
          let f = fired_at s.fired i in
          fired_length B d (move_at g i) f (act_fires (move B d (move_at g i)) f (k.fired i h))

      unordered_iff : (i j : ℕ) → j < m → (not (ordered_by (predecessors g.pairs m) i j) ≡ true) ↔ ¬ OrderedByPairs g i j
      unordered_iff i j h = (λ e f. true≢false (sym e ∙ rw (r.1 f)), λ n. go (ordered_by (predecessors g.pairs m) i j) refl n)
        where
          r : (ordered_by (predecessors g.pairs m) i j ≡ true) ↔ OrderedByPairs g i j
          r = rows_set g.pairs up m j i h

          go : (b : Bool) → ordered_by (predecessors g.pairs m) i j ≡ b → ¬ OrderedByPairs g i j → not b ≡ true
          go true e n = absurd (n (r.0 e))
          go false e n = refl

      unordered_touch_iff : (i j : ℕ) → Passing (test s) m i j ↔ UnorderedTouch B g c i j
      unordered_touch_iff i j = (to, from)
        where
          to : Passing (test s) m i j → UnorderedTouch B g c i j
          to (a, b, e) =
              let h : i < m = omega arith in
              let x = fired_at s.fired i in
              let y = fired_at s.fired j in
              let p = and_cases (not (ordered_by (predecessors g.pairs m) i j)) (touch (L B) x y) e in
              (a, b, (unordered_iff i j b).0 p.0, (λ f. omega (arith, before_up f)), (x, y, k.fired i h, k.fired j b, (touch_iff B g (L B) x y (long i h) (long j b)).0 p.1))

          from : UnorderedTouch B g c i j → Passing (test s) m i j
          from (a, b, n, o, (x, y, dx, dy, t)) =
              let h : i < m = omega arith in
              let p = is_act i x h dx in
              let q = is_act j y b dy in
              let u = (touch_iff B g (L B) (fired_at s.fired i) (fired_at s.fired j) (long i h) (long j b)).1 (rw (p, q) t) in
              (a, b, rw ((unordered_iff i j b).1 n, u))

      least_iff : (i j : ℕ) → LeastPair (Passing (test s) m) i j ↔ LeastPair (UnorderedTouch B g c) i j
      least_iff i j = (
        λ p. record { holds = (unordered_touch_iff i j).0 p.holds; least = λ a b t. p.least a b ((unordered_touch_iff a b).1 t) },
        λ p. record { holds = (unordered_touch_iff i j).1 p.holds; least = λ a b t. p.least a b ((unordered_touch_iff a b).0 t) },
      )

    -- ---- what the run answers

    abbrev found : Run → PairFound
    found s = least_pair (test s) m

    accepted_to : (run_from B g c).answer.number ≡ 0
        → AllFire B g c m × ((i j : ℕ) → ¬ UnorderedTouch B g c i j) × ((run_from B g c).contents ≡ listed S c m)
    unfolding run_from run_answer
    accepted_to e = go (run B g c m) refl e
      where
        on_two : (s : Run) → run B g c m ≡ ran s → (o : PairFound) → found s ≡ o → (order_checked B s o).answer.number ≡ 0
            → AllFire B g c m × ((i j : ℕ) → ¬ UnorderedTouch B g c i j) × ((order_checked B s o).contents ≡ listed S c m)
        on_two s q (a_pair a b) p f = absurd (omega arith)
        on_two s q no_pair p f =
            let k = run_left B g c m s q in
            (all_fire s k, (λ i j t. (two_none (test s) m).0 p i j ((unordered_touch_iff s k i j).1 t)), k.contents)

        go : (o : RunOutcome) → run B g c m ≡ o → (run_answer B g o).answer.number ≡ 0
            → AllFire B g c m × ((i j : ℕ) → ¬ UnorderedTouch B g c i j) × ((run_answer B g o).contents ≡ listed S c m)
        go (halted a b d s) q f = absurd (omega (arith, (halted_number B g c m a b d s q).0))
        go (ran s) q f = on_two s q (found s) refl f

    accepted_from : AllFire B g c m → ((i j : ℕ) → ¬ UnorderedTouch B g c i j) → (run_from B g c).answer.number ≡ 0
    unfolding run_from run_answer
    accepted_from f n =
        let t = run_through B g c m f in
        let k = run_left B g c m t.0 t.1 in
        rw (t.1, (two_none (test t.0) m).1 (λ i j p. n i j ((unordered_touch_iff t.0 k i j).0 p)))

    refused_to : (i j : ℕ) → Is17 (run_from B g c) i j → AllFire B g c m × LeastPair (UnorderedTouch B g c) i j
    unfolding run_from run_answer
    refused_to i j e = go (run B g c m) refl e
      where
        on_two : (s : Run) → run B g c m ≡ ran s → (o : PairFound) → found s ≡ o → Is17 (order_checked B s o) i j
            → AllFire B g c m × LeastPair (UnorderedTouch B g c) i j
        on_two s q no_pair p f = absurd (omega (arith, f.0))
        on_two s q (a_pair a b) p f =
            let k = run_left B g c m s q in
            (all_fire s k, (least_iff s k i j).0 ((two_least (test s) m i j).0 (p ∙ ap₂ a_pair f.1 f.2)))

        go : (o : RunOutcome) → run B g c m ≡ o → Is17 (run_answer B g o) i j → AllFire B g c m × LeastPair (UnorderedTouch B g c) i j
        go (halted a b d s) q f = absurd ((halted_number B g c m a b d s q).0.3 f.0)
        go (ran s) q f = on_two s q (found s) refl f

    refused_from : (i j : ℕ) → AllFire B g c m → LeastPair (UnorderedTouch B g c) i j → Is17 (run_from B g c) i j
    unfolding run_from run_answer
    refused_from i j f n =
        let t = run_through B g c m f in
        let k = run_left B g c m t.0 t.1 in
        rw (t.1, (two_least (test t.0) m i j).1 ((least_iff t.0 k i j).1 n)) (refl, refl, refl)

    -- if some two unordered moves touch, whichever they are, the run gets refusal 17
    seventeen_from : (i j : ℕ) → AllFire B g c m → UnorderedTouch B g c i j → (run_from B g c).answer.number ≡ 17
    unfolding run_from run_answer
    seventeen_from i j f n =
        let t = run_through B g c m f in
        let k = run_left B g c m t.0 t.1 in
        rw t.1 (go t.0 ((unordered_touch_iff t.0 k i j).1 n) (found t.0) refl)
      where
        go : (s : Run) → Passing (test s) m i j → (o : PairFound) → found s ≡ o → (order_checked B s o).answer.number ≡ 17
        go s p no_pair q = absurd ((two_none (test s) m).0 q i j p)
        go s p (a_pair a b) q = refl

    -- ---- every order

    all_orders : (run_from B g c).answer.number ≡ 0 → (is : List ℕ) → Keeps (from 0 m) (PairOf g.pairs) is → Agrees S c m is
    all_orders e = agrees S (laws B lawful g) c m (PairOf g.pairs) (record {
      good = sound;
      up = up;
      fires = (accepted_to e).0;
      apart = λ i j a b h l da db n t. (accepted_to e).1 i j (h, l, n, (λ f. omega (arith, before_up f)), (a, b, da, db, t));
    })

-- ---- the call

pub all_passed : (book log : List ℕ) (n : Lengths) (b : Book) (g : Log) → check_all book log n ≡ good (b, g) → Lawful b.program × Sound b.program (start b) × Passed (length b.program.agents) b.program.E g
unfolding check_all
all_passed book log n b g e =
    let r = bind_good (check_book book) _ (b, g) e in
    let t = bind_good (check_log r.0.program log) _ (b, g) r.2 in
    let u = then_good (check_lent r.0.program n) (good (r.0, t.0)) (b, g) t.2 in
    let p = good_same (r.0, t.0) (b, g) u.2 in
    let k : Lawful r.0.program × Sound r.0.program (start r.0) = accepted_book book r.0 r.1 in
    let k' = subst (λ (x : Book). Lawful x.program × Sound x.program (start x)) (ap (λ (x : Book × Log). x.0) p) k in
    (k'.0, k'.1, subst (λ (x : Book × Log). Passed (length x.0.program.agents) x.0.program.E x.1) p (passed r.0.program log t.0 t.1))

module _ (book log : List ℕ) (t : Tables) (n : ℕ) where
  abbrev checks : Checked (Book × Log)
  checks = check_all book log (lengths t n)

  -- a call that is accepted, or gets refusal 17, has passed the checks
  passes : (k : ℕ) → (k ≡ 0) ⊎ (10 < k) → (log_call book log t n).answer.number ≡ k → (b : Book) × (g : Log) × (checks ≡ good (b, g))
  unfolding log_call
  passes k h e = go checks refl (all_early book log (lengths t n)) e
    where
      far : (a : ℕ) → (1 ≤ a) × (a ≤ 10) → (k ≡ 0) ⊎ (10 < k) → a ≡ k → ⊥
      far a b (inl p) q = omega arith
      far a b (inr p) q = omega arith

      go : (o : Checked (Book × Log)) → checks ≡ o → Early o → (log_answer t o).answer.number ≡ k → (b : Book) × (g : Log) × (checks ≡ good (b, g))
      go (good x) q (on f) e = (x.0, x.1, q)
      go (refused a p r) q (off f) e = absurd (far a (f.0, f.1) h e)

  -- the answer of a call that has passed the checks is that of its run
  pub as_run : (b : Book) (g : Log) → checks ≡ good (b, g) → log_call book log t n ≡ left_past t (run_log b g)
  unfolding log_call
  as_run b g e = rw e

  -- a call that gets refusal 17 names the least pair
  refuse : (i j : ℕ) → Is17 (log_call book log t n) i j → (b : Book) × (g : Log) × Passes book log t n b g × LeastPair (UnorderedTouch b.program g (start b)) i j
  refuse i j e = let r = passes 17 (inr (omega arith)) e.0 in go r.0 r.1 r.2 (rw (as_run r.0 r.1 r.2) at e)
    where
      go : (b : Book) (g : Log) → checks ≡ good (b, g) → Is17 (run_log b g) i j
          → (b : Book) × (g : Log) × Passes book log t n b g × LeastPair (UnorderedTouch b.program g (start b)) i j
      go b g p e = let k = all_passed book log (lengths t n) b g p in let r = refused_to b.program g (start b) k.0 k.1 k.2 i j e in (b, g, (p, r.0), r.1)

  pub demand3 : Demand3 book log t n
  demand3 = record {
    accepted = (
      λ e. let r = passes 0 (inl refl) e in accept r.0 r.1 r.2 (rw (as_run r.0 r.1 r.2) at e),
      λ (b, g, (p, f), q). let k = all_passed book log (lengths t n) b g p in rw (as_run b g p) (accepted_from b.program g (start b) k.0 k.1 k.2 f q),
    );
    seventeen = (
      λ e. let r = refuse _ _ (e, refl, refl) in (r.0, r.1, r.2, (_, _, r.3.holds)),
      λ (b, g, (p, f), (i, j, q)). let k = all_passed book log (lengths t n) b g p in rw (as_run b g p) (seventeen_from b.program g (start b) k.0 k.1 k.2 i j f q),
    );
    refused = λ i j. (
      refuse i j,
      λ (b, g, (p, f), q). let k = all_passed book log (lengths t n) b g p in rw (as_run b g p) (refused_from b.program g (start b) k.0 k.1 k.2 i j f q),
    );
    orders = λ e b g p is k.
        let r = all_passed book log (lengths t n) b g p in
        let z : (run_log b g).answer.number ≡ 0 = rw (as_run b g p) at e in
        let a = all_orders b.program g (start b) r.0 r.1 r.2 z is k in
        (a, ap (λ (x : LogAnswer). x.contents) (as_run b g p) ∙ ap (λ (d : List ℕ). over_first d t.contents) ((accepted_to b.program g (start b) r.0 r.1 r.2 z).2 ∙ sym a.ends));
  }
    where
      accept : (b : Book) (g : Log) → checks ≡ good (b, g) → (run_log b g).answer.number ≡ 0
          → (b : Book) × (g : Log) × Passes book log t n b g × ((i j : ℕ) → ¬ UnorderedTouch b.program g (start b) i j)
      accept b g p e = let k = all_passed book log (lengths t n) b g p in let r = accepted_to b.program g (start b) k.0 k.1 k.2 e in (b, g, (p, r.0), r.1)
