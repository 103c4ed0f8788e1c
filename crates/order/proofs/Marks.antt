-- Marks are exactly the reads and writes of the moves fired; and what a log's run leaves, of moves that all fire and of a move that is refused.
use Rattle.std.specs.Prelude.{if◌then◌else◌}
use mathlib.Core.Path.{◌≡◌, refl, sym, ◌∙◌}
use mathlib.Core.Logic.{◌↔◌, ◌⊎◌, inl, inr, dite}
use mathlib.Core.Bool.{Bool, true, false, ◌||◌, or-true, true≢false}
use mathlib.Core.List.{List, [], ◌∷◌, ◌++◌}
use mathlib.Core.Option.{some}
use Prim.Native.Nat.{ℕ, zero, suc, ◌+◌, ◌-◌, ◌<◌, ◌≤◌}
use native.Mathlib.Omega.{arith}
use native.Mathlib.Decide.{ℕ_discrete}
use lib.Dec.{eqb}
use lib.ListN.{length, get_or, length-append, get_or-append}
use lib.Seq.{get_or_at}
use borrow.Author.Tests.{eqb-true, eq-eqb}
use Rattle.book.specs.Book.{Program}
use Rattle.engine.specs.Move.{Fired, Moved, fires, move_refused, move, fire}
use Rattle.engine.specs.Claims.{Inside}
use Rattle.engine.proofs.Numbers.{last_place, move_number}
use Rattle.order.specs.Sets.{bit, with_move}
use Rattle.order.specs.Log.{Log, move_at}
use Rattle.order.specs.Run.{Run, RunOutcome, ran, halted, moved, next_move, run, moves_that, reads_at, writes_at, readers, writers, no_fired, fired_at}
use Rattle.order.specs.Orders.{Moves, listed}
use Rattle.order.specs.Demand.{act_of, moves_of}
use Rattle.text.proofs.Words.{or_cases, getD_table}
use Rattle.order.proofs.Sets.{bit_with, bit_empty}

-- ---- marks

module _ (t : Fired → Bool) where
  -- move i passes the test t, the list beginning with move k
  abbrev Passes : ℕ → List Fired → ℕ → Type 0
  Passes k fs i = (k ≤ i) × (i < k + length fs) × (t (fired_at fs (i - k)) ≡ true)

  moves_bit : (k : ℕ) (fs : List Fired) (i : ℕ) → (bit (moves_that t k fs) i ≡ true) ↔ Passes k fs i
  unfolding moves_that
  moves_bit k [] i = (λ e. absurd (true≢false (sym e ∙ bit_empty i)), λ p. absurd (omega (arith, p.0, p.1)))
  moves_bit k (f ∷ fs) i = go (t f) refl (moves_bit (suc k) fs i)
    where
      later : Passes (suc k) fs i → Passes k (f ∷ fs) i
      later (a, b, e) = let z : i - k ≡ suc (i - suc k) = omega arith in (omega arith, omega arith, rw z e)

      first : t f ≡ true → k ≡ i → Passes k (f ∷ fs) i
      first e q = let z : i - k ≡ 0 = omega arith in (omega arith, omega arith, rw z e)

      split : Passes k (f ∷ fs) i → ((k ≡ i) × (t f ≡ true)) ⊎ Passes (suc k) fs i
      split (a, b, e) = dite (ℕ_discrete k i)
          (λ q. let z : i - k ≡ 0 = omega arith in inl (q, (rw z at e)))
          (λ q. let z : i - k ≡ suc (i - suc k) = omega arith in inr (omega arith, omega arith, (rw z at e)))

      go : (b : Bool) → t f ≡ b → ((bit (moves_that t (suc k) fs) i ≡ true) ↔ Passes (suc k) fs i)
          → (bit (if b then with_move (moves_that t (suc k) fs) k else moves_that t (suc k) fs) i ≡ true) ↔ Passes k (f ∷ fs) i
      go true q r =
          let w = bit_with (moves_that t (suc k) fs) k i in
          (λ e. to (or_cases (bit (moves_that t (suc k) fs) i) (eqb k i) (sym w ∙ e)), λ p. w ∙ back (split p))
        where
          to : (bit (moves_that t (suc k) fs) i ≡ true) ⊎ (eqb k i ≡ true) → Passes k (f ∷ fs) i
          to (inl e) = later (r.0 e)
          to (inr e) = first q (eqb-true k i e)

          back : ((k ≡ i) × (t f ≡ true)) ⊎ Passes (suc k) fs i → (bit (moves_that t (suc k) fs) i || eqb k i) ≡ true
          back (inl p) = rw (eq-eqb k i p.0) (or-true (bit (moves_that t (suc k) fs) i))
          back (inr p) = rw (r.1 p)
      go false q r = (λ e. later (r.0 e), λ p. back (split p))
        where
          back : ((k ≡ i) × (t f ≡ true)) ⊎ Passes (suc k) fs i → bit (moves_that t (suc k) fs) i ≡ true
          back (inl p) = absurd (true≢false (sym p.1 ∙ q))
          back (inr p) = r.1 p

  marks : (fs : List Fired) (i : ℕ) → (bit (moves_that t 0 fs) i ≡ true) ↔ ((i < length fs) × (t (fired_at fs i) ≡ true))
  marks fs i =
      let z : i - 0 ≡ i = omega arith in
      let r = moves_bit 0 fs i in
      (λ e. let p = r.0 e in (omega (arith, p.1), (rw z at p.2)), λ p. r.1 (omega arith, omega (arith, p.0), rw z p.1))

-- of the moves fs, those that read location l are the bits of its reader mark
pub readers_bit : (n : ℕ) (fs : List Fired) (l i : ℕ) → l < n → (bit (get_or (readers n fs) l 0) i ≡ true) ↔ ((i < length fs) × (reads_at l (fired_at fs i) ≡ true))
unfolding readers
readers_bit n fs l i h = rw (getD_table (λ l. moves_that (reads_at l) 0 fs) n l 0 h) (marks (reads_at l) fs i)

pub writers_bit : (n : ℕ) (fs : List Fired) (l i : ℕ) → l < n → (bit (get_or (writers n fs) l 0) i ≡ true) ↔ ((i < length fs) × (writes_at l (fired_at fs i) ≡ true))
unfolding writers
writers_bit n fs l i h = rw (getD_table (λ l. moves_that (writes_at l) 0 fs) n l 0 h) (marks (writes_at l) fs i)

-- ---- the run

module _ (B : Program) (g : Log) (c : List ℕ) where
  abbrev S : Moves
  S = moves_of B g

  -- what the first n moves leave if all have fired
  pub record Left (n : ℕ) (s : Run) : Type 0 where
    pub contents : s.contents ≡ listed S c n
    pub long : length s.fired ≡ n
    pub fired : (i : ℕ) → i < n → S.does i (listed S c i) ≡ some (fired_at s.fired i)

  left_more : (n : ℕ) (s : Run) (f : Fired) → Left n s → move B s.contents (move_at g n) ≡ fires f
      → Left (suc n) (record { contents = fire f.updates s.contents; fired = s.fired ++ (f ∷ []) })
  left_more n s f k e =
      let d : S.does n (listed S c n) ≡ some f = rw (← k.contents, e) in
      record {
        contents = rw (d, k.contents);
        long = length-append s.fired (f ∷ []) ∙ rw k.long (omega arith);
        fired = λ i h. dite (ℕ_discrete i n)
            (λ q. rw (q, get_or_at s.fired f [] no_fired n k.long) d)
            (λ q. rw (get_or-append s.fired (f ∷ []) no_fired i (omega (arith, k.long))) (k.fired i (omega arith)));
      }

  -- A run in which no move is refused leaves what the moves leave when all have fired.
  pub run_left : (n : ℕ) (s : Run) → run B g c n ≡ ran s → Left n s
  unfolding run
  run_left zero s e = let z : record { contents = c; fired = [] } ≡ s = cc in rw (← z) (record { contents = refl; long = refl; fired = λ i h. absurd (omega arith) })
  run_left (suc n) s e = go (run B g c n) refl e (run_left n)
    where
      one : (t : Run) → Left n t → (o : Moved) → move B t.contents (move_at g n) ≡ o → moved n t o ≡ ran s → Left (suc n) s
      one t k (fires f) q e = let z : record { contents = fire f.updates t.contents; fired = t.fired ++ (f ∷ []) } ≡ s = cc in rw (← z) (left_more n t f k q)
      one t k (move_refused m q) p e = let z : ◌≡◌ {A = ℕ} 0 1 = cc in absurd (omega arith)

      go : (o : RunOutcome) → run B g c n ≡ o → next_move B n (move_at g n) o ≡ ran s → ((t : Run) → run B g c n ≡ ran t → Left n t) → Left (suc n) s
      go (ran t) q e k = one t (k t q) (move B t.contents (move_at g n)) refl e
      go (halted a b d t) q e k = let z : ◌≡◌ {A = ℕ} 0 1 = cc in absurd (omega arith)

  -- If all moves fire, no move of the run is refused.
  pub run_through : (n : ℕ) → ((i : ℕ) → i < n → (f : Fired) × (S.does i (listed S c i) ≡ some f)) → (s : Run) × (run B g c n ≡ ran s)
  unfolding run
  run_through zero f = (record { contents = c; fired = [] }, refl)
  run_through (suc n) f = go (run_through n (λ i h. f i (omega arith)))
    where
      one : (t : Run) (o : Moved) (x : Fired) → act_of o ≡ some x → (s : Run) × (moved n t o ≡ ran s)
      one t (fires y) x e = (record { contents = fire y.updates t.contents; fired = t.fired ++ (y ∷ []) }, refl)
      one t (move_refused m q) x e = let z : ◌≡◌ {A = ℕ} 0 1 = cc in absurd (omega arith)

      go : ((t : Run) × (run B g c n ≡ ran t)) → (s : Run) × (next_move B n (move_at g n) (run B g c n) ≡ ran s)
      go (t, q) = let k = f n (omega arith) in rw q (one t (move B t.contents (move_at g n)) k.0 (rw (run_left n t q).contents k.1))

  -- In a run in which a move is refused all moves before it have fired, it is refused on what they left, and the run leaves that.
  pub run_halted : (n a p q : ℕ) (s : Run) → run B g c n ≡ halted a p q s → (p < n) × Left p s × (move B (listed S c p) (move_at g p) ≡ move_refused a q)
  unfolding run
  run_halted zero a p q s e = let z : ◌≡◌ {A = ℕ} 0 1 = cc in absurd (omega arith)
  run_halted (suc n) a p q s e = go (run B g c n) refl e (run_halted n a p q s)
    where
      one : (t : Run) → Left n t → (o : Moved) → move B t.contents (move_at g n) ≡ o → moved n t o ≡ halted a p q s
          → (p < suc n) × Left p s × (move B (listed S c p) (move_at g p) ≡ move_refused a q)
      one t k (fires f) m e = let z : ◌≡◌ {A = ℕ} 0 1 = cc in absurd (omega arith)
      one t k (move_refused b d) m e =
          let x : n ≡ p = cc in
          let y : t ≡ s = cc in
          let u : move_refused b d ≡ move_refused a q = cc in
          rw (← x, ← y) (omega arith, k, rw (← k.contents) (m ∙ u))

      go : (o : RunOutcome) → run B g c n ≡ o → next_move B n (move_at g n) o ≡ halted a p q s
          → (run B g c n ≡ halted a p q s → (p < n) × Left p s × (move B (listed S c p) (move_at g p) ≡ move_refused a q))
          → (p < suc n) × Left p s × (move B (listed S c p) (move_at g p) ≡ move_refused a q)
      go (ran t) k e r = one t (run_left n t k) (move B t.contents (move_at g n)) refl e
      go (halted b x d t) k e r = let h = r (k ∙ e) in (omega (arith, h.0), h.1, h.2)

  -- The number of a move's refusal is one of refusals 11 to 15, 18 and 19, and its q a node or a location.
  pub halted_number : (n a p q : ℕ) (s : Run) → run B g c n ≡ halted a p q s → Inside a × (q ≤ last_place B (move_at g p))
  halted_number n a p q s e = move_number B (listed S c p) (move_at g p) a q (run_halted n a p q s e).2
