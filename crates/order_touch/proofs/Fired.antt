-- By the marks of moves that have fired the least pair is that of refusal 17.
use mathlib.Core.Path.{◌≡◌, refl, sym, ap, ◌∙◌}
use mathlib.Core.Logic.{◌↔◌, dite}
use mathlib.Core.Bool.{Bool, true, false, true≢false}
use mathlib.Core.List.{List}
use Prim.Native.Nat.{ℕ, zero, suc, ◌≤◌, ◌<◌}
use native.Mathlib.Omega.{arith}
use native.Mathlib.Decide.{dec_lt}
use lib.ListN.{length, get_or, get_or-eq_default}
use Rattle.text.specs.Words.{some_below}
use Rattle.engine.specs.Move.{Fired}
use Rattle.order.specs.Sets.{bit}
use Rattle.order.specs.Pairs.{predecessors, least_pair}
use Rattle.text.proofs.Words.{length_table_from, both_ways}
use Rattle.book.specs.Book.{Program, L}
use Rattle.order.specs.Log.{Log}
use Rattle.order.specs.Table.{OrderTable}
use Rattle.order.specs.Run.{moves_that, readers, writers, reads_at, writes_at, touch_at, no_fired, fired_at, unordered_touching, touching}
use Rattle.order.proofs.Marks.{readers_bit, writers_bit}
use Rattle.order.proofs.Search.{two_same}
use Rattle.order_touch.specs.Marked.{touch_by, unordered_marked, clipped}

some_same : (f g : ℕ → Bool) (n : ℕ) → ((l : ℕ) → l < n → f l ≡ g l) → some_below f n ≡ some_below g n
unfolding some_below
some_same f g zero e = refl
some_same f g (suc n) e = rw (some_same f g n (λ l h. e l (omega arith)), e n (omega arith))

-- a bit that says whether a fired move passes a test is the test itself; a move that has not fired does not pass
fired_bit : (t : Fired → Bool) (fs : List Fired) (i : ℕ) (b : Bool) → t no_fired ≡ false → (b ≡ true) ↔ ((i < length fs) × (t (fired_at fs i) ≡ true)) → b ≡ t (fired_at fs i)
fired_bit t fs i b z r = both_ways b (t (fired_at fs i)) (λ e. (r.0 e).1) (λ e. r.1 (inside e, e))
  where
    inside : t (fired_at fs i) ≡ true → i < length fs
    inside e = dite (dec_lt i (length fs)) (λ h. h)
        (λ (h : ¬ (i < length fs)). absurd (true≢false (sym e ∙ ap t (get_or-eq_default fs no_fired {n = i} (omega arith)) ∙ z)))

module _ (n : ℕ) (fs : List Fired) where
  read_bit : (l i : ℕ) → l < n → bit (get_or (readers n fs) l 0) i ≡ reads_at l (fired_at fs i)
  read_bit l i h = fired_bit (reads_at l) fs i (bit (get_or (readers n fs) l 0) i) refl (readers_bit n fs l i h)

  write_bit : (l i : ℕ) → l < n → bit (get_or (writers n fs) l 0) i ≡ writes_at l (fired_at fs i)
  write_bit l i h = fired_bit (writes_at l) fs i (bit (get_or (writers n fs) l 0) i) refl (writers_bit n fs l i h)

  -- tables that have these marks, and maybe more records, and sets of predecessors that are those of the first m moves
  module _
      (m : ℕ) (order rs R W : List ℕ) (predecessors : (j : ℕ) → j < m → get_or order j 0 ≡ get_or rs j 0)
      (read : (l : ℕ) → l < n → get_or R l 0 ≡ get_or (readers n fs) l 0) (written : (l : ℕ) → l < n → get_or W l 0 ≡ get_or (writers n fs) l 0)
    where
      touch_same : (i j l : ℕ) → l < n → touch_by (get_or R l 0) (get_or W l 0) i j ≡ touch_at (fired_at fs i) (fired_at fs j) l
      touch_same i j l h = rw (read l h, written l h, read_bit l i h, read_bit l j h, write_bit l i h, write_bit l j h)

      marked_fired : least_pair (unordered_marked order R W n) m ≡ least_pair (unordered_touching rs n fs) m
      marked_fired = two_same (unordered_marked order R W n) (unordered_touching rs n fs) m
          (λ i j a b. rw (predecessors j b, some_same (λ l. touch_by (get_or R l 0) (get_or W l 0) i j) (touch_at (fired_at fs i) (fired_at fs j)) n (touch_same i j)))

      -- the least pair as the code finds it, on tables that are long enough
      pub touching_fired : n ≤ length R → n ≤ length W → least_pair (unordered_marked order R W (clipped R W n)) m ≡ least_pair (unordered_touching rs n fs) m
      touching_fired h k = let e : clipped R W n ≡ n = omega arith in rw e marked_fired

-- the least pair on tables of just these marks
pub touching_marks : (n : ℕ) (fs : List Fired) (rs : List ℕ) (m : ℕ)
    → least_pair (unordered_marked rs (readers n fs) (writers n fs) (clipped (readers n fs) (writers n fs) n)) m ≡ least_pair (unordered_touching rs n fs) m
unfolding readers writers
touching_marks n fs rs m = touching_fired n fs m rs rs (readers n fs) (writers n fs) (λ j h. refl) (λ l h. refl) (λ l h. refl)
    (omega (arith, length_table_from (λ l. moves_that (reads_at l) 0 fs) 0 n)) (omega (arith, length_table_from (λ l. moves_that (writes_at l) 0 fs) 0 n))

-- the least pair by the order table of a log and just these marks
pub touching_ordered : (B : Program) (g : Log) (t : List ℕ) (fs : List Fired) → OrderTable g t
    → least_pair (unordered_marked t (readers (L B) fs) (writers (L B) fs) (clipped (readers (L B) fs) (writers (L B) fs) (L B))) (length g.moves) ≡ touching B g fs
unfolding readers writers
touching_ordered B g t fs o =
    let n = L B in
    let m = length g.moves in
    touching_fired n fs m t (predecessors g.pairs m) (readers n fs) (writers n fs) o.predecessors (λ l h. refl) (λ l h. refl)
    (omega (arith, length_table_from (λ l. moves_that (reads_at l) 0 fs) 0 n)) (omega (arith, length_table_from (λ l. moves_that (writes_at l) 0 fs) 0 n))
