-- The claims of specs/Claims hold.
use mathlib.Core.Path.{◌≡◌, refl, sym, ◌∙◌}
use mathlib.Core.Logic.{◌↔◌}
use mathlib.Core.Bool.{true}
use mathlib.Core.List.{List}
use mathlib.Core.Option.{some}
use Prim.Native.Nat.{ℕ, ◌<◌}
use native.Mathlib.Omega.{arith}
use lib.ListN.{length}
use Rattle.book.specs.Book.{Program, L}
use Rattle.engine.specs.Move.{Fired}
use Rattle.order.specs.Log.{Log}
use Rattle.order.specs.Run.{Run, RunOutcome, ran, halted, run, reads_at, writes_at, fired_at}
use Rattle.order.specs.Orders.{Reads, Writes, listed}
use Rattle.order.specs.Demand.{moves_of}
use Rattle.order.specs.Claims.{OrdersAgree, MovesSwap, TakingTouches, PredecessorsAreOrder, Did, Marked, RunsLeave, RunsAnswer, LogPicksAreElements}
use Rattle.order.specs.Claims as claims
use Rattle.order.proofs.Log.{passed}
use Rattle.order.proofs.Listed.{agrees}
use Rattle.order.proofs.Swap.{laws, touching, writes_value}
use Rattle.order.proofs.Predecessors.{rows_set}
use Rattle.order.proofs.Marks.{readers_bit, writers_bit, Left, run_left, run_halted, halted_number}
use Rattle.order.proofs.Numbers.{log_small}

pub orders_agree : OrdersAgree
orders_agree S law start m pair log is k = agrees S law start m pair log is k

pub moves_swap : MovesSwap
moves_swap B ok g = laws B ok g

pub taking_touches : TakingTouches
taking_touches B ok g i j c d a b sc sd da db x l h e n = touching B ok g i j c d a b sc sd da db x l h e n

pub rows_are_order : PredecessorsAreOrder
rows_are_order ps up m j i h = rows_set ps up m j i h

-- ---- marks

module _ (B : Program) (g : Log) (c : List ℕ) (n : ℕ) (s : Run) (k : Left B g c n s) where
  same_act : (i : ℕ) (f : Fired) → i < n → (moves_of B g).does i (listed (moves_of B g) c i) ≡ some f → fired_at s.fired i ≡ f
  same_act i f h e = one (fired_at s.fired i) f (sym (k.fired i h) ∙ e)
    where
      one : (a b : Fired) → some a ≡ some b → a ≡ b
      one a b q = cc

  -- a fact about what move i did in the run is one about what it does in the listed order
  did : (i : ℕ) (Q R : Fired → Type 0) → ((f : Fired) → Q f ↔ R f) → ((i < length s.fired) × Q (fired_at s.fired i)) ↔ Did B g c n i R
  did i Q R same = (
    λ h. (omega (arith, h.0, k.long), (fired_at s.fired i, k.fired i (omega (arith, h.0, k.long)), (same (fired_at s.fired i)).0 h.1)),
    λ (h, (f, e, r)). (omega (arith, k.long), rw (same_act i f h e) ((same f).1 r)),
  )

  joined : {P Q R : Type 0} → P ↔ Q → Q ↔ R → P ↔ R
  joined a b = (λ p. b.0 (a.0 p), λ r. a.1 (b.1 r))

  marked : Marked B g c n s
  marked = record {
    contents = k.contents;
    readers = λ l i h. joined (readers_bit (L B) s.fired l i h)
        (did i (λ f. reads_at l f ≡ true) (λ f. Reads (moves_of B g) f l) (λ f. (λ e. e, λ e. e)));
    writers = λ l i h. joined (writers_bit (L B) s.fired l i h)
        (did i (λ f. writes_at l f ≡ true) (λ f. Writes (moves_of B g) f l) (λ f. writes_value f.updates l));
  }

pub runs_leave : RunsLeave
runs_leave B g c n = go (run B g c n) refl
  where
    go : (o : RunOutcome) → run B g c n ≡ o → claims.Left B g c n o
    go (ran s) e = marked B g c n s (run_left B g c n s e)
    go (halted a p q s) e =
        let r = run_halted B g c n a p q s e in
        let m = halted_number B g c n a p q s e in
        (r.0, marked B g c p s r.1, r.2, m.0)

pub runs_answer : RunsAnswer
runs_answer book log t n = (log_small book log t n).not_16

pub picks_are_elements : LogPicksAreElements
picks_are_elements B text g e = (passed B text g e).picks
