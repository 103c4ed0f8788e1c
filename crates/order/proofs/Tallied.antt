-- The label tally of a log call is that of the moves that fired, says what the roll holds, and is the same in all orders that keep the pairs.
use mathlib.Core.Path.{◌≡◌, refl, sym, ap, ap₂, ◌∙◌}
use mathlib.Core.List.{List, [], ◌∷◌, ◌++◌, append_assoc}
use mathlib.Core.Option.{Option, none, some}
use Prim.Native.Nat.{ℕ, zero, suc, ◌+◌, ◌≤◌, ◌<◌}
use native.Mathlib.Omega.{arith}
use lib.ListN.{length, drop, get_or-append}
use borrow.Author.Tests.{ne_eqb}
use Rattle.text.specs.Words.{good}
use Rattle.book.specs.Book.{Program, Book, start}
use Rattle.book.specs.Sound.{Lawful, Sound}
use Rattle.book.proofs.Places.{roll_inside}
use Rattle.engine.specs.Move.{Fired, move, fire}
use Rattle.engine.specs.Labels.{tally_of, tally, issued, returned, in_reserve, roll_count}
use Rattle.engine.specs.Single.{over_first}
use Rattle.engine.specs.Tables.{Tables}
use Rattle.engine.proofs.Counts.{count_same}
use Rattle.engine.proofs.Moves.{fired_keep}
use Rattle.engine.proofs.Claims.{moves_tally}
use Rattle.order.specs.Pairs.{PairFound, no_pair, a_pair}
use Rattle.order.specs.Log.{Log, move_at}
use Rattle.order.specs.Run.{Run, RunOutcome, ran, halted, run, touching, fired_at, LogAnswer, order_checked, run_answer, run_from, run_log}
use Rattle.order.specs.Call.{lengths, check_all, log_call}
use Rattle.order.specs.Orders.{Moves, after_act, step, run_in_order, with_act, acts_in_order, listed, from, Keeps, Agrees}
use Rattle.order.specs.Demand.{PairOf, moves_of, count}
use Rattle.order.specs.Tallied.{fired_moves, tally_in_order, Tallied}
use Rattle.order.proofs.Order.{upward, sum, same_sum}
use Rattle.order.proofs.Listed.{keeps_upto, run_upto}
use Rattle.order.proofs.Marks.{Left, run_left, run_halted, halted_number}
use Rattle.order.proofs.Swap.{act_fires}
use Rattle.order.proofs.Claim.{all_passed, as_run, demand3}

-- ---- sums over acts

module _ {A : Type 0} (v : A → ℕ) where
  -- the sum of v over these acts
  abbrev total : List A → ℕ
  total [] = 0
  total (a ∷ rest) = v a + total rest

  -- v of an act; 0 if there is none
  abbrev value_of : Option A → ℕ
  value_of none = 0
  value_of (some a) = v a

module _ (S : Moves) (v : S.Act → ℕ) where
  -- an act adds its own, a refused move nothing
  total_with : (o : Option S.Act) (rest : List S.Act) → total v (with_act S o rest) ≡ value_of v o + total v rest
  total_with none rest = omega arith
  total_with (some a) rest = refl

  run_last : (p : List ℕ) (c : S.Con) (i : ℕ) → run_in_order S c (p ++ i ∷ []) ≡ step S (run_in_order S c p) i
  run_last [] c i = refl
  run_last (j ∷ p) c i = run_last p (step S c j) i

  module _ (start : S.Con) (m : ℕ) where
    -- v of what move i does in the listed order
    abbrev as_listed : ℕ → ℕ
    as_listed i = value_of v (S.does i (listed S start i))

    -- in an order that agrees with the listed one, a sum over acts is a sum over moves
    total_sum : (is : List ℕ) → Agrees S start m is → (p q : List ℕ) → is ≡ p ++ q → total v (acts_in_order S (run_in_order S start p) q) ≡ sum as_listed q
    total_sum is a p [] e = refl
    total_sum is a p (i ∷ q) e =
        let c = run_in_order S start p in
        let t = a.fires p i q e in
        let r = total_sum is a (p ++ i ∷ []) q (e ∙ sym (append_assoc p (i ∷ []) q)) in
        let n : total v (acts_in_order S (step S c i) q) ≡ sum as_listed q = rw (run_last p start i) at r in
        total_with (S.does i c) (acts_in_order S (step S c i) q) ∙ ap₂ ◌+◌ (ap (value_of v) (t.1 ∙ sym t.2)) n

    -- so it is the same in all orders that keep the pairs and agree with the listed one
    total_alike : (pair : ℕ → ℕ → Type 0) → ((i j : ℕ) → pair i j → i < j) → (is : List ℕ) → Keeps (from 0 m) pair is
        → Agrees S start m is → Agrees S start m (from 0 m) → total v (acts_in_order S start is) ≡ total v (acts_in_order S start (from 0 m))
    total_alike pair up is k a b =
        total_sum is a [] is refl
        ∙ same_sum pair as_listed is (from 0 m) (upward k) (upward (keeps_upto m pair up)) k.all
        ∙ sym (total_sum (from 0 m) b [] (from 0 m) refl)

-- a tally is two sums over acts
tally_totals : (B : Program) (fs : List Fired)
    → tally B fs ≡ tally_of (total (λ f. issued B f.instructions) fs) (total (λ f. returned f.instructions) fs)
unfolding tally
tally_totals B [] = refl
tally_totals B (f ∷ fs) = rw (tally_totals B fs)

-- ---- the roll after moves, in any order

-- Reserve is in the contents: a lent table holds as many labels on the roll as its first records do
roll_first : (B : Program) (d old : List ℕ) → B.E ≤ length d → roll_count B (over_first d old) ≡ roll_count B d
unfolding roll_count
roll_first B d old h =
    count_same (in_reserve (over_first d old)) (in_reserve d) B.E (λ x k. rw (get_or-append d (drop (length d) old) 0 x (omega arith)))

module _ (B : Program) (g : Log) where
  abbrev S : Moves
  S = moves_of B g

  -- from the contents c with these acts sound contents d are left, which hold what the acts' tally says
  abbrev Balances : List ℕ → List Fired → List ℕ → Type 0
  Balances c fs d = Sound B d × (roll_count B d + (tally B fs).issued ≡ roll_count B c + (tally B fs).returned)

  -- a move that is refused changes nothing and adds nothing
  in_order_balances : Lawful B → (is c : List ℕ) → Sound B c → Balances c (acts_in_order S c is) (run_in_order S c is)
  unfolding tally
  in_order_balances lawful [] c s = (s, omega arith)
  in_order_balances lawful (i ∷ is) c s = go (S.does i c) refl (in_order_balances lawful is)
    where
      go : (o : Option Fired) → S.does i c ≡ o → ((d : List ℕ) → Sound B d → Balances d (acts_in_order S d is) (run_in_order S d is))
          → Balances c (with_act S o (acts_in_order S (after_act S c o) is)) (run_in_order S (after_act S c o) is)
      go none e r = r c s
      go (some f) e r =
          let m = act_fires (move B c (move_at g i)) f e in
          let t = r (fire f.updates c) (fired_keep B lawful c s (move_at g i) f m) in
          (t.0, omega (arith, moves_tally B lawful c s (move_at g i) f m, t.1))

  -- ---- a log's run from the contents c

  module _ (c : List ℕ) where
    -- the acts of the n moves from k on, as listed
    acts_listed : (n k : ℕ) (fs : List Fired) → length fs ≡ n → ((i : ℕ) → i < n → S.does (k + i) (listed S c (k + i)) ≡ some (fired_at fs i))
        → acts_in_order S (listed S c k) (from k n) ≡ fs
    acts_listed zero k [] l h = refl
    acts_listed zero k (f ∷ fs) l h = absurd (omega arith)
    acts_listed (suc n) k [] l h = absurd (omega arith)
    acts_listed (suc n) k (f ∷ fs) l h =
        let z : k + 0 ≡ k = omega arith in
        let d : S.does k (listed S c k) ≡ some f = rw z at (h 0 (omega arith)) in
        ap (λ (o : Option Fired). with_act S o (acts_in_order S (listed S c (suc k)) (from (suc k) n))) d
        ∙ ap (λ (r : List Fired). f ∷ r) (acts_listed n (suc k) fs (omega arith) (λ i b. let y : k + suc i ≡ suc k + i = omega arith in rw y at (h (suc i) (omega arith))))

    -- what a run leaves is what its moves that fired leave in the listed order
    abbrev AsListed : LogAnswer → Type 0
    AsListed a =
        let is = from 0 (fired_moves (count g) a.answer) in
        (a.tally ≡ tally B (acts_in_order S c is)) × (a.contents ≡ run_in_order S c is)

    left_listed : (n : ℕ) (s : Run) → Left B g c n s → (tally B s.fired ≡ tally B (acts_in_order S c (from 0 n))) × (s.contents ≡ run_in_order S c (from 0 n))
    left_listed n s l = (
      ap (tally B) (sym (acts_listed n 0 s.fired l.long (λ i h. let z : 0 + i ≡ i = omega arith in rw z (l.fired i h)))),
      l.contents ∙ sym (run_upto S c n),
    )

    -- a move's refusal is neither 0 nor 17, so its p is how many moves fired
    run_listed : AsListed (run_from B g c)
    unfolding run_from run_answer
    run_listed = go (run B g c (count g)) refl
      where
        checked : (s : Run) → Left B g c (count g) s → (o : PairFound) → AsListed (order_checked B s o)
        checked s l no_pair = left_listed (count g) s l
        checked s l (a_pair i j) = left_listed (count g) s l

        go : (o : RunOutcome) → run B g c (count g) ≡ o → AsListed (run_answer B g o)
        go (ran s) e = checked s (run_left B g c (count g) s e) (touching B g s.fired)
        go (halted a p q s) e =
            let n = (halted_number B g c (count g) a p q s e).0 in
            rw (ne_eqb a 0 (λ z. omega (arith, n.0)), ne_eqb a 17 n.3) (left_listed p s (run_halted B g c (count g) a p q s e).1)

-- ---- the call

module _ (book log : List ℕ) (t : Tables) (n : ℕ) where
  pub tallied : Tallied book log t n
  unfolding log_call
  tallied = record {
    none = λ r p q e. rw e;
    fired = fired;
    left = λ b g e.
        let r = all_passed book log (lengths t n) b g e in
        let l = run_listed b.program g (start b) in
        let k = in_order_balances b.program g r.0 (from 0 (fired_moves (count g) (run_log b g).answer)) (start b) r.1 in
        let o = roll_first b.program (run_log b g).contents t.contents (rw l.1 (omega (arith, k.0.long, roll_inside b.program r.0))) in
        rw (as_run book log t n b g e, o, l.0, l.1) k.1;
    after = λ b g e is. let r = all_passed book log (lengths t n) b g e in (in_order_balances b.program g r.0 is (start b) r.1).1;
    alike = alike;
  }
    where
      fired : (b : Book) (g : Log) → check_all book log (lengths t n) ≡ good (b, g)
          → (log_call book log t n).tally ≡ tally_in_order b g (from 0 (fired_moves (count g) (log_call book log t n).answer))
      fired b g e = rw (as_run book log t n b g e) (run_listed b.program g (start b)).0

      alike : (log_call book log t n).answer.number ≡ 0 → (b : Book) (g : Log) → check_all book log (lengths t n) ≡ good (b, g)
          → (is : List ℕ) → Keeps (from 0 (count g)) (PairOf g.pairs) is → tally_in_order b g is ≡ (log_call book log t n).tally
      alike z b g e is k =
          tally_totals B (acts_in_order S (start b) is)
          ∙ rw (same (λ f. issued B f.instructions), same (λ f. returned f.instructions)) (sym (tally_totals B (acts_in_order S (start b) (from 0 (count g)))))
          ∙ sym (rw z at (fired b g e))
        where
          B : Program
          B = b.program

          S : Moves
          S = moves_of B g

          up : (i j : ℕ) → PairOf g.pairs i j → i < j
          up i j p = ((all_passed book log (lengths t n) b g e).2.up i j p).0

          agree : (js : List ℕ) → Keeps (from 0 (count g)) (PairOf g.pairs) js → Agrees S (start b) (count g) js
          agree js h = ((demand3 book log t n).orders z b g e js h).0

          same : (v : Fired → ℕ) → total v (acts_in_order S (start b) is) ≡ total v (acts_in_order S (start b) (from 0 (count g)))
          same v = total_alike S v (start b) (count g) (PairOf g.pairs) up is k (agree is k) (agree (from 0 (count g)) (keeps_upto (count g) (PairOf g.pairs) up))
