-- Refusal 10 by sets of moves: each agent's moves so far, and of those the least that is not ordered with the next one.
use mathlib.Core.Path.{◌≡◌, refl, sym, ap, ◌∙◌}
use mathlib.Core.Logic.{dite, ◌≢◌}
use mathlib.Core.Bool.{true, not, ◌&&◌, and-false, or-true, or-false, true≢false}
use mathlib.Core.List.{List}
use Prim.Native.Nat.{ℕ, ◌+◌, ◌-◌, ◌*◌, ◌%◌, ◌^◌, ◌≤◌, ◌<◌, min}
use native.Mathlib.Omega.{arith}
use native.Mathlib.Decide.{ℕ_discrete, dec_lt}
use borrow.Author.Tests.{ltb-true, lt-ltb, le-ltb, le-leb, lt-leb, eq-eqb, ne_eqb}
use lib.Dec.{eqb, ltb, leb}
use lib.Bits.{bit_and, bit_or}
use lib.Count.{count_trailing_zeros}
use lib.ListN.{length, get_or, set, length-set, replicate, length-replicate}
use lib.Seq.{get_or-set_same, get_or-set_other}
use Rattle.text.specs.Words.{Answer}
use Rattle.text.specs.Words.{good, ◌>>=◌, ◌>>◌, must, answer_of}
use Rattle.text.proofs.Words.{and_cases}
use Rattle.book.specs.Book.{Program}
use Rattle.order.specs.Sets.{bit}
use Rattle.order.specs.Pairs.{predecessors, no_pair_at}
use Rattle.order.specs.Log.{Log, move_at, one_agent_unordered, check_agents, read_log, check_log}
use Rattle.order.specs.Table.{agent_in, OrderTable}
use Rattle.order.proofs.Sets.{bit_of_or, bit_one, bit_empty}
use Rattle.order.proofs.Masks.{shl_one, row_none, bit_of_and, bit_not, least_in, least_below}
use Rattle.order.proofs.Search.{two_same}
use Rattle.order.proofs.Best.{Best, best_found, best_none}
use Rattle.order.proofs.Log.{read_passed}
use Rattle.order_log.specs.Agents.{agent_below_16, one_agent_unordered_in, check_agents_in, LeastUnordered}

-- ---- the least move of a set that is not in another

module _ (own predecessors : ℕ) (fit : predecessors < 2 ^ 64) where
  abbrev left : ℕ
  left = bit_and own ((2 ^ 64 - 1) - predecessors)

  left_bit : (i : ℕ) → i < 64 → bit left i ≡ (bit own i && not (bit predecessors i))
  left_bit i h = bit_of_and own ((2 ^ 64 - 1) - predecessors) i ∙ rw (bit_not 64 predecessors i fit h)

  pub nearest_is : LeastUnordered own predecessors (count_trailing_zeros 64 (bit_and own ((2 ^ 64 - 1) - predecessors)))
  nearest_is = record {
    hit = λ h. sym (left_bit (count_trailing_zeros 64 left) h) ∙ least_in 64 left h;
    low = λ i h e. dite (dec_lt i (count_trailing_zeros 64 left))
        (λ (y : i < count_trailing_zeros 64 left). absurd (true≢false (sym (left_bit i h ∙ e) ∙ least_below 64 left i y)))
        (λ (n : ¬ (i < count_trailing_zeros 64 left)). omega arith);
  }

-- ---- the moves of each agent

below_same : (i j : ℕ) → i ≢ j → ltb i (j + 1) ≡ ltb i j
below_same i j n = dite (dec_lt i j)
    (λ (h : i < j). lt-ltb i (j + 1) (omega arith) ∙ sym (lt-ltb i j h))
    (λ (h : ¬ (i < j)). le-ltb i (j + 1) (omega arith) ∙ sym (le-ltb i j (omega arith)))

module _ (t : List ℕ) where
  -- own has for each of 16 agents the set of its moves among the first j
  pub record Own (j : ℕ) (own : List ℕ) : Type 0 where
    pub long : length own ≡ 16
    pub bits : (a i : ℕ) → a < 16 → bit (get_or own a 0) i ≡ (ltb i j && eqb (agent_below_16 t i) a)

  pub own_start : Own 0 (replicate 16 0)
  own_start = record {
    long = length-replicate {A = ℕ} 16 0;
    bits = λ a i h. rw (row_none 16 a, bit_empty i, le-ltb i 0 (omega arith));
  }

  module _ (j : ℕ) (own : List ℕ) (h : j < 64) (w : Own j own) where
    abbrev k : ℕ
    k = agent_below_16 t j

    abbrev own' : List ℕ
    own' = set own k (bit_or (get_or own k 0) ((1 * 2 ^ j) % 2 ^ 64))

    k_low : k < 16
    k_low = omega arith

    here : (i : ℕ) → bit (get_or own' k 0) i ≡ (ltb i (j + 1) && eqb (agent_below_16 t i) k)
    here i =
        rw (
          get_or-set_same own k (bit_or (get_or own k 0) ((1 * 2 ^ j) % 2 ^ 64)) 0 (omega (arith, w.long, k_low)),
          shl_one j h,
          bit_of_or (get_or own k 0) (2 ^ j) i,
          bit_one j i,
          w.bits k i k_low,
        )
        (dite (ℕ_discrete i j)
        (λ (e : i ≡ j). rw (e, eq-eqb j j refl, lt-ltb j (j + 1) (omega arith), eq-eqb k k refl) (or-true (ltb j j && true)))
        (λ (n : i ≢ j). rw (ne_eqb j i (λ (e : j ≡ i). n (sym e)), below_same i j n) (or-false (ltb i j && eqb (agent_below_16 t i) k))))

    other : (a i : ℕ) → a < 16 → a ≢ k → bit (get_or own' a 0) i ≡ (ltb i (j + 1) && eqb (agent_below_16 t i) a)
    other a i l n =
        ap (λ (x : ℕ). bit x i) (get_or-set_other own k a (bit_or (get_or own k 0) ((1 * 2 ^ j) % 2 ^ 64)) 0 n) ∙ w.bits a i l
        ∙ dite (ℕ_discrete i j)
        (λ (e : i ≡ j). rw (e, ne_eqb k a (λ (q : k ≡ a). n (sym q))) (and-false (ltb j j) ∙ sym (and-false (ltb j (j + 1)))))
        (λ (m : i ≢ j). rw (below_same i j m))

    pub own_turn : Own (j + 1) (set own (agent_below_16 t j) (bit_or (get_or own (agent_below_16 t j) 0) ((1 * 2 ^ j) % 2 ^ 64)))
    own_turn = record {
      long = length-set own k (bit_or (get_or own k 0) ((1 * 2 ^ j) % 2 ^ 64)) ∙ w.long;
      bits = λ a i l. dite (ℕ_discrete a k) (λ (e : a ≡ k). rw e (here i)) (λ (n : a ≢ k). other a i l n);
    }

    -- the least of the agent's earlier moves that is not ordered with move j
    module _ (r : ℕ) (n : LeastUnordered (get_or own (agent_below_16 t j) 0) (get_or t j 0) r) where
      pub own_hit : r < 64 → (r < j) × (one_agent_unordered_in t r j ≡ true)
      own_hit l =
          let e = and_cases (bit (get_or own k 0) r) (not (bit (get_or t j 0) r)) (n.hit l) in
          let f = and_cases (ltb r j) (eqb (agent_below_16 t r) k) (sym (w.bits k r k_low) ∙ e.0) in
          (ltb-true r j f.0, rw (f.1, e.1))

      pub own_low : (i : ℕ) → i < j → one_agent_unordered_in t i j ≡ true → r ≤ i
      own_low i l e =
          let f = and_cases (eqb (agent_below_16 t i) k) (not (bit (get_or t j 0) i)) e in
          let b : bit (get_or own k 0) i ≡ true = w.bits k i k_low ∙ rw (lt-ltb i j l, f.0) in
          n.low i (omega arith) (rw (b, f.1))

  -- refusal 10 at the least pair, as the code answers it
  pub ten : (m a b n : ℕ) (r : Answer) → m ≡ min n 64 → Best (one_agent_unordered_in t) m a b → r ≡ answer_of (must (leb 64 a) 10 a b) → r ≡ answer_of (check_agents_in t n)
  unfolding check_agents_in no_pair_at must
  ten m a b n r q s e = dite (dec_lt a 64)
      (λ (h : a < 64). let f = best_found (one_agent_unordered_in t) m a b s h in e ∙ rw (lt-leb 64 a h, ← q, f))
      (λ (h : ¬ (a < 64)).
      let f = best_none (one_agent_unordered_in t) m a b (omega arith) s (omega arith) in
      let l : leb 64 a ≡ true = le-leb 64 a (omega arith) in
      e ∙ rw (l, ← q, f))

-- ---- for callers: of the table of a log whose agents are below 16

module _ (g : Log) (t : List ℕ) (o : OrderTable g t) (few : length g.moves ≤ 64) (low : (i : ℕ) → i < length g.moves → (move_at g i).agent < 16) where
  agent_is : (i : ℕ) → i < length g.moves → agent_below_16 t i ≡ (move_at g i).agent
  agent_is i h = omega (arith, o.agents i h, low i h)

  pub agents_checked : check_agents_in t (length g.moves) ≡ check_agents g
  unfolding check_agents_in check_agents
  agents_checked =
      let m = length g.moves in
      let e : min m 64 ≡ m = omega arith in
      rw e (ap (no_pair_at 10) (two_same (one_agent_unordered_in t) (one_agent_unordered (predecessors g.pairs m) g) m
      (λ i j a b. rw (agent_is i (omega arith), agent_is j b, o.predecessors j b))))

  -- what `agent_of_move` gives is the agent of the move
  pub agent_at : (i : ℕ) → i < length g.moves → agent_in t i % 2 ^ 32 ≡ (move_at g i).agent
  agent_at i h = omega (arith, o.agents i h, low i h)

-- a log that passes refusals 1 and 9 is accepted if it passes refusal 10
pub log_checked : (B : Program) (text : List ℕ) (g : Log) (t : List ℕ) → length B.agents ≤ 16 → read_log (length B.agents) B.E text ≡ good g → OrderTable g t
    → check_log B text ≡ (check_agents_in t (length g.moves) >> good g)
unfolding check_log ◌>>=◌
log_checked B text g t all e o =
    let p = read_passed (length B.agents) B.E text g e in
    rw (e, agents_checked g t o p.few (λ i h. omega (arith, p.agents i h)))
