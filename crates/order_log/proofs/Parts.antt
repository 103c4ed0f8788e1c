-- What the loops that read a log's lines put into the table, and what pairs that pass have.
use Rattle.std.specs.Prelude.{None}
use mathlib.Core.Path.{◌≡◌, ◌∙◌}
use mathlib.Core.Logic.{◌⊎◌, inl, inr, dite, ◌≢◌}
use mathlib.Core.Bool.{true, false, ◌&&◌, ◌||◌}
use mathlib.Core.List.{List}
use Prim.Native.Nat.{ℕ, zero, suc, ◌+◌, ◌-◌, ◌*◌, ◌%◌, ◌^◌, ◌≤◌, ◌<◌}
use native.Mathlib.Numerals.{add-one}
use native.Mathlib.Omega.{arith}
use native.Mathlib.Decide.{ℕ_discrete}
use lib.Dec.{eqb, ltb}
use lib.Bits.{bit_or}
use lib.ListN.{length, get_or, set, length-set}
use lib.Seq.{get_or-set_same, get_or-set_other}
use borrow.Author.Tests.{ltb-true, eqb-true, not-false}
use Rattle.text.specs.declared.Line.{Line}
use Rattle.text.specs.Words.{table_from, table, least}
use Rattle.text.specs.Text.{line}
use Rattle.text.proofs.Words.{and_cases, or_cases, least_none}
use Rattle.order.specs.Pairs.{Pair}
use Rattle.order.specs.Log.{ascends, bad_pair, bad_pair_at}
use Rattle.order.specs.Table.{predecessors_in, agent_in, first_in, end_in}
use Rattle.order.proofs.Masks.{shl_one}
use Rattle.order_log.specs.Read.{pair_at, pair_put, pairs_put}
use Rattle.order_log.proofs.Chaining.{Up}

-- ---- the moves

-- in the table t the first n moves have no predecessors, their agents, and no picks
pub record Filled (f : ℕ → ℕ) (n : ℕ) (t : List ℕ) : Type 0 where
  pub long : length t ≡ 512
  pub predecessors : (j : ℕ) → j < n → predecessors_in t j ≡ 0
  pub agents : (i : ℕ) → i < n → agent_in t i ≡ f i
  pub picks : (i : ℕ) → i < n → (first_in t i ≡ 0) × (end_in t i ≡ 0)

-- the words of move i as the code writes them
abbrev pub filled : List ℕ → ℕ → ℕ → List ℕ
filled t i v = set (set (set (set t i 0) (64 + i) v) (128 + i) 0) (192 + i) 0

module _ (t : List ℕ) (i v : ℕ) (h : i < 64) (long : length t ≡ 512) where
  abbrev one : List ℕ
  one = set t i 0

  abbrev two : List ℕ
  two = set one (64 + i) v

  abbrev three : List ℕ
  three = set two (128 + i) 0

  one_long : length one ≡ 512
  one_long = length-set t i 0 ∙ long

  two_long : length two ≡ 512
  two_long = length-set one (64 + i) v ∙ one_long

  three_long : length three ≡ 512
  three_long = length-set two (128 + i) 0 ∙ two_long

  filled_long : length (filled t i v) ≡ 512
  filled_long = length-set three (192 + i) 0 ∙ three_long

  filled_other : (j : ℕ) → j ≢ i → j ≢ 64 + i → j ≢ 128 + i → j ≢ 192 + i → get_or (filled t i v) j 0 ≡ get_or t j 0
  filled_other j a b c d =
      get_or-set_other three (192 + i) j 0 0 d ∙ get_or-set_other two (128 + i) j 0 0 c ∙ get_or-set_other one (64 + i) j v 0 b ∙ get_or-set_other t i j 0 0 a

  row_filled : predecessors_in (filled t i v) i ≡ 0
  row_filled =
      get_or-set_other three (192 + i) i 0 0 (λ e. absurd (omega arith)) ∙ get_or-set_other two (128 + i) i 0 0 (λ e. absurd (omega arith))
      ∙ get_or-set_other one (64 + i) i v 0 (λ e. absurd (omega arith)) ∙ get_or-set_same t i 0 0 (omega arith)

  agent_filled : agent_in (filled t i v) i ≡ v
  agent_filled =
      get_or-set_other three (192 + i) (64 + i) 0 0 (λ e. absurd (omega arith)) ∙ get_or-set_other two (128 + i) (64 + i) 0 0 (λ e. absurd (omega arith))
      ∙ get_or-set_same one (64 + i) v 0 (omega (arith, one_long))

  picks_filled : (first_in (filled t i v) i ≡ 0) × (end_in (filled t i v) i ≡ 0)
  picks_filled = (
    get_or-set_other three (192 + i) (128 + i) 0 0 (λ e. absurd (omega arith)) ∙ get_or-set_same two (128 + i) 0 0 (omega (arith, two_long)),
    get_or-set_same three (192 + i) 0 0 (omega (arith, three_long)),
  )

  -- the words of another move j stay
  module _ (j : ℕ) (l : j < 64) (n : j ≢ i) where
    row_other : predecessors_in (filled t i v) j ≡ predecessors_in t j
    row_other = filled_other j n (λ e. absurd (omega arith)) (λ e. absurd (omega arith)) (λ e. absurd (omega arith))

    agent_other : agent_in (filled t i v) j ≡ agent_in t j
    agent_other = filled_other (64 + j) (λ e. absurd (omega arith)) (λ e. n (omega arith)) (λ e. absurd (omega arith)) (λ e. absurd (omega arith))

    first_other : first_in (filled t i v) j ≡ first_in t j
    first_other = filled_other (128 + j) (λ e. absurd (omega arith)) (λ e. absurd (omega arith)) (λ e. n (omega arith)) (λ e. absurd (omega arith))

    end_other : end_in (filled t i v) j ≡ end_in t j
    end_other = filled_other (192 + j) (λ e. absurd (omega arith)) (λ e. absurd (omega arith)) (λ e. absurd (omega arith)) (λ e. n (omega arith))

module _ (f : ℕ → ℕ) (t : List ℕ) where
  pub filled_start : length t ≡ 512 → Filled f 0 t
  filled_start e = record { long = e; predecessors = λ j h. absurd (omega arith); agents = λ i h. absurd (omega arith); picks = λ i h. absurd (omega arith) }

  pub filled_turn : (i v : ℕ) → i < 64 → v ≡ f i → Filled f i t → Filled f (i + 1) (filled t i v)
  filled_turn i v h e w =
      let s = w.long in
      record {
        long = filled_long t i v h s;
        predecessors = λ j k. dite (ℕ_discrete j i) (λ (q : j ≡ i). rw q (row_filled t i v h s))
            (λ (q : j ≢ i). row_other t i v h s j (omega arith) q ∙ w.predecessors j (omega arith));
        agents = λ j k. dite (ℕ_discrete j i) (λ (q : j ≡ i). rw q (agent_filled t i v h s ∙ e))
            (λ (q : j ≢ i). agent_other t i v h s j (omega arith) q ∙ w.agents j (omega arith));
        picks = λ j k. dite (ℕ_discrete j i) (λ (q : j ≡ i). rw q (picks_filled t i v h s))
            (λ (q : j ≢ i). let r = w.picks j (omega arith) in
            (first_other t i v h s j (omega arith) q ∙ r.0, end_other t i v h s j (omega arith) q ∙ r.1));
      }

-- ---- the pairs

ascends_le : (k l : Line) → ascends k l ≡ true → k.a ≤ l.a
ascends_le k l e = go (or_cases (ltb k.a l.a) (eqb k.a l.a && ltb k.b l.b) e)
  where
    go : (ltb k.a l.a ≡ true) ⊎ ((eqb k.a l.a && ltb k.b l.b) ≡ true) → k.a ≤ l.a
    go (inl t) = let h : k.a < l.a = ltb-true k.a l.a t in omega arith
    go (inr t) = let h : k.a ≡ l.a = eqb-true k.a l.a (and_cases (eqb k.a l.a) (ltb k.b l.b) t).0 in omega arith

module _ (m : ℕ) (k l : Line) (i : ℕ) (e : bad_pair m k l i ≡ false) where
  parts : ((ltb l.a l.b && ltb l.b m) ≡ true) × ((eqb i 0 || ascends k l) ≡ true)
  parts =
      let up = ltb l.a l.b && ltb l.b m in
      let later = up && (eqb i 0 || ascends k l) in
      let t = not-false (later && eqb l.c 0 && eqb l.d 0) e in
      let t2 = (and_cases (later && eqb l.c 0) (eqb l.d 0) t).0 in
      and_cases up (eqb i 0 || ascends k l) (and_cases later (eqb l.c 0) t2).0

  -- a pair that is not at fault goes upwards, below m
  pair_below : (l.a < l.b) × (l.b < m)
  pair_below =
      let t = and_cases (ltb l.a l.b) (ltb l.b m) parts.0 in
      (ltb-true l.a l.b t.0, ltb-true l.b m t.1)

  -- the earlier move of a pair is not below that of the pair before it
  pair_after : i ≢ 0 → k.a ≤ l.a
  pair_after n = go (or_cases (eqb i 0) (ascends k l) parts.1)
    where
      go : (eqb i 0 ≡ true) ⊎ (ascends k l ≡ true) → k.a ≤ l.a
      go (inl t) = absurd (n (eqb-true i 0 t))
      go (inr t) = ascends_le k l t

up_from : (f : ℕ → Pair) (m lo i n : ℕ) → ((j : ℕ) → i ≤ j → j < i + n → ((f j).earlier < (f j).later) × ((f j).later < m))
    → ((j : ℕ) → i ≤ j → suc j < i + n → (f j).earlier ≤ (f (suc j)).earlier) → (0 < n → lo ≤ (f i).earlier) → Up m lo (table_from f i n)
unfolding table_from
up_from f m lo i zero g s l = tt
up_from f m lo i (suc n) g s l = (
  l (omega arith),
  (g i (omega arith) (omega arith)).0,
  (g i (omega arith) (omega arith)).1,
  up_from f m (f i).earlier (suc i) n (λ j a b. g j (omega arith) (omega arith)) (λ j a b. s j (omega arith) (omega arith))
      (λ h. s i (omega arith) (omega arith)),
)

-- n pair lines of m moves, none at fault
module _ (m : ℕ) (text : List ℕ) (n : ℕ) (e : least (bad_pair_at m text) n ≡ None) where
  pair_small : (i : ℕ) → i < n → ((line text (1 + m + i)).a < (line text (1 + m + i)).b) × ((line text (1 + m + i)).b < m)
  pair_small i h = pair_below m (line text (m + i)) (line text (1 + m + i)) i (least_none (bad_pair_at m text) n e i h)

  pub up : Up m 0 (table (pair_at m text) n)
  up = up_from (pair_at m text) m 0 0 n (λ j a b. pair_small j (omega arith)) next (λ h. omega arith)
    where
      next : (j : ℕ) → 0 ≤ j → suc j < 0 + n → (line text (1 + m + j)).a ≤ (line text (1 + m + suc j)).a
      next j a b =
          let z : m + suc j ≡ 1 + m + j = omega arith in
          rw z at (pair_after m (line text (m + suc j)) (line text (1 + m + suc j)) (suc j)
          (least_none (bad_pair_at m text) n e (suc j) (omega arith)) (λ (q : suc j ≡ 0). absurd (omega arith)))

-- one pair more, as the code puts it in
pub joined : (t : List ℕ) (a b : ℕ) → a < 64 → set t b (bit_or (get_or t b 0) (bit_or (get_or t a 0) ((1 * 2 ^ a) % 2 ^ 64))) ≡ pair_put t a b
joined t a b h = rw (shl_one a h)

-- the table with the n pairs of f from pair i on put in
abbrev pub left : (ℕ → Pair) → ℕ → ℕ → List ℕ → List ℕ
left f n i t = pairs_put (table_from f i (n - i)) t

module _ (f : ℕ → Pair) (n : ℕ) where
  pub left_all : (s : List ℕ) → left f n 0 s ≡ pairs_put (table f n) s
  left_all s = let e : n - 0 ≡ n = omega arith in rw e

  pub left_turn : (i : ℕ) (t : List ℕ) → i < n → left f n (i + 1) (pair_put t (f i).earlier (f i).later) ≡ left f n i t
  unfolding pairs_put table_from
  left_turn i t h = let e : n - i ≡ suc (n - (i + 1)) = omega arith in rw (e, add-one i)

  pub left_end : (i : ℕ) (t : List ℕ) → n ≤ i → left f n i t ≡ t
  unfolding pairs_put table_from
  left_end i t h = let e : n - i ≡ 0 = omega arith in rw e
