-- What a log that passes its checks has.
use Rattle.std.specs.Prelude.{None}
use Rattle.std.specs.Prelude.{if◌then◌else◌}
use mathlib.Core.Path.{◌≡◌, ap, subst, ◌∙◌}
use mathlib.Core.Logic.{◌⊎◌, inl, inr, dite}
use mathlib.Core.Bool.{Bool, true, false, ◌&&◌, ◌||◌, false≢true}
use mathlib.Core.List.{List, ◌∷◌}
use Prim.Native.Nat.{ℕ, zero, suc, ◌+◌, ◌≤◌, ◌<◌}
use native.Mathlib.Omega.{arith}
use native.Mathlib.Decide.{dec_lt}
use borrow.Author.Tests.{eqb-true, ltb-true, leb-true, not-false}
use lib.Dec.{eqb, ltb, leb}
use lib.ListN.{length}
use Rattle.text.specs.declared.Line.{Line}
use Rattle.text.specs.Words.{has, table_from, least, good, ◌>>◌, none_at}
use Rattle.text.specs.Refusals.{ill_formed, log_text, log_line}
use Rattle.text.specs.Text.{bad_line, line}
use Rattle.text.proofs.Words.{and_cases, or_cases, length_table_from, getD_table, getD_table_past, least_none, bind_good, then_good, none_good, found_good, test_good, good_same}
use Rattle.book.specs.Book.{Program}
use Rattle.engine.specs.Move.{Input}
use Rattle.order.specs.Pairs.{Pair}
use Rattle.order.specs.Log.{Log, no_input, move_at, most_moves, most_pairs, most_picks, log_header_ok, bad_move, ascends, bad_pair, bad_choice, Choice, choice_at, picks_of, choices_of, input_of, pair_of, log_of, check_agents, check_log_header, check_log_text, bad_move_at, bad_pair_at, bad_choice_at, check_log_lines, read_log, check_log}
use Rattle.order.specs.Demand.{PairOf, count}

pub record Passed (A E : ℕ) (g : Log) : Type 0 where
  pub few : count g ≤ most_moves
  -- the agent of each move is one of the A
  pub agents : (i : ℕ) → i < count g → (move_at g i).agent < A
  -- pairs go upwards, and are pairs of the log's moves
  pub up : (a b : ℕ) → PairOf g.pairs a b → (a < b) × (b < count g)
  -- the picks of each move are elements
  pub picks : (i y : ℕ) → has (move_at g i).picks y ≡ true → y < E

-- a pair of a list made by place has a place in it
pair_in : (f : ℕ → Pair) (i n a b : ℕ) → PairOf (table_from f i n) a b → (j : ℕ) × (j < n) × ((f (i + j)).earlier ≡ a) × ((f (i + j)).later ≡ b)
unfolding table_from
pair_in f i zero a b p = absurd p
pair_in f i (suc n) a b (inl (e, q)) = let z : i + 0 ≡ i = omega arith in (zero, omega arith, ap (λ (x : ℕ). (f x).earlier) z ∙ e, ap (λ (x : ℕ). (f x).later) z ∙ q)
pair_in f i (suc n) a b (inr p) =
    let r = pair_in f (suc i) n a b p in
    let z : i + suc r.0 ≡ suc i + r.0 = omega arith in
    (suc r.0, omega (arith, r.1), ap (λ (x : ℕ). (f x).earlier) z ∙ r.2, ap (λ (x : ℕ). (f x).later) z ∙ r.3)

pair_up : (m : ℕ) (k l : Line) (i : ℕ) → bad_pair m k l i ≡ false → (l.a < l.b) × (l.b < m)
pair_up m k l i e =
    let up = ltb l.a l.b && ltb l.b m in
    let later = up && (eqb i 0 || ascends k l) in
    let t = not-false (later && eqb l.c 0 && eqb l.d 0) e in
    let t3 = (and_cases (later && eqb l.c 0) (eqb l.d 0) t).0 in
    let t2 = (and_cases later (eqb l.c 0) t3).0 in
    let t1 = (and_cases up (eqb i 0 || ascends k l) t2).0 in
    let t0 = and_cases (ltb l.a l.b) (ltb l.b m) t1 in
    (ltb-true l.a l.b t0.0, ltb-true l.b m t0.1)

agent_low : (A : ℕ) (l : Line) → bad_move A l ≡ false → l.a < A
agent_low A l e =
    let t = not-false (ltb l.a A && eqb l.b 0 && eqb l.c 0 && eqb l.d 0) e in
    let t2 = (and_cases (ltb l.a A && eqb l.b 0 && eqb l.c 0) (eqb l.d 0) t).0 in
    let t1 = (and_cases (ltb l.a A && eqb l.b 0) (eqb l.c 0) t2).0 in
    ltb-true l.a A (and_cases (ltb l.a A) (eqb l.b 0) t1).0

-- a pick of a list made by place has a place in it
pick_in : (f : ℕ → Choice) (k n i y : ℕ) → has (picks_of (table_from f k n) i) y ≡ true → (j : ℕ) × (j < n) × ((f (k + j)).element ≡ y)
unfolding table_from picks_of
pick_in f k zero i y h = absurd (false≢true h)
pick_in f k (suc n) i y h = go (eqb (f k).move i) h (pick_in f (suc k) n i y)
  where
    later : (j : ℕ) × (j < n) × ((f (suc k + j)).element ≡ y) → (j : ℕ) × (j < suc n) × ((f (k + j)).element ≡ y)
    later (j, a, e) = let z : k + suc j ≡ suc k + j = omega arith in (suc j, omega arith, ap (λ (x : ℕ). (f x).element) z ∙ e)

    here : (eqb (f k).element y ≡ true) ⊎ (has (picks_of (table_from f (suc k) n) i) y ≡ true)
        → (has (picks_of (table_from f (suc k) n) i) y ≡ true → (j : ℕ) × (j < n) × ((f (suc k + j)).element ≡ y))
        → (j : ℕ) × (j < suc n) × ((f (k + j)).element ≡ y)
    here (inl e) r = let z : k + 0 ≡ k = omega arith in (zero, omega arith, ap (λ (x : ℕ). (f x).element) z ∙ eqb-true (f k).element y e)
    here (inr e) r = later (r e)

    go : (b : Bool) → has (if b then (f k).element ∷ picks_of (table_from f (suc k) n) i else picks_of (table_from f (suc k) n) i) y ≡ true
        → (has (picks_of (table_from f (suc k) n) i) y ≡ true → (j : ℕ) × (j < n) × ((f (suc k + j)).element ≡ y))
        → (j : ℕ) × (j < suc n) × ((f (k + j)).element ≡ y)
    go false p r = later (r p)
    go true p r = here (or_cases (eqb (f k).element y) (has (picks_of (table_from f (suc k) n) i) y) p) r

-- what a choice line that is not at fault has: its move, its element, and the order of the lines
pub choice_low : (E m : ℕ) (k l : Line) (i : ℕ) → bad_choice E m k l i ≡ false → (l.a < m) × (l.b < E) × ((eqb i 0 || leb k.a l.a) ≡ true)
choice_low E m k l i e =
    let low = ltb l.a m && ltb l.b E in
    let later = low && (eqb i 0 || leb k.a l.a) in
    let t = not-false (later && eqb l.c 0 && eqb l.d 0) e in
    let t3 = (and_cases (later && eqb l.c 0) (eqb l.d 0) t).0 in
    let t2 = (and_cases later (eqb l.c 0) t3).0 in
    let t1 = and_cases low (eqb i 0 || leb k.a l.a) t2 in
    let t0 = and_cases (ltb l.a m) (ltb l.b E) t1.0 in
    (ltb-true l.a m t0.0, ltb-true l.b E t0.1, t1.1)

-- the bounds of the numbers in a log's header
pub header_few : (text : List ℕ) (h : Line) → check_log_header text ≡ good h → (h.a ≤ most_moves) × (h.b ≤ most_pairs) × (h.c ≤ most_picks)
unfolding check_log_header
header_few text h e =
    let l = line text 0 in
    let e1 = found_good ill_formed 0 log_text (least (bad_line text) 1) _ h e in
    let e9 = test_good (log_header_ok l) log_line 0 0 (good l) h e1.1 in
    let t2 = (and_cases (leb l.a most_moves && leb l.b most_pairs && leb l.c most_picks) (eqb l.d 0) e9.0).0 in
    let t1 = and_cases (leb l.a most_moves && leb l.b most_pairs) (leb l.c most_picks) t2 in
    let t0 = and_cases (leb l.a most_moves) (leb l.b most_pairs) t1.0 in
    subst (λ (x : Line). (x.a ≤ most_moves) × (x.b ≤ most_pairs) × (x.c ≤ most_picks)) (good_same l h e9.1)
    (leb-true l.a most_moves t0.0, leb-true l.b most_pairs t0.1, leb-true l.c most_picks t1.1)

-- the input of move i, as the lines say it
abbrev pub input_at : Line → List ℕ → ℕ → Input
input_at h text i = input_of (line text (1 + i)) (picks_of (choices_of h text) i)

module _ (A E : ℕ) (h : Line) (text : List ℕ) (u : Unit {0}) (e : check_log_lines A E h text ≡ good u) where
  -- no line of the log is at fault
  no_fault : (least (bad_move_at A text) h.a ≡ None) × (least (bad_pair_at h.a text) h.b ≡ None)
      × (least (bad_choice_at E h.a (h.a + h.b) text) h.c ≡ None)
  unfolding check_log_lines
  no_fault =
      let moves = least (bad_move_at A text) h.a in
      let pairs = least (bad_pair_at h.a text) h.b in
      let choices = least (bad_choice_at E h.a (h.a + h.b) text) h.c in
      let last = none_at log_line (1 + h.a + h.b) 0 choices in
      let e9 = found_good log_line 1 0 moves (none_at log_line (1 + h.a) 0 pairs >> last) u e in
      let e9' = found_good log_line (1 + h.a) 0 pairs last u e9.1 in
      (e9.0, e9'.0, none_good log_line (1 + h.a + h.b) 0 choices u e9'.1)

  lines_up : (a b : ℕ) → PairOf (log_of h text).pairs a b → (a < b) × (b < h.a)
  unfolding log_of
  lines_up a b p =
      let r = pair_in (λ i. pair_of (line text (1 + h.a + i))) 0 h.b a b p in
      let z : 0 + r.0 ≡ r.0 = omega arith in
      let t = pair_up h.a (line text (h.a + r.0)) (line text (1 + h.a + r.0)) r.0 (least_none (bad_pair_at h.a text) h.b no_fault.1 r.0 r.1) in
      let x : (line text (1 + h.a + r.0)).a ≡ a = rw z at r.2 in
      let y : (line text (1 + h.a + r.0)).b ≡ b = rw z at r.3 in
      (omega (arith, t.0, x, y), omega (arith, t.1, y))

  lines_low : (i : ℕ) → i < h.a → (move_at (log_of h text) i).agent < A
  unfolding log_of
  lines_low i k =
      rw (getD_table (input_at h text) h.a i no_input k)
      (agent_low A (line text (1 + i)) (least_none (bad_move_at A text) h.a no_fault.0 i k))

  choices_low : (i y : ℕ) → has (picks_of (choices_of h text) i) y ≡ true → y < E
  unfolding choices_of
  choices_low i y p =
      let k = h.a + h.b in
      let r = pick_in (choice_at k text) 0 h.c i y p in
      let z : 0 + r.0 ≡ r.0 = omega arith in
      let t = choice_low E h.a (line text (k + r.0)) (line text (1 + k + r.0)) r.0
      (least_none (bad_choice_at E h.a k text) h.c no_fault.2 r.0 r.1) in
      let x : (line text (1 + k + r.0)).b ≡ y = rw z at r.2 in
      omega (arith, t.1, x)

  picks_low : (i y : ℕ) → has (move_at (log_of h text) i).picks y ≡ true → y < E
  unfolding log_of
  picks_low i y p = dite (dec_lt i h.a) inside (λ (k : ¬ (i < h.a)). absurd (false≢true (rw (past (omega arith)) at p)))
    where
      past : h.a ≤ i → move_at (log_of h text) i ≡ no_input
      past k = getD_table_past (input_at h text) h.a i no_input k

      inside : i < h.a → y < E
      inside k = choices_low i y (rw (getD_table (input_at h text) h.a i no_input k) at p)

-- what a log that passes refusals 1 and 9 has
pub read_passed : (A E : ℕ) (text : List ℕ) (g : Log) → read_log A E text ≡ good g → Passed A E g
unfolding read_log log_of
read_passed A E text g e =
    let r = bind_good (check_log_header text) _ g e in
    let h = r.0 in
    let t = then_good (check_log_text h text) _ g r.2 in
    let u = then_good (check_log_lines A E h text) (good (log_of h text)) g t.2 in
    let m : count (log_of h text) ≡ h.a = length_table_from (input_at h text) 0 h.a in
    subst (Passed A E) (good_same (log_of h text) g u.2) (record {
      few = rw m (header_few text h r.1).0;
      agents = λ i k. lines_low A E h text u.0 u.1 i (omega (arith, m));
      up = λ a b p. rw m (lines_up A E h text u.0 u.1 a b p);
      picks = picks_low A E h text u.0 u.1;
    })

-- a log that passes refusals 1, 9 and 10 passes 1 and 9
pub log_read : (B : Program) (text : List ℕ) (g : Log) → check_log B text ≡ good g → read_log (length B.agents) B.E text ≡ good g
unfolding check_log
log_read B text g e =
    let r = bind_good (read_log (length B.agents) B.E text) (λ g. check_agents g >> good g) g e in
    let u = then_good (check_agents r.0) (good r.0) g r.2 in
    r.1 ∙ u.2

pub passed : (B : Program) (text : List ℕ) (g : Log) → check_log B text ≡ good g → Passed (length B.agents) B.E g
passed B text g e = read_passed (length B.agents) B.E text g (log_read B text g e)
