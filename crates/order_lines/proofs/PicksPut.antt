-- Choices that are not at fault, put in one after the other: each move then has its own picks, since the choices ascend by their move.
use Rattle.std.specs.Prelude.{None}
use Rattle.std.specs.Prelude.{if◌then◌else◌}
use mathlib.Core.Path.{◌≡◌, refl, sym, ap, ◌∙◌}
use mathlib.Core.Logic.{◌⊎◌, inl, inr, dite, ◌≢◌}
use mathlib.Core.Bool.{Bool, true, false, ◌||◌}
use mathlib.Core.List.{List, ◌∷◌}
use Prim.Native.Nat.{ℕ, zero, suc, ◌+◌, ◌-◌, ◌≤◌, ◌<◌}
use native.Mathlib.Omega.{arith}
use native.Mathlib.Decide.{ℕ_discrete, dec_lt}
use borrow.Author.Tests.{eqb-true, leb-true, eq-eqb, ne_eqb}
use lib.Dec.{eqb, leb}
use lib.ListN.{length, get_or, set, take, drop, length-set}
use lib.Seq.{get_or-set_same, get_or-set_other, drop-cons}
use Rattle.text.specs.Words.{table_from, table, least}
use Rattle.text.specs.Text.{line}
use Rattle.text.proofs.Words.{or_cases, least_none}
use Rattle.order.specs.Log.{Choice, choice_at, picks_of, bad_choice_at}
use Rattle.order.specs.Table.{first_in, end_in, picks_in}
use Rattle.order.proofs.Log.{choice_low}
use Rattle.order.proofs.Picks.{picks_run}
use Rattle.order_lines.specs.Lines.{pick_put, picks_put}

-- ---- one choice

-- the table with a word put, if the test passes
abbrev put_if : Bool → List ℕ → ℕ → ℕ → List ℕ
put_if b t p v = if b then set t p v else t

put_long : (b : Bool) (t : List ℕ) (p v : ℕ) → length (put_if b t p v) ≡ length t
put_long true t p v = length-set t p v
put_long false t p v = refl

put_same : (b : Bool) (t : List ℕ) (p v : ℕ) → p < length t → get_or (put_if b t p v) p 0 ≡ (if b then v else get_or t p 0)
put_same true t p v h = get_or-set_same t p v 0 h
put_same false t p v h = refl

put_other : (b : Bool) (t : List ℕ) (p v j : ℕ) → j ≢ p → get_or (put_if b t p v) j 0 ≡ get_or t j 0
put_other true t p v j n = get_or-set_other t p j v 0 n
put_other false t p v j n = refl

-- pick k, the element y, of move x is put in
module _ (t : List ℕ) (k x y : ℕ) (long : length t ≡ 512) (few : x < 64) (most : k < 256) where
  abbrev with_first : List ℕ
  with_first = put_if (eqb (end_in t x) 0) t (128 + x) k

  abbrev with_end : List ℕ
  with_end = set with_first (192 + x) (k + 1)

  first_long : length with_first ≡ 512
  first_long = put_long (eqb (end_in t x) 0) t (128 + x) k ∙ long

  end_long : length with_end ≡ 512
  end_long = length-set with_first (192 + x) (k + 1) ∙ first_long

  filed_long : length (pick_put t k x y) ≡ 512
  filed_long = length-set with_end (256 + k) y ∙ end_long

  filed_other : (j : ℕ) → j ≢ 128 + x → j ≢ 192 + x → j ≢ 256 + k → get_or (pick_put t k x y) j 0 ≡ get_or t j 0
  filed_other j a b c =
      get_or-set_other with_end (256 + k) j y 0 c ∙ get_or-set_other with_first (192 + x) j (k + 1) 0 b ∙ put_other (eqb (end_in t x) 0) t (128 + x) k j a

  filed_first : first_in (pick_put t k x y) x ≡ (if eqb (end_in t x) 0 then k else first_in t x)
  filed_first =
      get_or-set_other with_end (256 + k) (128 + x) y 0 (λ (e : 128 + x ≡ 256 + k). absurd (omega arith))
      ∙ get_or-set_other with_first (192 + x) (128 + x) (k + 1) 0 (λ (e : 128 + x ≡ 192 + x). absurd (omega arith))
      ∙ put_same (eqb (end_in t x) 0) t (128 + x) k (omega arith)

  filed_end : end_in (pick_put t k x y) x ≡ k + 1
  filed_end =
      get_or-set_other with_end (256 + k) (192 + x) y 0 (λ (e : 192 + x ≡ 256 + k). absurd (omega arith))
      ∙ get_or-set_same with_first (192 + x) (k + 1) 0 (omega (arith, first_long))

  filed_pick : get_or (pick_put t k x y) (256 + k) 0 ≡ y
  filed_pick = get_or-set_same with_end (256 + k) y 0 (omega (arith, end_long))

-- ---- the picks of one move

-- of the first k choices of f those of move i are the ones from a up to e; e is 0 where there are none
record Run (f : ℕ → Choice) (i k a e : ℕ) : Type 0 where
  first : a ≤ e
  some : 0 < e → a < e
  end : e ≤ k
  before : (j : ℕ) → j < a → (f j).move ≢ i
  inside : (j : ℕ) → a ≤ j → j < e → (f j).move ≡ i
  after : (j : ℕ) → e ≤ j → j < k → (f j).move ≢ i

module _ (f : ℕ → Choice) (i k a e : ℕ) (w : Run f i k a e) where
  -- choice k is of another move: the picks of move i stay
  run_other : (f k).move ≢ i → Run f i (suc k) a e
  run_other n = record {
    first = w.first;
    some = w.some;
    end = omega (arith, w.end);
    before = w.before;
    inside = w.inside;
    after = λ j p q. dite (ℕ_discrete j k) (λ (z : j ≡ k). rw z n) (λ (z : j ≢ k). w.after j p (omega arith));
  }

  -- choice k is of move i, which has picks already: they end right before it
  run_joined : ((j l : ℕ) → j ≤ l → l ≤ k → (f j).move ≤ (f l).move) → (f k).move ≡ i → 0 < e → e ≡ k
  run_joined up q h = dite (dec_lt e k)
      (λ (l : e < k). absurd (w.after (k - 1) (omega arith) (omega arith)
      (omega (arith, q, up (e - 1) (k - 1) (omega arith) (omega arith), up (k - 1) k (omega arith) (omega arith), w.inside (e - 1) (omega (arith, w.some h)) (omega arith)))))
      (λ (l : ¬ (e < k)). omega (arith, w.end))

  run_same : (0 < e → e ≡ k) → (f k).move ≡ i → Run f i (suc k) (if eqb e 0 then k else a) (k + 1)
  run_same joined q = dite (ℕ_discrete e 0) (λ (z : e ≡ 0). rw (eq-eqb e 0 z) (new z)) (λ (z : e ≢ 0). rw (ne_eqb e 0 z) (old (joined (omega arith))))
    where
      here : (j : ℕ) → j ≡ k → (f j).move ≡ i
      here j z = rw z q

      new : e ≡ 0 → Run f i (suc k) k (k + 1)
      new z = record {
        first = omega arith;
        some = λ _. omega arith;
        end = omega arith;
        before = λ j p. w.after j (omega arith) p;
        inside = λ j p r. here j (omega arith);
        after = λ j p r. absurd (omega arith);
      }

      old : e ≡ k → Run f i (suc k) a (k + 1)
      old z = record {
        first = omega (arith, w.first);
        some = λ _. omega (arith, w.first);
        end = omega arith;
        before = w.before;
        inside = λ j p r. dite (dec_lt j e) (λ (l : j < e). w.inside j p l) (λ (l : ¬ (j < e)). here j (omega arith));
        after = λ j p r. absurd (omega arith);
      }

-- ---- all choices

-- the first k choices of f, of m moves, are put into the table s, which is now t
record Put (f : ℕ → Choice) (m : ℕ) (s : List ℕ) (k : ℕ) (t : List ℕ) : Type 0 where
  long : length t ≡ 512
  kept : (j : ℕ) → j < 128 → get_or t j 0 ≡ get_or s j 0
  runs : (i : ℕ) → i < m → Run f i k (first_in t i) (end_in t i)
  elements : (j : ℕ) → j < k → get_or t (256 + j) 0 ≡ (f j).element

-- a part of a table, from its words
part_is : (g : ℕ → ℕ) (t : List ℕ) (b a c : ℕ) → b + c ≤ length t → ((j : ℕ) → j < c → get_or t (b + j) 0 ≡ g (a + j)) → take c (drop b t) ≡ table_from g a c
unfolding table_from
part_is g t b a zero h e = refl
part_is g t b a (suc c) h e =
    let z : b + 0 ≡ b = omega arith in
    let y : a + 0 ≡ a = omega arith in
    let first : get_or t b 0 ≡ g a = rw (z, y) at (e 0 (omega arith)) in
    rw (drop-cons t b 0 (omega arith), first) (ap (◌∷◌ (g a)) (part_is g t (suc b) (suc a) c (omega arith) (λ j l.
    let u : b + suc j ≡ suc b + j = omega arith in let v : a + suc j ≡ suc a + j = omega arith in rw (u, v) at (e (suc j) (omega arith)))))

module _
    (f : ℕ → Choice) (m n : ℕ) (few : m ≤ 64) (most : n ≤ 256) (low : (j : ℕ) → j < n → (f j).move < m)
    (up : (j l : ℕ) → j ≤ l → l < n → (f j).move ≤ (f l).move) (s : List ℕ)
  where
    put_start : length s ≡ 512 → ((i : ℕ) → i < m → (first_in s i ≡ 0) × (end_in s i ≡ 0)) → Put f m s 0 s
    put_start long clear = record {
      long = long;
      kept = λ j h. refl;
      runs = λ i h. rw ((clear i h).0, (clear i h).1) (record {
        first = omega arith;
        some = λ p. p;
        end = omega arith;
        before = λ j p. absurd (omega arith);
        inside = λ j p q. absurd (omega arith);
        after = λ j p q. absurd (omega arith);
      });
      elements = λ j h. absurd (omega arith);
    }

    module _ (k : ℕ) (t : List ℕ) (h : k < n) (w : Put f m s k t) where
      abbrev x : ℕ
      x = (f k).move

      abbrev t' : List ℕ
      t' = pick_put t k x (f k).element

      lim : x < 64
      lim = omega (arith, low k h)

      top : k < 256
      top = omega arith

      other : (j : ℕ) → j ≢ 128 + x → j ≢ 192 + x → j ≢ 256 + k → get_or t' j 0 ≡ get_or t j 0
      other = filed_other t k x (f k).element w.long lim top

      here : Run f x (suc k) (first_in t' x) (end_in t' x)
      here =
          let r = w.runs x (low k h) in
          rw (filed_first t k x (f k).element w.long lim top, filed_end t k x (f k).element w.long lim top)
          (run_same f x k (first_in t x) (end_in t x) r
          (run_joined f x k (first_in t x) (end_in t x) r (λ j l p q. up j l p (omega arith)) refl) refl)

      there : (i : ℕ) → i < m → x ≢ i → Run f i (suc k) (first_in t' i) (end_in t' i)
      there i l n =
          let a : first_in t' i ≡ first_in t i = other (128 + i) (λ (e : 128 + i ≡ 128 + x). n (omega arith)) (λ (e : 128 + i ≡ 192 + x). absurd (omega arith))
          (λ (e : 128 + i ≡ 256 + k). absurd (omega arith)) in
          let b : end_in t' i ≡ end_in t i = other (192 + i) (λ (e : 192 + i ≡ 128 + x). absurd (omega (arith, lim))) (λ (e : 192 + i ≡ 192 + x). n (omega arith))
          (λ (e : 192 + i ≡ 256 + k). absurd (omega arith)) in
          rw (a, b) (run_other f i k (first_in t i) (end_in t i) (w.runs i l) n)

      put_turn : Put f m s (suc k) t'
      put_turn = record {
        long = filed_long t k x (f k).element w.long lim top;
        kept = λ j l. other j (λ (e : j ≡ 128 + x). absurd (omega arith)) (λ (e : j ≡ 192 + x). absurd (omega arith)) (λ (e : j ≡ 256 + k). absurd (omega arith))
            ∙ w.kept j l;
        runs = λ i l. dite (ℕ_discrete x i) (λ (e : x ≡ i). rw (← e) here) (λ (e : x ≢ i). there i l e);
        elements = λ j l. dite (ℕ_discrete j k)
            (λ (e : j ≡ k). rw e (filed_pick t k x (f k).element w.long lim top))
            (λ (e : j ≢ k). other (256 + j) (λ (q : 256 + j ≡ 128 + x). absurd (omega (arith, lim))) (λ (q : 256 + j ≡ 192 + x). absurd (omega (arith, lim)))
            (λ (q : 256 + j ≡ 256 + k). e (omega arith)) ∙ w.elements j (omega arith));
      }

    put_all : (r k : ℕ) (t : List ℕ) → k + r ≤ n → Put f m s k t → Put f m s (k + r) (picks_put (table_from f k r) k t)
    unfolding picks_put table_from
    put_all zero k t h w = let z : k + 0 ≡ k = omega arith in rw z w
    put_all (suc r) k t h w =
        let z : k + suc r ≡ suc k + r = omega arith in
        rw z (put_all r (suc k) (pick_put t k (f k).move (f k).element) (omega arith) (put_turn k t (omega arith) w))

    put_picks : (t : List ℕ) → Put f m s n t → (i : ℕ) → i < m → picks_in t i ≡ picks_of (table f n) i
    put_picks t w i h =
        let a = first_in t i in
        let e = end_in t i in
        let r = w.runs i h in
        part_is (λ j. (f j).element) t (256 + a) a (e - a) (omega (arith, r.first, r.end, w.long))
        (λ j l. let z : 256 + a + j ≡ 256 + (a + j) = omega arith in rw z (w.elements (a + j) (omega (arith, r.end))))
        ∙ sym (picks_run f i a e n r.first r.end r.before r.inside r.after)

-- ---- the choice lines of a log

-- n choice lines, none at fault
module _ (E m k : ℕ) (text : List ℕ) (n : ℕ) (none : least (bad_choice_at E m k text) n ≡ None) where
  abbrev f : ℕ → Choice
  f = choice_at k text

  low_parts : (j : ℕ) → j < n
      → ((line text (1 + k + j)).a < m) × ((line text (1 + k + j)).b < E) × ((eqb j 0 || leb (line text (k + j)).a (line text (1 + k + j)).a) ≡ true)
  low_parts j h = choice_low E m (line text (k + j)) (line text (1 + k + j)) j (least_none (bad_choice_at E m k text) n none j h)

  next_up : (j : ℕ) → suc j < n → (f j).move ≤ (f (suc j)).move
  next_up j h = go (or_cases (eqb (suc j) 0) (leb (line text (k + suc j)).a (line text (1 + k + suc j)).a) (low_parts (suc j) h).2)
    where
      go : (eqb (suc j) 0 ≡ true) ⊎ (leb (line text (k + suc j)).a (line text (1 + k + suc j)).a ≡ true) → (f j).move ≤ (f (suc j)).move
      go (inl e) = let z : suc j ≡ 0 = eqb-true (suc j) 0 e in absurd (omega arith)
      go (inr e) = let z : k + suc j ≡ 1 + k + j = omega arith in rw z at (leb-true (line text (k + suc j)).a (line text (1 + k + suc j)).a e)

  all_up : (j l : ℕ) → j ≤ l → l < n → (f j).move ≤ (f l).move
  all_up j zero p q = let z : j ≡ 0 = omega arith in rw z (omega arith)
  all_up j (suc l) p q = dite (ℕ_discrete j (suc l)) (λ (e : j ≡ suc l). rw e (omega arith))
      (λ (e : j ≢ suc l). omega (arith, all_up j l (omega arith) (omega arith), next_up l q))

  module _ (few : m ≤ 64) (most : n ≤ 256) (s : List ℕ) (long : length s ≡ 512) (clear : (i : ℕ) → i < m → (first_in s i ≡ 0) × (end_in s i ≡ 0)) where
    all_put : Put f m s n (picks_put (table f n) 0 s)
    all_put =
        let z : 0 + n ≡ n = omega arith in
        let low : (j : ℕ) → j < n → (f j).move < m = λ j h. (low_parts j h).0 in
        rw z at (put_all f m n few most low all_up s n 0 s (omega arith) (put_start f m n few most low all_up s long clear))

    -- each move has its picks in the table
    pub choices_picks : (i : ℕ) → i < m → picks_in (picks_put (table (choice_at k text) n) 0 s) i ≡ picks_of (table (choice_at k text) n) i
    choices_picks = put_picks f m n few most (λ j h. (low_parts j h).0) all_up s (picks_put (table f n) 0 s) all_put

    -- predecessors and agents stay in the table
    pub choices_keep : (j : ℕ) → j < 128 → get_or (picks_put (table (choice_at k text) n) 0 s) j 0 ≡ get_or s j 0
    choices_keep = all_put.kept
