-- Refusal 15 of updates alone: a pass that compares each with the last one before it at its location finds the least location with two values.
use Rattle.std.specs.Prelude.{if◌then◌else◌}
use mathlib.Core.Path.{◌≡◌, refl, sym, ap, ◌∙◌}
use mathlib.Core.Logic.{dite}
use mathlib.Core.Bool.{Bool, true, false, ◌&&◌, ◌||◌, not, or-false, false≢true}
use mathlib.Core.List.{List, [], ◌∷◌, ◌++◌, map}
use Prim.Native.Nat.{ℕ, zero, suc, ◌+◌, ◌-◌, ◌%◌, ◌<◌, ◌≤◌}
use native.Mathlib.Nat.{mod-lt}
use native.Mathlib.Omega.{arith}
use native.Mathlib.Decide.{ℕ_discrete}
use borrow.Author.Tests.{eqb-true, eqb-false, leb-true, leb-false, ltb-true, ltb-false, eq-eqb, ne_eqb, lt-ltb, not-true}
use lib.Dec.{eqb, ltb, leb}
use lib.ListN.{length, get_or, take, set, replicate, length-set, length-replicate, get_or-replicate}
use lib.Seq.{take-suc, take_all, get_or-set_same, get_or-set_other}
use Rattle.std.proofs.lemmas.List.{get_or-take, length-take-le}
use Rattle.text.specs.Words.{has, some_below}
use Rattle.text.proofs.Words.{and_cases, refuted, some_below_true, some_below_from}
use Rattle.book.specs.Book.{Program}
use Rattle.engine.specs.declared.Instruction.{Instruction}
use Rattle.engine.specs.declared.Instruction.TheVariants.{Update}
use Rattle.engine.specs.Move.{label_of, released, other}
use Rattle.engine_instruction.specs.Code.{decode_of, decoded, items}
use Rattle.engine_instruction.specs.Given.{any}
use Rattle.engine_clash.specs.LeastClash.{held_place, values_given, values_given_by, least_clash}
use Rattle.engine_clash.specs.Steps.{releases, location_of, slot_of, Last, Linked, least_with_update}
use Rattle.engine_instruction.proofs.Laws.{or_assoc}
use Rattle.engine_clash.proofs.Laws.{other_any, has_any}
use Rattle.engine_clash.proofs.Best.{bad_one, best_le, best_here, least_clash_by}

slot_low : (c : ℕ) → slot_of c < 512
slot_low c = mod-lt (location_of c) (omega arith)

-- updates with one location have one slot
one_slot : (c d : ℕ) → location_of c ≡ location_of d → slot_of c ≡ slot_of d
one_slot c d e = ap (λ (l : ℕ). l % 512) e

-- ---- down to the last update at the location of c

-- from i up to p no update has the location of c
pub record Down (list : List ℕ) (c p i : ℕ) : Type 0 where
  pub low : i ≤ p
  pub skips : (k : ℕ) → i ≤ k → k < p → location_of (get_or list k 0) ≡ location_of c → ⊥

-- the last of a list of the first j updates alone is the last of the first j
pub last_alone : {list : List ℕ} {c j i : ℕ} → j ≤ length list → Last location_of (take j list) c (length (take j list)) i → Last location_of list c j i
last_alone {list} {c} {j} {i} h held =
    let n : length (take j list) ≡ j = length-take-le j list h in
    record {
      low = omega (arith, n, held.low);
      same = λ p. rw (← get_or-take j list (i - 1) 0 (omega (arith, n, held.low, p))) (held.same p);
      skips = λ k p q e. held.skips k p (omega (arith, n, q)) (rw (get_or-take j list k 0 q) e);
    }

-- ---- the pass

module _ (list : List ℕ) where
  abbrev code : ℕ → ℕ
  code k = get_or list k 0

  abbrev at : ℕ → ℕ
  at k = location_of (code k)

  -- two of the updates give location l different values
  pub record Rivals (l : ℕ) : Type 0 where
    pub one : ℕ
    pub two : ℕ
    pub one_in : one < length list
    pub two_in : two < length list
    pub one_at : at one ≡ l
    pub two_at : at two ≡ l
    pub differ : code one ≡ code two → ⊥

  -- what holds after the first j numbers, all of them updates, with b as the least at the start
  pub record Looked (b j least : ℕ) : Type 0 where
    pub updates : (k : ℕ) → k < j → code k < releases
    pub low : least ≤ b
    pub bad : least < b → Rivals least
    pub found : (i k : ℕ) → i < j → k < j → at i ≡ at k → (code i ≡ code k → ⊥) → least ≤ at k

  pub looked_start : (b : ℕ) → Looked b 0 b
  looked_start b =
      record {
        updates = λ k h. absurd (omega arith);
        low = omega arith;
        bad = λ h. absurd (omega arith);
        found = λ i k h. absurd (omega arith);
      }

  module _ {b j least i : ℕ} (so_far : Looked b j least) (more : j < length list) (held : Last location_of list (code j) j i) (update : code j < releases) where
    abbrev left : ℕ
    left = least_with_update list i (code j) least

    left_low : left ≤ least
    left_low = go (eqb i 0) (eqb (code (i - 1)) (code j)) (leb least (at j)) refl
      where
        go : (t s u : Bool) → leb least (at j) ≡ u → (if t then least else if s || u then least else at j) ≤ least
        go true s u q = omega arith
        go false true u q = omega arith
        go false false true q = omega arith
        go false false false q = omega (arith, leb-false)

    left_bad : left < b → Rivals left
    left_bad = go (eqb i 0) (eqb (code (i - 1)) (code j)) (leb least (at j)) refl refl
      where
        go :
            (t s u : Bool) → eqb i 0 ≡ t → eqb (code (i - 1)) (code j) ≡ s → (if t then least else if s || u then least else at j) < b →
            Rivals (if t then least else if s || u then least else at j)
        go true s u q r h = so_far.bad h
        go false true u q r h = so_far.bad h
        go false false true q r h = so_far.bad h
        go false false false q r h =
            let z = eqb-false i 0 q in
            record {
              one = i - 1;
              two = j;
              one_in = omega (arith, held.low);
              two_in = more;
              one_at = held.same (omega (arith, z));
              two_at = refl;
              differ = eqb-false (code (i - 1)) (code j) r;
            }

    -- an earlier update of the same location with another value has been found
    left_found : (k : ℕ) → k < j → at k ≡ at j → (code k ≡ code j → ⊥) → left ≤ at j
    left_found k h e d = go (eqb i 0) (eqb (code (i - 1)) (code j)) (leb least (at j)) refl refl refl
      where
        -- the earlier update is no later than the last one at its location
        within : k < i
        within = go (ltb k i) refl
          where
            go : (t : Bool) → ltb k i ≡ t → k < i
            go true q = ltb-true k i q
            go false q = absurd (held.skips k (ltb-false k i q) h e)

        go : (t s u : Bool) → eqb i 0 ≡ t → eqb (code (i - 1)) (code j) ≡ s → leb least (at j) ≡ u → (if t then least else if s || u then least else at j) ≤ at j
        go true s u q r v = absurd (omega (arith, eqb-true i 0 q, within))
        go false true u q r v =
            let c : code (i - 1) ≡ code j = eqb-true (code (i - 1)) (code j) r in
            let f = so_far.found k (i - 1) h (omega (arith, held.low, within)) (e ∙ sym (ap location_of c)) (λ z. d (z ∙ c)) in
            omega (arith, f, ap location_of c)
        go false false true q r v = leb-true least (at j) v
        go false false false q r v = omega arith

    next_found : (i k : ℕ) → i < j + 1 → k < j + 1 → at i ≡ at k → (code i ≡ code k → ⊥) → left ≤ at k
    next_found i k h g e d =
        dite (ℕ_discrete k j)
        (λ (q : k ≡ j).
        dite (ℕ_discrete i j) (λ (r : i ≡ j). absurd (d (ap code (r ∙ sym q))))
        (λ (r : ¬ (i ≡ j)). let f = left_found i (omega arith) (e ∙ ap at q) (λ z. d (z ∙ ap code (sym q))) in omega (arith, f, ap at q)))
        (λ (q : ¬ (k ≡ j)).
        dite (ℕ_discrete i j)
        (λ (r : i ≡ j). let f = left_found k (omega arith) (sym e ∙ ap at r) (λ z. d (ap code r ∙ sym z)) in omega (arith, f, e, ap at r))
        (λ (r : ¬ (i ≡ j)). omega (arith, left_low, so_far.found i k (omega arith) (omega arith) e d)))

    pub looked_next : Looked b (j + 1) left
    looked_next =
        record {
          updates = λ k h. dite (ℕ_discrete k j) (λ (q : k ≡ j). rw q update) (λ (q : ¬ (k ≡ j)). so_far.updates k (omega arith));
          low = omega (arith, left_low, so_far.low);
          bad = left_bad;
          found = next_found;
        }

-- ---- the tables of slots

-- what the tables of slots have after the first j updates
pub record Tables (list : List ℕ) (j : ℕ) (last prior : List ℕ) : Type 0 where
  pub wide : (length last ≡ 512) × (length prior ≡ 256)
  pub last_is : (c : ℕ) → Last slot_of list c j (get_or last (slot_of c) 0)
  pub links : Linked list prior j

pub tables_start : (list : List ℕ) → Tables list 0 (replicate 512 0) (replicate 256 0)
tables_start list =
    record {
      wide = (length-replicate {A = ℕ} 512 0, length-replicate {A = ℕ} 256 0);
      last_is =
          λ c.
          rw (get_or-replicate {A = ℕ} 512 (slot_of c) 0 0 (slot_low c))
          (record { low = omega arith; same = λ h. absurd (omega arith); skips = λ k h g. absurd (omega arith) });
      links = λ i h. absurd (omega arith);
    }

module _ {list : List ℕ} {j s : ℕ} {last prior : List ℕ} (so_far : Tables list j last prior) (at_slot : s ≡ slot_of (get_or list j 0)) where
  abbrev x : ℕ
  x = get_or list j 0

  -- the last update before with the slot of this one
  abbrev p : ℕ
  p = get_or last s 0

  before : Last slot_of list x j p
  before = rw at_slot (so_far.last_is x)

  -- the last update at a location, searched among those with its slot, is the last of all
  pub tables_held : {i : ℕ} → Last location_of list x p i → Last location_of list x j i
  tables_held {i} held =
      record {
        low = omega (arith, held.low, before.low);
        same = held.same;
        skips = λ k h g e. past k h g e (ltb k p) refl;
      }
    where
      past : (k : ℕ) → i ≤ k → k < j → location_of (get_or list k 0) ≡ location_of x → (t : Bool) → ltb k p ≡ t → ⊥
      past k h g e true q = held.skips k h (ltb-true k p q) e
      past k h g e false q = before.skips k (ltb-false k p q) g (one_slot (get_or list k 0) x e)

  next_last_is : (c : ℕ) → Last slot_of list c (j + 1) (get_or (set last s (j + 1)) (slot_of c) 0)
  next_last_is c =
      dite (ℕ_discrete (slot_of c) s)
      (λ (q : slot_of c ≡ s).
      let e : get_or (set last s (j + 1)) (slot_of c) 0 ≡ j + 1 = rw q (get_or-set_same last s (j + 1) 0 (omega (arith, so_far.wide, slot_low x, at_slot))) in
      let f : j + 1 - 1 ≡ j = omega arith in
      rw e (record { low = omega arith; same = λ h. rw f (sym (q ∙ at_slot)); skips = λ k h g. absurd (omega arith) }))
      (λ (q : ¬ (slot_of c ≡ s)).
      let l = so_far.last_is c in
      rw (get_or-set_other last s (slot_of c) (j + 1) 0 q)
      (record {
        low = omega (arith, l.low);
        same = l.same;
        skips =
            λ k h g e.
            dite (ℕ_discrete k j) (λ (r : k ≡ j). q (sym e ∙ ap (λ (i : ℕ). slot_of (get_or list i 0)) r ∙ sym at_slot))
            (λ (r : ¬ (k ≡ j)). l.skips k h (omega arith) e);
      }))

  module _ (room : j < 256) where
    next_links : Linked list (set prior j p) (j + 1)
    next_links k h =
        dite (ℕ_discrete k j)
        (λ (q : k ≡ j). rw (q, get_or-set_same prior j p 0 (omega (arith, so_far.wide))) before)
        (λ (q : ¬ (k ≡ j)). rw (get_or-set_other prior j k p 0 q) (so_far.links k (omega arith)))

    pub tables_next : Tables list (j + 1) (set last s (j + 1)) (set prior j p)
    tables_next =
        record {
          wide = (length-set last s (j + 1) ∙ so_far.wide.0, length-set prior j p ∙ so_far.wide.1);
          last_is = next_last_is;
          links = next_links;
        }

-- ---- what the pass found

any_snoc : (p : Instruction → Bool) (cs : List ℕ) (c : ℕ) → any p (map decode_of (cs ++ (c ∷ []))) ≡ any p (map decode_of cs) || p (decode_of c)
unfolding any
any_snoc p [] c = or-false (p (decode_of c))
any_snoc p (d ∷ ds) c =
    ap (λ (b : Bool). p (decode_of d) || b) (any_snoc p ds c) ∙ sym (or_assoc (p (decode_of d)) (any p (map decode_of ds)) (p (decode_of c)))

any_some : (p : Instruction → Bool) (list : List ℕ) (n : ℕ) → n ≤ length list → any p (items list n) ≡ some_below (λ k. p (decode_of (get_or list k 0))) n
unfolding any some_below
any_some p list zero h = refl
any_some p list (suc n) h =
    rw (take-suc list n 0) (any_snoc p (take n list) (get_or list n 0) ∙ ap (λ (b : Bool). b || p (decode_of (get_or list n 0))) (any_some p list n (omega arith)))

-- an instruction of the list that passes a test stands at one of its places
any_place : (p : Instruction → Bool) (list : List ℕ) → any p (decoded list) ≡ some_below (λ k. p (decode_of (get_or list k 0))) (length list)
any_place p list =
    ap (λ (l : List ℕ). any p (decoded l)) (sym (take_all (length list) list (omega arith))) ∙ any_some p list (length list) (omega arith)

module _ (B : Program) (c : List ℕ) {list : List ℕ} {b j least : ℕ} (over : length list ≤ j) (done : Looked list b j least) where
  abbrev all : List Instruction
  all = decoded list

  abbrev val : ℕ → ℕ
  val k = get_or list k 0 % 65536

  is_update : (k : ℕ) → k < length list → decode_of (get_or list k 0) ≡ Update (at list k) (val k)
  unfolding decode_of
  is_update k h = rw (lt-ltb (get_or list k 0) releases (done.updates k (omega arith)))

  none_released : (x : ℕ) → has (released all) x ≡ false
  none_released x =
      has_any x all ∙ any_place (λ i. has (label_of i []) x) list
      ∙ refuted (some_below (λ k. has (label_of (decode_of (get_or list k 0)) []) x) (length list))
      (λ e.
      let s = some_below_true (λ k. has (label_of (decode_of (get_or list k 0)) []) x) (length list) e in
      false≢true (sym (ap (λ (i : Instruction). has (label_of i []) x) (is_update s.0 s.1)) ∙ s.2))

  -- an update gives a location a value other than w
  gives_other : (l w k : ℕ) → k < length list → other w (values_given (held_place B c l) (decode_of (get_or list k 0))) ≡ eqb (at list k) l && not (eqb (val k) w)
  unfolding values_given other
  gives_other l w k h = rw (is_update k h) (go (eqb (at list k) l))
    where
      go : (b : Bool) → other w (if b then val k ∷ [] else []) ≡ b && not (eqb (val k) w)
      go true = or-false (not (eqb (val k) w))
      go false = refl

  others : (l w : ℕ) → other w (values_given_by (held_place B c l) all) ≡ some_below (λ k. other w (values_given (held_place B c l) (decode_of (get_or list k 0)))) (length list)
  others l w = other_any w (held_place B c l) all ∙ any_place (λ i. other w (values_given (held_place B c l) i)) list

  rivals_clash : (l : ℕ) → Rivals list l → any (bad_one B c all l) all ≡ true
  rivals_clash l r =
      any_place (bad_one B c all l) list
      ∙ some_below_from (λ k. bad_one B c all l (decode_of (get_or list k 0))) (length list) r.one r.one_in
      (rw (is_update r.one r.one_in, eq-eqb (at list r.one) l r.one_at, two) refl)
    where
      apart : val r.two ≡ val r.one → ⊥
      apart e = r.differ (omega (arith, e, r.one_at, r.two_at))

      two : other (val r.one) (values_given_by (held_place B c (at list r.one)) all) ≡ true
      two =
          others (at list r.one) (val r.one)
          ∙ some_below_from (λ k. other (val r.one) (values_given (held_place B c (at list r.one)) (decode_of (get_or list k 0)))) (length list) r.two r.two_in
          (gives_other (at list r.one) (val r.one) r.two r.two_in
          ∙ rw (eq-eqb (at list r.two) (at list r.one) (r.two_at ∙ sym r.one_at), ne_eqb (val r.two) (val r.one) apart))

  clash_rivals : (l : ℕ) → any (bad_one B c all l) all ≡ true → Rivals list l
  clash_rivals l e =
      let s = some_below_true (λ k. bad_one B c all l (decode_of (get_or list k 0))) (length list) (sym (any_place (bad_one B c all l) list) ∙ e) in
      let k = s.0 in
      let t = and_cases (eqb (at list k) l) (other (val k) (values_given_by (held_place B c (at list k)) all) || has (released all) (val k)) (sym (ap (bad_one B c all l) (is_update k s.1)) ∙ s.2) in
      let u : other (val k) (values_given_by (held_place B c (at list k)) all) ≡ true = sym (or-false (other (val k) (values_given_by (held_place B c (at list k)) all))) ∙ (rw (none_released (val k)) at t.1) in
      let v = some_below_true (λ i. other (val k) (values_given (held_place B c (at list k)) (decode_of (get_or list i 0)))) (length list) (sym (others (at list k) (val k)) ∙ u) in
      let i = v.0 in
      let w = and_cases (eqb (at list i) (at list k)) (not (eqb (val i) (val k))) (sym (gives_other (at list k) (val k) i v.1) ∙ v.2) in
      let same : at list k ≡ l = eqb-true (at list k) l t.0 in
      record {
        one = i;
        two = k;
        one_in = v.1;
        two_in = s.1;
        one_at = eqb-true (at list i) (at list k) w.0 ∙ same;
        two_at = same;
        differ = λ q. eqb-false (val i) (val k) (not-true (eqb (val i) (val k)) w.1) (ap (λ (x : ℕ). x % 65536) q);
      }

  not_above : least_clash B c all all b ≤ least
  not_above = go (ltb least b) refl
    where
      go : (t : Bool) → ltb least b ≡ t → least_clash B c all all b ≤ least
      go true q = best_here B c all all b least (rivals_clash least (done.bad (ltb-true least b q)))
      go false q = omega (arith, best_le B c all all b, ltb-false least b q)

  not_below : least ≤ least_clash B c all all b
  not_below = go (ltb (least_clash B c all all b) b) refl
    where
      go : (t : Bool) → ltb (least_clash B c all all b) b ≡ t → least ≤ least_clash B c all all b
      go true q =
          let r = clash_rivals (least_clash B c all all b) (least_clash_by B c all b (ltb-true (least_clash B c all all b) b q)) in
          let f = done.found r.one r.two (omega (arith, r.one_in)) (omega (arith, r.two_in)) (r.one_at ∙ sym r.two_at) r.differ in
          omega (arith, f, r.two_at)
      go false q = omega (arith, done.low, ltb-false (least_clash B c all all b) b q)

  -- the pass finds the least location that clashes
  pub looked_best : least ≡ least_clash B c all all b
  looked_best = omega (arith, not_above, not_below)
