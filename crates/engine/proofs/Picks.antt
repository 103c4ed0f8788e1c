-- Choices: what a choose reads, refusal 19 where no pick is left, and that a walk to its end uses all picks.
use Rattle.std.specs.Prelude.{Option, None, Some}
use Rattle.std.specs.Prelude.{if◌then◌else◌}
use mathlib.Core.Path.{◌≡◌, refl, sym, ap, subst, ◌∙◌}
use mathlib.Core.Logic.{◌⊎◌, inl, inr}
use mathlib.Core.List.{List, [], ◌∷◌, ◌++◌}
use mathlib.Core.Bool.{Bool, true, false, false≢true}
use Prim.Native.Nat.{ℕ, zero, suc, ◌≤◌, ◌<◌}
use native.Mathlib.Omega.{arith}
use lib.Dec.{eqb, ltb}
use lib.ListN.{length, get_or, set, take}
use borrow.Author.Tests.{eqb-true, ltb-true, lt-ltb, le-ltb, not-false}
use Rattle.text.specs.Refusals.{not_in_universe, pick_count}
use Rattle.text.specs.Words.{has, least, good}
use Rattle.text.proofs.Words.{or_cases, least_none, bind_good, then_good, good_same}
use Rattle.book.specs.Book.{Program, L, true_element, false_element, location, node_at, agent_at}
use Rattle.book.specs.Sound.{at}
use Rattle.engine.specs.Reader.{Reader, done, read, value_in, locations_read}
use Rattle.engine.specs.Rule.{Rule, choose, Walk, Walked, walking, refused_at, ◌then◌, after, take_pick, refuse_if, not_member, universe_at, choose_of, all_taken, walk, agent_walk, rule_at, no_variables}
use Rattle.book.specs.Check.{check_book}
use Rattle.engine.specs.Move.{Input, walked}
use Rattle.engine.specs.Single.{bad_pick, no_pick_at, check_agent, check_picks, check_lent_step, check_contents, check_step}
use Rattle.engine.proofs.Reader.{value_bind, reads_bind}

-- ---- the universe at a pick

pub universe_low : (B : Program) (u y : ℕ) → y < B.E → universe_at B u y ≡ read (location B u y 0)
unfolding universe_at
universe_low B u y h = rw (lt-ltb y B.E h)

pub universe_high : (B : Program) (u y : ℕ) → B.E ≤ y → universe_at B u y ≡ done false_element
unfolding universe_at
universe_high B u y h = rw (le-ltb y B.E h)

pub universe_member : (B : Program) (c : List ℕ) (u y : ℕ) → value_in c (universe_at B u y) ≡ true_element → (y < B.E) × (at c (location B u y 0) ≡ true_element)
unfolding universe_at value_in
universe_member B c u y e = go (ltb y B.E) refl e
  where
    go : (b : Bool) → ltb y B.E ≡ b → value_in c (if b then read (location B u y 0) else done false_element) ≡ true_element
        → (y < B.E) × (at c (location B u y 0) ≡ true_element)
    go true p q = (ltb-true y B.E p, q)
    go false p q = absurd (omega (arith, q))

-- ---- a choose

pub choice_reads : (B : Program) (c : List ℕ) (me n x u : ℕ) (r : Rule) (vs : List ℕ) (w : Walk) (y : ℕ) (ys : List ℕ) → w.left ≡ y ∷ ys → y < B.E
    → locations_read c (walk B me (choose n x u r) vs w)
    ≡ location B u y 0 ∷ locations_read c (after (refuse_if (not_member (at c (location B u y 0))) not_in_universe n (take_pick ys w)) (walk B me r (set vs x y)))
unfolding walk value_in locations_read
choice_reads B c me n x u r vs w y ys e h =
    let f : ℕ → Reader Walked = λ v. after (refuse_if (not_member v) not_in_universe n (take_pick ys w)) (walk B me r (set vs x y)) in
    ap (λ (l : List ℕ). locations_read c (choose_of B n u w (λ z. walk B me r (set vs x z)) l)) e
    ∙ (reads_bind c (universe_at B u y) f ∙ ap (λ (p : Reader ℕ). locations_read c p ++ locations_read c (f (value_in c p))) (universe_low B u y h))

pub choice_lacks : (B : Program) (c : List ℕ) (me n x u : ℕ) (r : Rule) (vs : List ℕ) (w : Walk) → w.left ≡ []
    → (value_in c (walk B me (choose n x u r) vs w) ≡ refused_at pick_count n) × (locations_read c (walk B me (choose n x u r) vs w) ≡ [])
unfolding walk value_in locations_read
choice_lacks B c me n x u r vs w e = (
  ap (λ (l : List ℕ). value_in c (choose_of B n u w (λ z. walk B me r (set vs x z)) l)) e,
  ap (λ (l : List ℕ). locations_read c (choose_of B n u w (λ z. walk B me r (set vs x z)) l)) e,
)

-- ---- the end of a walk

ended : (o : Walked) (q : ℕ) (w : Walk) → (o then λ v. all_taken q v.left v) ≡ walking w → (o ≡ walking w) × (w.left ≡ [])
ended (refused_at n p) q w e = let z : ◌≡◌ {A = ℕ} 0 1 = cc in absurd (omega arith)
ended (walking v) q w e = go v.left refl e
  where
    same : (a b : Walk) → walking a ≡ walking b → a ≡ b
    same a b f = cc

    go : (l : List ℕ) → v.left ≡ l → all_taken q l v ≡ walking w → (walking v ≡ walking w) × (w.left ≡ [])
    go [] p f = (f, ap (λ (x : Walk). x.left) (sym (same v w f)) ∙ p)
    go (y ∷ ys) p f = let z : ◌≡◌ {A = ℕ} 0 1 = cc in absurd (omega arith)

-- the walk of a move's rule, before the picks left over are checked
abbrev pub rule_walk : Program → Input → Reader Walked
rule_walk B i =
    let g = agent_at B i.agent in
    walk B g.element (rule_at (node_at B) g.root) no_variables (record { made = []; next = B.P; left = i.picks })

pub walked_ends : (B : Program) (c : List ℕ) (i : Input) → walked B c i ≡ (value_in c (rule_walk B i) then λ w. all_taken (agent_at B i.agent).root w.left w)
unfolding agent_walk value_in
walked_ends B c i = value_bind c (rule_walk B i) (λ o. done (o then λ w. all_taken (agent_at B i.agent).root w.left w))

pub all_picks : (B : Program) (c : List ℕ) (i : Input) (w : Walk) → walked B c i ≡ walking w → w.left ≡ []
all_picks B c i w e = (ended (value_in c (rule_walk B i)) (agent_at B i.agent).root w (sym (walked_ends B c i) ∙ e)).1

-- ---- the checks of the single-move entry

has_at : (ys : List ℕ) (y : ℕ) → has ys y ≡ true → (j : ℕ) × (j < length ys) × (get_or ys j 0 ≡ y)
has_at [] y h = absurd (false≢true h)
has_at (x ∷ ys) y h = go (or_cases (eqb x y) (has ys y) h) (has_at ys y)
  where
    go : (eqb x y ≡ true) ⊎ (has ys y ≡ true) → (has ys y ≡ true → (j : ℕ) × (j < length ys) × (get_or ys j 0 ≡ y))
        → (j : ℕ) × (j < length (x ∷ ys)) × (get_or (x ∷ ys) j 0 ≡ y)
    go (inl e) r = (zero, omega arith, eqb-true x y e)
    go (inr e) r = let t = r e in (suc t.0, omega (arith, t.1), t.2)

none_at_fault : (o : Option ℕ) (u : Unit {0}) → no_pick_at o ≡ good u → o ≡ None
none_at_fault None u e = refl
none_at_fault (Some j) u e = let z : ◌≡◌ {A = ℕ} 0 1 = cc in absurd (omega arith)

picks_low : (B : Program) (ys : List ℕ) (u : Unit {0}) → check_picks B ys ≡ good u → (y : ℕ) → has ys y ≡ true → y < B.E
unfolding check_picks
picks_low B ys u e y h =
    let bad = bad_pick B ys in
    let n = none_at_fault (least bad (length ys)) u e in
    let t = has_at ys y h in
    let l = ltb-true (get_or ys t.0 0) B.E (not-false (ltb (get_or ys t.0 0) B.E) (least_none bad (length ys) n t.0 t.1)) in
    omega (arith, l, t.2)

pub step_picks : (book c : List ℕ) (i : Input) (n : ℕ) (B : Program) → check_step book c i n ≡ good B → (y : ℕ) → has i.picks y ≡ true → y < B.E
unfolding check_step
step_picks book c i n B e y h =
    let r = bind_good (check_book book) _ B e in
    let D = r.0.program in
    let a = then_good (check_agent D i.agent) _ B r.2 in
    let p = then_good (check_picks D i.picks) _ B a.2 in
    let l = then_good (check_lent_step D c n) _ B p.2 in
    let k = then_good (check_contents D (take (L D) c)) (good D) B l.2 in
    subst (λ (b : Program). y < b.E) (good_same D B k.2) (picks_low D i.picks p.0 p.1 y h)
