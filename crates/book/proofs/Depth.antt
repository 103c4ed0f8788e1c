-- What stands around a node: each node is used once, so a root has what it began with, and an operand what its one user gave it; depths above all.
use Rattle.std.specs.Prelude.{if◌then◌else◌}
use mathlib.Core.Path.{◌≡◌, refl, sym, ◌∙◌}
use mathlib.Core.Logic.{dite, ◌≢◌}
use mathlib.Core.Bool.{Bool, true, false, ◌&&◌, and-false, or-true}
use mathlib.Core.List.{List}
use Prim.Native.Nat.{ℕ, zero, suc, ◌+◌, ◌-◌, ◌≤◌, ◌<◌}
use native.Mathlib.Omega.{arith}
use native.Mathlib.Decide.{ℕ_discrete}
use lib.Dec.{eqb, ltb}
use lib.ListN.{length, get_or, set, replicate, length-set, length-replicate, get_or-replicate}
use lib.Seq.{get_or-set_same, get_or-set_other}
use borrow.Author.Tests.{eqb-true, eqb-false, eq-eqb, ne_eqb, ltb-true, ltb-false, leb-true}
use Rattle.text.specs.Words.{one_if}
use Rattle.text.proofs.Words.{so_true, so_false, some_below_from}
use Rattle.book.specs.declared.Node.{Node}
use Rattle.book.specs.Book.{Program, node_at, agent_at}
use Rattle.book.specs.Kinds.{is_node, sort}
use Rattle.book.specs.Lines.{fits, bad_node}
use Rattle.book.specs.Use.{is_root, places, uses, bad_use}
use Rattle.book.specs.Scopes.{most_depth, put_if, operands_given, all_given, deeper, depths, misplaced, bad_scope}
use Rattle.book.specs.Sound.{Lawful}

-- the depth of node n
abbrev pub depth_at : Program → ℕ → ℕ
depth_at B n = get_or (depths B) n 0

-- ---- operands have lower numbers

-- the operand in place j, 0 to 2, of a node
abbrev pub operand : Node → ℕ → ℕ
operand y zero = y.a
operand y (suc zero) = y.b
operand y (suc (suc j)) = y.c

fits_low : (B : Program) (n s x : ℕ) → 9 ≤ s → fits B n s x ≡ true → x < n
unfolding fits
fits_low B n s x k h =
    ltb-true x n
    (so_true (ltb x n) (fits B n s x) h
    (λ q. simp (
      q,
      ne_eqb s 1 (λ q. omega arith),
      ne_eqb s 2 (λ q. omega arith),
      ne_eqb s 3 (λ q. omega arith),
      ne_eqb s 4 (λ q. omega arith),
      ne_eqb s 5 (λ q. omega arith),
      ne_eqb s 6 (λ q. omega arith),
      ne_eqb s 7 (λ q. omega arith),
      ne_eqb s 8 (λ q. omega arith),
      and-false,
    )))

-- ---- counts of uses

-- node m, one of the first k, counts among the uses
uses_one : (B : Program) (x m k : ℕ) → m < k → places (node_at B m) x ≤ uses B x k
unfolding uses
uses_one B x m zero h = absurd (omega arith)
uses_one B x m (suc k) h = dite (ℕ_discrete m k) (λ (q : m ≡ k). rw q (omega arith)) (λ (q : m ≢ k). omega (arith, uses_one B x m k (omega arith)))

uses_two : (B : Program) (x m n k : ℕ) → m < k → n < k → m ≢ n → places (node_at B m) x + places (node_at B n) x ≤ uses B x k
unfolding uses
uses_two B x m n zero h g d = absurd (omega arith)
uses_two B x m n (suc k) h g d =
    dite (ℕ_discrete m k) (λ (q : m ≡ k). rw q (omega (arith, uses_one B x n k (omega arith))))
    (λ (q : m ≢ k).
    dite (ℕ_discrete n k) (λ (r : n ≡ k). rw r (omega (arith, uses_one B x m k (omega arith))))
    (λ (r : n ≢ k). omega (arith, uses_two B x m n k (omega arith) (omega arith) d)))

one_if_none : (b : Bool) → one_if b ≡ 0 → b ≡ false
one_if_none true e = absurd (omega arith)
one_if_none false e = refl

one_if_at : (a : Bool) (x n : ℕ) → (a ≡ true → x ≢ n) → one_if (a && eqb x n) ≡ 0
one_if_at true x n h = rw (ne_eqb x n (h refl))
one_if_at false x n h = refl

-- ---- what one node gives

pub length_put_if : (on : Bool) (z v : ℕ) (s : List ℕ) → length (put_if on z v s) ≡ length s
length_put_if true z v s = length-set s z v
length_put_if false z v s = refl

pub length_operands_given : (y : Node) (v w : ℕ) (s : List ℕ) → length (operands_given y v w s) ≡ length s
unfolding operands_given
length_operands_given y v w s = simp length_put_if

put_at : (on : Bool) (z v x : ℕ) (s : List ℕ) → x < length s → get_or (put_if on z v s) x 0 ≡ (if on && eqb z x then v else get_or s x 0)
put_at false z v x s h = refl
put_at true z v x s h = go (eqb z x) refl
  where
    go : (b : Bool) → eqb z x ≡ b → get_or (set s z v) x 0 ≡ (if b then v else get_or s x 0)
    go true e = let p : z ≡ x = eqb-true z x e in rw p (get_or-set_same s x v 0 h)
    go false e = get_or-set_other s z x v 0 (λ p. eqb-false z x e (sym p))

operands_given_at : (y : Node) (v w x : ℕ) (s : List ℕ) → x < length s → get_or (operands_given y v w s) x 0
    ≡ (if is_node y.kind 2 && eqb y.c x then w else if is_node y.kind 1 && eqb y.b x then v else if is_node y.kind 0 && eqb y.a x then v else get_or s x 0)
unfolding operands_given
operands_given_at y v w x s h =
    let s1 = put_if (is_node y.kind 0) y.a v s in
    let s2 = put_if (is_node y.kind 1) y.b v s1 in
    let p1 : length s1 ≡ length s = length_put_if (is_node y.kind 0) y.a v s in
    let p2 : length s2 ≡ length s1 = length_put_if (is_node y.kind 1) y.b v s1 in
    rw (
      put_at (is_node y.kind 2) y.c w x s2 (omega arith),
      put_at (is_node y.kind 1) y.b v x s1 (omega arith),
      put_at (is_node y.kind 0) y.a v x s h,
    )

-- a node that does not have x as operand leaves what x has
operands_given_past : (y : Node) (v w x : ℕ) (s : List ℕ) → x < length s → places y x ≡ 0 → get_or (operands_given y v w s) x 0 ≡ get_or s x 0
operands_given_past y v w x s h e =
    rw (
      operands_given_at y v w x s h,
      one_if_none (is_node y.kind 2 && eqb y.c x) (omega arith),
      one_if_none (is_node y.kind 1 && eqb y.b x) (omega arith),
      one_if_none (is_node y.kind 0 && eqb y.a x) (omega arith),
    )

-- what a node that has x once as operand, in place j, gives it: v or w
abbrev all_given_by : ℕ → ℕ → ℕ → ℕ
all_given_by v w zero = v
all_given_by v w (suc zero) = v
all_given_by v w (suc (suc j)) = w

places_some : (y : Node) (j : ℕ) → j < 3 → is_node y.kind j ≡ true → 1 ≤ places y (operand y j)
places_some y zero h e = rw (e, eq-eqb y.a y.a refl) (omega arith)
places_some y (suc zero) h e = rw (e, eq-eqb y.b y.b refl) (omega arith)
places_some y (suc (suc zero)) h e = rw (e, eq-eqb y.c y.c refl) (omega arith)
places_some y (suc (suc (suc j))) h e = absurd (omega arith)

operands_given_here : (y : Node) (v w j : ℕ) (s : List ℕ) → j < 3 → is_node y.kind j ≡ true → operand y j < length s → places y (operand y j) ≤ 1
    → get_or (operands_given y v w s) (operand y j) 0 ≡ all_given_by v w j
operands_given_here y v w zero s k e h o =
    let t : (is_node y.kind 0 && eqb y.a y.a) ≡ true = rw (e, eq-eqb y.a y.a refl) in
    let o' : one_if (is_node y.kind 0 && eqb y.a y.a) ≡ 1 = rw t in
    rw (
      operands_given_at y v w y.a s h,
      one_if_none (is_node y.kind 2 && eqb y.c y.a) (omega arith),
      one_if_none (is_node y.kind 1 && eqb y.b y.a) (omega arith),
      t,
    )
operands_given_here y v w (suc zero) s k e h o =
    let t : (is_node y.kind 1 && eqb y.b y.b) ≡ true = rw (e, eq-eqb y.b y.b refl) in
    let o' : one_if (is_node y.kind 1 && eqb y.b y.b) ≡ 1 = rw t in
    rw (
      operands_given_at y v w y.b s h,
      one_if_none (is_node y.kind 2 && eqb y.c y.b) (omega arith),
      t,
    )
operands_given_here y v w (suc (suc zero)) s k e h o =
    let t : (is_node y.kind 2 && eqb y.c y.c) ≡ true = rw (e, eq-eqb y.c y.c refl) in
    rw (operands_given_at y v w y.c s h, t)
operands_given_here y v w (suc (suc (suc j))) s k e h o = absurd (omega arith)

module _ (B : Program) (ok : Lawful B) where
  pub operand_low : (n j : ℕ) → n < length B.nodes → j < 3 → is_node (node_at B n).kind j ≡ true → operand (node_at B n) j < n
  unfolding bad_node
  operand_low n j h k e = go j k e
    where
      y : Node
      y = node_at B n

      go : (j : ℕ) → j < 3 → is_node y.kind j ≡ true → operand y j < n
      go zero k e = fits_low B n (sort y.kind 0) y.a (leb-true 9 (sort y.kind 0) e) (so_true (fits B n (sort y.kind 0) y.a) (bad_node B n) (ok.nodes n h) (λ q. simp q))
      go (suc zero) k e = fits_low B n (sort y.kind 1) y.b (leb-true 9 (sort y.kind 1) e) (so_true (fits B n (sort y.kind 1) y.b) (bad_node B n) (ok.nodes n h) (λ q. simp (q, and-false)))
      go (suc (suc zero)) k e = fits_low B n (sort y.kind 2) y.c (leb-true 9 (sort y.kind 2) e) (so_true (fits B n (sort y.kind 2) y.c) (bad_node B n) (ok.nodes n h) (λ q. simp (q, and-false)))
      go (suc (suc (suc j))) k e = absurd (omega arith)

  -- a node has no operand from its own number on
  places_low : (m n : ℕ) → m ≤ n → m < length B.nodes → places (node_at B m) n ≡ 0
  places_low m n h k =
      let y = node_at B m in
      let p0 : one_if (is_node y.kind 0 && eqb y.a n) ≡ 0 = one_if_at (is_node y.kind 0) y.a n (λ e q. omega (arith, operand_low m 0 k (omega arith) e)) in
      let p1 : one_if (is_node y.kind 1 && eqb y.b n) ≡ 0 = one_if_at (is_node y.kind 1) y.b n (λ e q. omega (arith, operand_low m 1 k (omega arith) e)) in
      let p2 : one_if (is_node y.kind 2 && eqb y.c n) ≡ 0 = one_if_at (is_node y.kind 2) y.c n (λ e q. omega (arith, operand_low m 2 k (omega arith) e)) in
      omega arith

  used_once : (n : ℕ) → n < length B.nodes → one_if (is_root B n) + uses B n (length B.nodes) ≡ 1
  unfolding bad_use
  used_once n h =
      let uses = one_if (is_root B n) + uses B n (length B.nodes) in
      eqb-true uses 1 (so_true (eqb uses 1) (bad_use B n) (ok.uses n h) (λ q. simp q))

  pub root_used : (k : ℕ) → k < length B.agents → is_root B (agent_at B k).root ≡ true
  root_used k h =
      some_below_from (λ i. eqb (agent_at B i).root (agent_at B k).root) (length B.agents) k h
      (eq-eqb (agent_at B k).root (agent_at B k).root refl)

  -- a root is no operand
  root_unused : (k m : ℕ) → k < length B.agents → m < length B.nodes → places (node_at B m) (agent_at B k).root ≡ 0
  root_unused k m h g =
      let r = (agent_at B k).root in
      let u : one_if (is_root B r) ≡ 1 = rw (root_used k h) in
      omega (arith, used_once r (ok.roots k h).0, uses_one B r m (length B.nodes) g)

  -- ---- what all nodes give

  module _ (ab c : Node → ℕ → ℕ) (r : ℕ) where
    -- the table after the highest k nodes have given their operands what stands around them, each node beginning with r
    abbrev after : ℕ → List ℕ
    after k = all_given B ab c k (replicate (length B.nodes) r)

    length_after : (k : ℕ) → length (after k) ≡ length B.nodes
    unfolding all_given
    length_after zero = length-replicate {A = ℕ} (length B.nodes) r
    length_after (suc k) = length_operands_given _ _ _ _ ∙ length_after k

    -- what x has stays, if none of the nodes that come after has it as operand
    kept : (x k j : ℕ) → x < length B.nodes → k + j ≤ length B.nodes → ((m : ℕ) → m < length B.nodes - k → places (node_at B m) x ≡ 0)
        → get_or (after (k + j)) x 0 ≡ get_or (after k) x 0
    unfolding all_given
    kept x k zero h g p = let e : k + 0 ≡ k = omega arith in rw e
    kept x k (suc j) h g p =
        let e : k + suc j ≡ suc (k + j) = omega arith in
        let m = length B.nodes - suc (k + j) in
        let y = node_at B m in
        let t = after (k + j) in
        rw e (operands_given_past y (ab y (get_or t m 0)) (c y (get_or t m 0)) x t (omega (arith, length_after (k + j))) (p m (omega arith)) ∙ kept x k j h (omega arith) p)

    -- a root has what it began with
    pub root_has : (k : ℕ) → k < length B.agents → get_or (after (length B.nodes)) (agent_at B k).root 0 ≡ r
    unfolding all_given
    root_has k h =
        let x = (agent_at B k).root in
        let l : x < length B.nodes = (ok.roots k h).0 in
        let e : 0 + length B.nodes ≡ length B.nodes = omega arith in
        let q : get_or (after (0 + length B.nodes)) x 0 ≡ get_or (after 0) x 0 = kept x 0 (length B.nodes) l (omega arith) (λ m g. root_unused k m h (omega arith)) in
        (rw e at q) ∙ get_or-replicate {A = ℕ} (length B.nodes) x r 0 l

    -- an operand has what its node gives it, by what the node has
    pub operand_has : (n j : ℕ) → n < length B.nodes → j < 3 → is_node (node_at B n).kind j ≡ true
        → get_or (after (length B.nodes)) (operand (node_at B n) j) 0
        ≡ all_given_by (ab (node_at B n) (get_or (after (length B.nodes)) n 0)) (c (node_at B n) (get_or (after (length B.nodes)) n 0)) j
    unfolding all_given
    operand_has n j h k e =
        let y = node_at B n in
        let x = operand y j in
        let i = length B.nodes - suc n in
        let t = after i in
        let low : x < n = operand_low n j h k e in
        let some : 1 ≤ places y x = places_some y j k e in
        let once = used_once x (omega arith) in
        let only : places y x ≤ 1 = omega (arith, once, uses_one B x n (length B.nodes) h) in
        let e1 : suc i + n ≡ length B.nodes = omega arith in
        let e2 : i + suc n ≡ length B.nodes = omega arith in
        let e3 : length B.nodes - suc i ≡ n = omega arith in
        let own : get_or (after (length B.nodes)) n 0 ≡ get_or t n 0 =
        rw e2 at (kept n i (suc n) h (omega arith) (λ m g. places_low m n (omega arith) (omega arith))) in
        let later : get_or (after (length B.nodes)) x 0 ≡ get_or (after (suc i)) x 0 =
        rw e1 at (kept x (suc i) n (omega arith) (omega arith)
        (λ m g. omega (arith, some, once, uses_two B x m n (length B.nodes) (omega arith) h (omega arith)))) in
        let here : get_or (operands_given y (ab y (get_or t n 0)) (c y (get_or t n 0)) t) x 0 ≡ all_given_by (ab y (get_or t n 0)) (c y (get_or t n 0)) j =
        operands_given_here y (ab y (get_or t n 0)) (c y (get_or t n 0)) j t k e (omega (arith, length_after i)) only in
        rw (later, own) (rw e3 here)

  -- ---- depths

  pub root_depth : (k : ℕ) → k < length B.agents → depth_at B (agent_at B k).root ≡ 1
  root_depth k h = root_has deeper deeper 1 k h

  pub operand_depth : (n j : ℕ) → n < length B.nodes → j < 3 → is_node (node_at B n).kind j ≡ true
      → (operand (node_at B n) j < n) × (depth_at B (operand (node_at B n) j) ≡ depth_at B n + 1)
  operand_depth n j h k e = (operand_low n j h k e, operand_has deeper deeper 1 n j h k e ∙ same j)
    where
      same : (j : ℕ) → all_given_by (depth_at B n + 1) (depth_at B n + 1) j ≡ depth_at B n + 1
      same zero = refl
      same (suc zero) = refl
      same (suc (suc j)) = refl

  pub depth_most : (n : ℕ) → n < length B.nodes → depth_at B n ≤ 32
  unfolding misplaced
  depth_most n h =
      ltb-false most_depth (depth_at B n)
      (so_false (ltb most_depth (depth_at B n)) (bad_scope B n) (ok.scopes n h) (λ q. simp (q, or-true)))
