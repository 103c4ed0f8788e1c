-- The tables that the code fills say of each node what the definitions say.
use Rattle.std.specs.Prelude.{if◌then◌else◌}
use mathlib.Core.Path.{◌≡◌, refl, sym, ◌∙◌, ap}
use mathlib.Core.Bool.{Bool, true, false, not, ◌&&◌, ◌||◌}
use mathlib.Core.List.{List}
use Prim.Native.Nat.{ℕ, zero, suc, ◌+◌, ◌-◌, ◌*◌, ◌/◌, ◌%◌, ◌^◌, ◌<◌, ◌≤◌}
use native.Mathlib.Numerals.{add-one}
use native.Mathlib.Omega.{arith}
use native.Mathlib.Decide.{dec_lt}
use borrow.Author.Tests.{lt-ltb, le-ltb, le-leb, ne_eqb, eqb-true}
use lib.Bits.{bit_or, or_block, or_lt, or_zero_r}
use lib.Dec.{eqb, ltb, leb}
use lib.ListN.{length, get_or, set, replicate, length-set, length-replicate, get_or-replicate}
use Rattle.text.specs.Words.{one_if, some_below}
use Rattle.book.specs.declared.Node.{Node}
use Rattle.book.specs.Book.{Program, node_at, agent_at}
use Rattle.book.specs.Kinds.{is_node, is_binder, forall_kind}
use Rattle.book.specs.Use.{is_root, places, uses, bad_use}
use Rattle.book.specs.Scopes.{bit_of, put_if, operands_given, all_given, deeper, as_it_is, forall_more, bound_more, depths, foralls, misplaced, bad_scope}
use Rattle.book_scopes.specs.Tables.{one_more, use_added, operands_counted, roots_counted, uses_counted, depth_of, foralls_of, bound_of, scope_below, in_forall, in_binder, to_ab, to_c, misplaced_at}
use Rattle.text.proofs.Words.{set_at}
use Rattle.book.proofs.Depth.{length_put_if, length_operands_given}

-- ---- one step of each loop

pub roots_step : (B : Program) (a : ℕ) (s : List ℕ) → roots_counted B (a + 1) s ≡ set (roots_counted B a s) (agent_at B a).root 1
unfolding roots_counted
roots_step B a s = rw (add-one a)

pub roots_none : (B : Program) (s : List ℕ) → s ≡ roots_counted B 0 s
unfolding roots_counted
roots_none B s = refl

pub tally_step : (B : Program) (m : ℕ) (s : List ℕ) → uses_counted B (m + 1) s ≡ operands_counted (node_at B m) (uses_counted B m s)
unfolding uses_counted
tally_step B m s = rw (add-one m)

pub tally_none : (B : Program) (s : List ℕ) → s ≡ uses_counted B 0 s
unfolding uses_counted
tally_none B s = refl

module _ (B : Program) (ab c : Node → ℕ → ℕ) (s : List ℕ) where
  -- one more node than k, counted from the last, for every k
  pub all_given_more :
      (k : ℕ) → all_given B ab c (k + 1) s
      ≡ operands_given (node_at B (length B.nodes - (k + 1))) (ab (node_at B (length B.nodes - (k + 1))) (get_or (all_given B ab c k s) (length B.nodes - (k + 1)) 0))
      (c (node_at B (length B.nodes - (k + 1))) (get_or (all_given B ab c k s) (length B.nodes - (k + 1)) 0)) (all_given B ab c k s)
  unfolding all_given
  all_given_more k = rw (add-one k)

  -- the nodes from m on have given what those after it had, and then node m
  pub all_given_step :
      (m : ℕ) → m < length B.nodes → let t = all_given B ab c (length B.nodes - (m + 1)) s in
      all_given B ab c (length B.nodes - m) s ≡ operands_given (node_at B m) (ab (node_at B m) (get_or t m 0)) (c (node_at B m) (get_or t m 0)) t
  unfolding all_given
  all_given_step m h =
      let e : length B.nodes - m ≡ suc (length B.nodes - (m + 1)) = omega arith in
      let f : length B.nodes - suc (length B.nodes - (m + 1)) ≡ m = omega arith in
      rw (e, f)

  pub all_given_none : s ≡ all_given B ab c (length B.nodes - length B.nodes) s
  unfolding all_given
  all_given_none = let z : length B.nodes - length B.nodes ≡ 0 = omega arith in rw z

-- ---- counts that stop at 2

abbrev pub cap : ℕ → ℕ
cap k = if ltb k 2 then k else 2

cap_low : (k : ℕ) → k < 2 → cap k ≡ k
cap_low k h = simp (lt-ltb k 2 h)

cap_high : (k : ℕ) → 2 ≤ k → cap k ≡ 2
cap_high k h = simp (le-ltb k 2 h)

more_cap : (k : ℕ) → one_more (cap k) ≡ cap (k + 1)
more_cap k = go (dec_lt k 2) (dec_lt k 1)
  where
    go : Dec (k < 2) → Dec (k < 1) → one_more (cap k) ≡ cap (k + 1)
    go (no h) d = rw (cap_high k (omega arith), cap_high (k + 1) (omega arith))
    go (yes h) (yes g) = let e : k ≡ 0 = omega arith in rw e
    go (yes h) (no g) = let e : k ≡ 1 = omega arith in rw e

pub cap_one : (k : ℕ) → eqb (cap k) 1 ≡ eqb k 1
cap_one k = go (dec_lt k 2)
  where
    go : Dec (k < 2) → eqb (cap k) 1 ≡ eqb k 1
    go (yes h) = rw (cap_low k h)
    go (no h) = rw (cap_high k (omega arith), ne_eqb k 1 (λ e. omega arith))

pub length_bump : (on : Bool) (x : ℕ) (s : List ℕ) → length (use_added on x s) ≡ length s
length_bump true x s = length-set s x (one_more (get_or s x 0))
length_bump false x s = refl

bump_at :
    (on : Bool) (x n k : ℕ) (s : List ℕ) → n < length s → get_or s n 0 ≡ cap k → get_or (use_added on x s) n 0 ≡ cap (k + one_if (on && eqb x n))
bump_at false x n k s h p = let e : k + 0 ≡ k = omega arith in rw e p
bump_at true x n k s h p = set_at s x (one_more (get_or s x 0)) n h ∙ go (eqb x n) refl
  where
    go : (b : Bool) → eqb x n ≡ b → (if b then one_more (get_or s x 0) else get_or s n 0) ≡ cap (k + one_if b)
    go true e = let q : x ≡ n = eqb-true x n e in rw (q, p) (more_cap k)
    go false e = let q : k + 0 ≡ k = omega arith in rw q p

count_at : (y : Node) (n k : ℕ) (s : List ℕ) → n < length s → get_or s n 0 ≡ cap k → get_or (operands_counted y s) n 0 ≡ cap (k + places y n)
count_at y n k s h p =
    let s1 : List ℕ = use_added (is_node y.kind 0) y.a s in
    let s2 : List ℕ = use_added (is_node y.kind 1) y.b s1 in
    let p0 : ℕ = one_if (is_node y.kind 0 && eqb y.a n) in
    let p1 : ℕ = one_if (is_node y.kind 1 && eqb y.b n) in
    let p2 : ℕ = one_if (is_node y.kind 2 && eqb y.c n) in
    let q1 : length s1 ≡ length s = length_bump (is_node y.kind 0) y.a s in
    let q2 : length s2 ≡ length s1 = length_bump (is_node y.kind 1) y.b s1 in
    let r1 : get_or s1 n 0 ≡ cap (k + p0) = bump_at (is_node y.kind 0) y.a n k s h p in
    let r2 : get_or s2 n 0 ≡ cap (k + p0 + p1) = bump_at (is_node y.kind 1) y.b n (k + p0) s1 (omega arith) r1 in
    let z : (k + p0 + p1) + p2 ≡ k + (p0 + p1 + p2) = omega arith in
    bump_at (is_node y.kind 2) y.c n (k + p0 + p1) s2 (omega arith) r2 ∙ ap cap z

length_count : (y : Node) (s : List ℕ) → length (operands_counted y s) ≡ length s
length_count y s = simp length_bump

length_tally : (B : Program) (m : ℕ) (s : List ℕ) → length (uses_counted B m s) ≡ length s
unfolding uses_counted
length_tally B zero s = refl
length_tally B (suc m) s = length_count (node_at B m) (uses_counted B m s) ∙ length_tally B m s

tally_at :
    (B : Program) (m n k : ℕ) (s : List ℕ) → n < length s → get_or s n 0 ≡ cap k → get_or (uses_counted B m s) n 0 ≡ cap (k + uses B n m)
unfolding uses_counted uses
tally_at B zero n k s h p = let e : k + 0 ≡ k = omega arith in rw e p
tally_at B (suc m) n k s h p =
    let z : (k + uses B n m) + places (node_at B m) n ≡ k + (uses B n m + places (node_at B m) n) = omega arith in
    count_at (node_at B m) n (k + uses B n m) (uses_counted B m s) (rw (length_tally B m s) h) (tally_at B m n k s h p)
    ∙ ap cap z

-- ---- roots

length_roots : (B : Program) (a : ℕ) (s : List ℕ) → length (roots_counted B a s) ≡ length s
unfolding roots_counted
length_roots B zero s = refl
length_roots B (suc a) s = length-set (roots_counted B a s) (agent_at B a).root 1 ∙ length_roots B a s

roots_at :
    (B : Program) (a n : ℕ) (s : List ℕ) → n < length s → get_or s n 0 ≡ 0 → get_or (roots_counted B a s) n 0 ≡ one_if (some_below (λ i. eqb (agent_at B i).root n) a)
unfolding roots_counted some_below
roots_at B zero n s h p = p
roots_at B (suc a) n s h p =
    set_at (roots_counted B a s) (agent_at B a).root 1 n (rw (length_roots B a s) h)
    ∙ go (some_below (λ i. eqb (agent_at B i).root n) a) (eqb (agent_at B a).root n) (roots_at B a n s h p)
  where
    go : (r b : Bool) → get_or (roots_counted B a s) n 0 ≡ one_if r → (if b then 1 else get_or (roots_counted B a s) n 0) ≡ one_if (r || b)
    go true true q = refl
    go false true q = refl
    go true false q = q
    go false false q = q

cap_bool : (b : Bool) → one_if b ≡ cap (one_if b)
cap_bool true = refl
cap_bool false = refl

-- the table of counts says exactly whether a node is used once
pub used_once :
    (B : Program) (n : ℕ) (s : List ℕ) → n < length s → get_or s n 0 ≡ 0 →
    not (eqb (get_or (uses_counted B (length B.nodes) (roots_counted B (length B.agents) s)) n 0) 1) ≡ bad_use B n
unfolding bad_use
used_once B n s h p =
    let r : Bool = is_root B n in
    let t : List ℕ = roots_counted B (length B.agents) s in
    let q : get_or t n 0 ≡ cap (one_if r) = roots_at B (length B.agents) n s h p ∙ cap_bool r in
    rw (
      tally_at B (length B.nodes) n (one_if r) t (rw (length_roots B (length B.agents) s) h) q,
      cap_one (one_if r + uses B n (length B.nodes)),
    )

-- ---- two tables filled side by side, the one by ab and c, the other by ab' and c', with R between what they say of a node

length_all_given : (B : Program) (ab c : Node → ℕ → ℕ) (k : ℕ) (s : List ℕ) → length (all_given B ab c k s) ≡ length s
unfolding all_given
length_all_given B ab c zero s = refl
length_all_given B ab c (suc k) s = length_operands_given _ _ _ _ ∙ length_all_given B ab c k s

module _ (R : ℕ → ℕ → Type 0) (N : ℕ) where
  abbrev Beside : List ℕ → List ℕ → Type 0
  Beside s t = (n : ℕ) → n < N → R (get_or s n 0) (get_or t n 0)

  put_beside :
      (on : Bool) (x v v' : ℕ) (s t : List ℕ) → N ≤ length s → N ≤ length t → R v v' → Beside s t → Beside (put_if on x v s) (put_if on x v' t)
  put_beside false x v v' s t hs ht e b n h = b n h
  put_beside true x v v' s t hs ht e b n h = rw (set_at s x v n (omega arith), set_at t x v' n (omega arith)) (go (eqb x n))
    where
      go : (d : Bool) → R (if d then v else get_or s n 0) (if d then v' else get_or t n 0)
      go true = e
      go false = b n h

  operands_given_beside :
      (y : Node) (v w v' w' : ℕ) (s t : List ℕ) → N ≤ length s → N ≤ length t → R v v' → R w w' → Beside s t → Beside (operands_given y v w s) (operands_given y v' w' t)
  unfolding operands_given
  operands_given_beside y v w v' w' s t hs ht e f b =
      let s1 : List ℕ = put_if (is_node y.kind 0) y.a v s in
      let t1 : List ℕ = put_if (is_node y.kind 0) y.a v' t in
      let s2 : List ℕ = put_if (is_node y.kind 1) y.b v s1 in
      let t2 : List ℕ = put_if (is_node y.kind 1) y.b v' t1 in
      let p1 : length s1 ≡ length s = length_put_if (is_node y.kind 0) y.a v s in
      let q1 : length t1 ≡ length t = length_put_if (is_node y.kind 0) y.a v' t in
      let p2 : length s2 ≡ length s1 = length_put_if (is_node y.kind 1) y.b v s1 in
      let q2 : length t2 ≡ length t1 = length_put_if (is_node y.kind 1) y.b v' t1 in
      let b1 : Beside s1 t1 = put_beside (is_node y.kind 0) y.a v v' s t hs ht e b in
      let b2 : Beside s2 t2 = put_beside (is_node y.kind 1) y.b v v' s1 t1 (omega arith) (omega arith) e b1 in
      put_beside (is_node y.kind 2) y.c w w' s2 t2 (omega arith) (omega arith) f b2

  module _ (B : Program) (is : N ≡ length B.nodes) (ab c ab' c' : Node → ℕ → ℕ)
      (eab : (y : Node) (x v : ℕ) → R x v → R (ab y x) (ab' y v)) (ec : (y : Node) (x v : ℕ) → R x v → R (c y x) (c' y v)) where
    all_given_beside :
        (k : ℕ) (s t : List ℕ) → k ≤ N → N ≤ length s → N ≤ length t → Beside s t → Beside (all_given B ab c k s) (all_given B ab' c' k t)
    unfolding all_given
    all_given_beside zero s t hk hs ht b = b
    all_given_beside (suc k) s t hk hs ht b =
        let s1 : List ℕ = all_given B ab c k s in
        let t1 : List ℕ = all_given B ab' c' k t in
        let m : ℕ = length B.nodes - suc k in
        let y : Node = node_at B m in
        let r : Beside s1 t1 = all_given_beside k s t (omega arith) hs ht b in
        let e : R (get_or s1 m 0) (get_or t1 m 0) = r m (omega arith) in
        let p : length s1 ≡ length s = length_all_given B ab c k s in
        let q : length t1 ≡ length t = length_all_given B ab' c' k t in
        operands_given_beside y (ab y (get_or s1 m 0)) (c y (get_or s1 m 0)) (ab' y (get_or t1 m 0)) (c' y (get_or t1 m 0)) s1 t1 (omega arith) (omega arith)
        (eab y (get_or s1 m 0) (get_or t1 m 0) e) (ec y (get_or s1 m 0) (get_or t1 m 0) e) r

-- ---- what one number says of depth, foralls and bound variables

-- 33 stands for all depths above 32
abbrev low_33 : ℕ → ℕ
low_33 d = if ltb d 33 then d else 33

low33 : (d : ℕ) → d < 33 → low_33 d ≡ d
low33 d h = simp (lt-ltb d 33 h)

high33 : (d : ℕ) → 33 ≤ d → low_33 d ≡ 33
high33 d h = simp (le-ltb d 33 h)

pub bit_small : (v : ℕ) → bit_of v < 256
unfolding bit_of
bit_small zero = omega arith
bit_small (suc zero) = omega arith
bit_small (suc (suc zero)) = omega arith
bit_small (suc (suc (suc zero))) = omega arith
bit_small (suc (suc (suc (suc zero)))) = omega arith
bit_small (suc (suc (suc (suc (suc zero))))) = omega arith
bit_small (suc (suc (suc (suc (suc (suc zero)))))) = omega arith
bit_small (suc (suc (suc (suc (suc (suc (suc zero))))))) = omega arith
bit_small (suc (suc (suc (suc (suc (suc (suc (suc v)))))))) = omega arith

pub bit_shift : (v : ℕ) → v < 8 → (1 * 2 ^ v) % 65536 ≡ bit_of v
unfolding bit_of
bit_shift zero h = refl
bit_shift (suc zero) h = refl
bit_shift (suc (suc zero)) h = refl
bit_shift (suc (suc (suc zero))) h = refl
bit_shift (suc (suc (suc (suc zero)))) h = refl
bit_shift (suc (suc (suc (suc (suc zero))))) h = refl
bit_shift (suc (suc (suc (suc (suc (suc zero)))))) h = refl
bit_shift (suc (suc (suc (suc (suc (suc (suc zero))))))) h = refl
bit_shift (suc (suc (suc (suc (suc (suc (suc (suc v)))))))) h = absurd (omega arith)

-- what `scope_below` does: one deeper, and the rest as it was
module _ (v : ℕ) where
  below_low : v / 1024 < 32 → scope_below v ≡ v + 1024
  below_low h = simp (lt-ltb (v / 1024) 32 h)

  below_high : 32 ≤ v / 1024 → scope_below v ≡ v
  below_high h = simp (le-ltb (v / 1024) 32 h)

  foralls_below : foralls_of (scope_below v) ≡ foralls_of v
  foralls_below = go (dec_lt (v / 1024) 32)
    where
      go : Dec (v / 1024 < 32) → foralls_of (scope_below v) ≡ foralls_of v
      go (yes h) = rw (below_low h) (omega arith)
      go (no h) = rw (below_high (omega arith))

  bound_below : bound_of (scope_below v) ≡ bound_of v
  bound_below = go (dec_lt (v / 1024) 32)
    where
      go : Dec (v / 1024 < 32) → bound_of (scope_below v) ≡ bound_of v
      go (yes h) = rw (below_low h) (omega arith)
      go (no h) = rw (below_high (omega arith))

depth_step : (d v : ℕ) → depth_of v ≡ low_33 d → depth_of (scope_below v) ≡ low_33 (d + 1)
depth_step d v e = go (dec_lt d 33) (dec_lt d 32)
  where
    go : Dec (d < 33) → Dec (d < 32) → depth_of (scope_below v) ≡ low_33 (d + 1)
    go (no h) x = let p : depth_of v ≡ 33 = e ∙ high33 d (omega arith) in rw (below_high v (omega arith), high33 (d + 1) (omega arith)) p
    go (yes h) (yes k) = let p : depth_of v ≡ d = e ∙ low33 d h in rw (below_low v (omega arith), low33 (d + 1) (omega arith)) (omega arith)
    go (yes h) (no k) = let p : depth_of v ≡ d = e ∙ low33 d h in rw (below_low v (omega arith), high33 (d + 1) (omega arith)) (omega arith)

-- what `in_forall` does: one forall more, and the rest as it was
module _ (y : Node) (v : ℕ) where
  abbrev in_it : Bool → ℕ
  in_it b = if b then (if ltb (foralls_of v) 2 then v + 256 else v) else v

  depth_forall : depth_of (in_forall y v) ≡ depth_of v
  depth_forall = go (eqb y.kind forall_kind) (dec_lt (foralls_of v) 2)
    where
      go : (b : Bool) → Dec (foralls_of v < 2) → depth_of (in_it b) ≡ depth_of v
      go false d = refl
      go true (yes h) = rw (lt-ltb (foralls_of v) 2 h) (omega arith)
      go true (no h) = rw (le-ltb (foralls_of v) 2 (omega arith))

  foralls_forall : foralls_of (in_forall y v) ≡ (if eqb y.kind forall_kind then one_more (foralls_of v) else foralls_of v)
  foralls_forall = go (eqb y.kind forall_kind) (dec_lt (foralls_of v) 2)
    where
      go : (b : Bool) → Dec (foralls_of v < 2) → foralls_of (in_it b) ≡ (if b then one_more (foralls_of v) else foralls_of v)
      go false d = refl
      go true (yes h) = rw (lt-ltb (foralls_of v) 2 h) (omega arith)
      go true (no h) = rw (le-ltb (foralls_of v) 2 (omega arith))

  bound_forall : bound_of (in_forall y v) ≡ bound_of v
  bound_forall = go (eqb y.kind forall_kind) (dec_lt (foralls_of v) 2)
    where
      go : (b : Bool) → Dec (foralls_of v < 2) → bound_of (in_it b) ≡ bound_of v
      go false d = refl
      go true (yes h) = rw (lt-ltb (foralls_of v) 2 h) (omega arith)
      go true (no h) = rw (le-ltb (foralls_of v) 2 (omega arith))

-- what `in_binder` does: one variable more, and the rest as it was
or_low : (v b : ℕ) → b < 256 → bit_or v b ≡ v / 256 * 256 + bit_or (v % 256) b
or_low v b h =
    let e : v / 256 * 256 + v % 256 ≡ v = omega arith in
    let r : bit_or (v / 256 * 256 + v % 256) (0 * 256 + b) ≡ bit_or (v / 256) 0 * 256 + bit_or (v % 256) b = or_block 8 (v / 256) 0 (v % 256) b (omega arith) h in
    let z : 0 * 256 + b ≡ b = omega arith in
    ap (λ (x : ℕ). bit_or x b) (sym e) ∙ ap (λ (x : ℕ). bit_or (v / 256 * 256 + v % 256) x) (sym z) ∙ r ∙ ap (λ (x : ℕ). x * 256 + bit_or (v % 256) b) (or_zero_r (v / 256))

module _ (y : Node) (v : ℕ) where
  low : bit_or (v % 256) (bit_of y.a) < 256
  low = or_lt 8 (v % 256) (bit_of y.a) (omega arith) (bit_small y.a)

  depth_binder : depth_of (in_binder y v) ≡ depth_of v
  depth_binder = go (is_binder y.kind)
    where
      go : (b : Bool) → depth_of (if b then bit_or v (bit_of y.a) else v) ≡ depth_of v
      go true = rw (or_low v (bit_of y.a) (bit_small y.a)) (omega (arith, low))
      go false = refl

  foralls_binder : foralls_of (in_binder y v) ≡ foralls_of v
  foralls_binder = go (is_binder y.kind)
    where
      go : (b : Bool) → foralls_of (if b then bit_or v (bit_of y.a) else v) ≡ foralls_of v
      go true = rw (or_low v (bit_of y.a) (bit_small y.a)) (omega (arith, low))
      go false = refl

  bound_binder : bound_of (in_binder y v) ≡ bound_more y (bound_of v)
  unfolding bound_more
  bound_binder = go (is_binder y.kind)
    where
      go : (b : Bool) → bound_of (if b then bit_or v (bit_of y.a) else v) ≡ (if b then bit_or (bound_of v) (bit_of y.a) else bound_of v)
      go true = rw (or_low v (bit_of y.a) (bit_small y.a)) (omega (arith, low))
      go false = refl

-- ---- what a node gives its operands says what the definitions give them

abbrev Depth : ℕ → ℕ → Type 0
Depth d v = depth_of v ≡ low_33 d

abbrev Foralls : ℕ → ℕ → Type 0
Foralls f v = foralls_of v ≡ cap f

abbrev Bound : ℕ → ℕ → Type 0
Bound b v = bound_of v ≡ b

depth_c : (y : Node) (d v : ℕ) → Depth d v → Depth (d + 1) (to_c y v)
depth_c y d v e = depth_binder y (in_forall y (scope_below v)) ∙ depth_forall y (scope_below v) ∙ depth_step d v e

foralls_c : (y : Node) (f v : ℕ) → Foralls f v → Foralls (forall_more y f) (to_c y v)
foralls_c y f v e =
    foralls_binder y (in_forall y (scope_below v)) ∙ foralls_forall y (scope_below v)
    ∙ rw (foralls_below v, e) (go (eqb y.kind forall_kind))
  where
    go : (b : Bool) → (if b then one_more (cap f) else cap f) ≡ cap (if b then f + 1 else f)
    go true = more_cap f
    go false = refl

bound_c : (y : Node) (b v : ℕ) → Bound b v → Bound (bound_more y b) (to_c y v)
bound_c y b v e =
    bound_binder y (in_forall y (scope_below v)) ∙ ap (bound_more y) (bound_forall y (scope_below v) ∙ bound_below v ∙ e)

deep33 : (d : ℕ) → ltb 32 (low_33 d) ≡ ltb 32 d
deep33 d = go (dec_lt d 33)
  where
    go : Dec (d < 33) → ltb 32 (low_33 d) ≡ ltb 32 d
    go (yes h) = rw (low33 d h)
    go (no h) = rw (high33 d (omega arith), lt-ltb 32 d (omega arith))

cap_two : (f : ℕ) → leb 2 (cap f) ≡ leb 2 f
cap_two f = go (dec_lt f 2)
  where
    go : Dec (f < 2) → leb 2 (cap f) ≡ leb 2 f
    go (yes h) = rw (cap_low f h)
    go (no h) = rw (cap_high f (omega arith), le-leb 2 f (omega arith))

module _ (B : Program) (hN : length B.nodes ≤ 1024) where
  full : (r : ℕ) → length B.nodes ≤ length (replicate (length B.nodes) r)
  full r = rw (length-replicate {A = ℕ} (length B.nodes) r) (omega arith)

  wide : length B.nodes ≤ length {A = ℕ} (replicate 1024 0)
  wide = rw (length-replicate {A = ℕ} 1024 0) hN

  roots : (R : ℕ → ℕ → Type 0) (r : ℕ) → R r 0 → Beside R (length B.nodes) (replicate (length B.nodes) r) (replicate 1024 0)
  roots R r e n h = rw (get_or-replicate {A = ℕ} (length B.nodes) n r 0 h, get_or-replicate {A = ℕ} 1024 n 0 0 (omega arith)) e

  -- the code's table says of each node what the definition's three say
  pub misplaced_same :
      (n : ℕ) → n < length B.nodes → misplaced_at B (all_given B to_ab to_c (length B.nodes) (replicate 1024 0)) n ≡ bad_scope B n
  unfolding misplaced
  misplaced_same n h =
      let N : ℕ = length B.nodes in
      let nn : N ≤ N = omega arith in
      let d = all_given_beside Depth N B refl deeper deeper to_ab to_c (λ y x v e. depth_step x v e) depth_c N (replicate N 1) (replicate 1024 0) nn
      (full 1) wide (roots Depth 1 refl) n h in
      let f = all_given_beside Foralls N B refl as_it_is forall_more to_ab to_c (λ y x v e. foralls_below v ∙ e) foralls_c N (replicate N 0) (replicate 1024 0) nn
      (full 0) wide (roots Foralls 0 refl) n h in
      let b = all_given_beside Bound N B refl as_it_is bound_more to_ab to_c (λ y x v e. bound_below v ∙ e) bound_c N (replicate N 0) (replicate 1024 0) nn
      (full 0) wide (roots Bound 0 refl) n h in
      rw (d, f, b, deep33 (get_or (depths B) n 0), cap_two (get_or (foralls B) n 0))
