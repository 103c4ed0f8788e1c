-- The image: what its program has, and what its rows hold after they are stored.
use Rattle.std.specs.Prelude.{if◌then◌else◌}
use mathlib.Core.Path.{◌≡◌, refl, sym, ◌∙◌, ap}
use mathlib.Core.Bool.{Bool, true, false}
use mathlib.Core.List.{List, ◌∷◌}
use Prim.Native.Nat.{ℕ, zero, suc, ◌+◌, ◌-◌, ◌*◌, ◌/◌, ◌%◌, ◌^◌, ◌<◌, ◌≤◌}
use native.Mathlib.Decide.{dec_lt}
use native.Mathlib.Nat.{le_of_lt, lt_of_le_of_lt, mul-le-mul_left, mul-le-mul_right, mul-lt-mul_of_pos_right, mul-add-div_right, mul-add-mod_self_right, div-eq_of_lt, mod-eq_of_lt}
use native.Mathlib.Numerals.{add-one}
use native.Mathlib.Omega.{arith}
use lib.Pow.{pow_pos, pow-add}
use lib.Dec.{eqb}
use lib.ListN.{length, get_or, set, length-set}
use lib.Seq.{get_or-set_same, get_or-set_other}
use borrow.Author.Tests.{lt-ltb, le-ltb}
use Rattle.text.specs.declared.Line.{Line}
use Rattle.text.specs.Words.{table_from, table}
use Rattle.text.proofs.Words.{length_table_from, getD_table, getD_table_past}
use Rattle.book.specs.declared.Header.{Header}
use Rattle.book.specs.declared.Function.{Function}
use Rattle.book.specs.declared.Node.{Node}
use Rattle.book.specs.Book.{total, size, function_at, node_at, agent_at, no_function, no_node, no_agent}
use Rattle.book.specs.Lines.{lay_out, line_agent}
use Rattle.book.specs.Image.{word, image_row, node_place, node_in, capped, image_function, program_in, kept_node, FitsImage, capped_header, stored, node_stored, filled, first_location, laid_row}

-- a count within its bound is not changed by the cap
pub uncapped : (n most : ℕ) → n ≤ most → capped n most ≡ n
uncapped n most h = go (dec_lt n most)
  where
    go : Dec (n < most) → capped n most ≡ n
    go (yes l) = rw (lt-ltb n most l)
    go (no l) = let e : n ≡ most = omega arith in rw (le-ltb n most (omega arith)) (sym e)

pub capped_most : (n most : ℕ) → capped n most ≤ most
capped_most n most = go (dec_lt n most)
  where
    go : Dec (n < most) → capped n most ≤ most
    go (yes l) = rw (lt-ltb n most l) (omega arith)
    go (no l) = rw (le-ltb n most (omega arith)) (omega arith)

-- a header within its bounds is not changed by the caps
pub within_bounds : (h : Header) → FitsImage h → capped_header h ≡ h
within_bounds h room =
    rw (
      uncapped h.elements 10000 room.elements,
      uncapped h.permanent 10000 room.permanent,
      uncapped h.functions 32 room.functions,
      uncapped h.nodes 1024 room.nodes,
      uncapped h.agents 16 room.agents,
      uncapped h.contents 65536 room.contents,
    )

-- ---- what an image's program has

module _ (m : List ℕ) where
  pub functions_long : length (program_in m).functions ≡ capped (word m 2) 32
  unfolding program_in
  functions_long = length_table_from _ 0 (capped (word m 2) 32)

  pub nodes_long : length (program_in m).nodes ≡ capped (word m 3) 1024
  unfolding program_in
  nodes_long = length_table_from _ 0 (capped (word m 3) 1024)

  pub agents_long : length (program_in m).agents ≡ capped (word m 4) 16
  unfolding program_in
  agents_long = length_table_from _ 0 (capped (word m 4) 16)

  pub elements_most : (program_in m).E ≤ 10000
  unfolding program_in
  elements_most = capped_most (word m 0) 10000

  pub functions_most : length (program_in m).functions ≤ 32
  functions_most = rw functions_long (capped_most (word m 2) 32)

  pub nodes_most : length (program_in m).nodes ≤ 1024
  nodes_most = rw nodes_long (capped_most (word m 3) 1024)

  pub agents_most : length (program_in m).agents ≤ 16
  agents_most = rw agents_long (capped_most (word m 4) 16)

  pub function_inside : (f : ℕ) → f < capped (word m 2) 32 → function_at (program_in m) f ≡ image_function (image_row m (2 + f))
  unfolding program_in
  function_inside f h = getD_table (λ f. image_function (image_row m (2 + f))) (capped (word m 2) 32) f no_function h

  pub function_past : (f : ℕ) → capped (word m 2) 32 ≤ f → function_at (program_in m) f ≡ no_function
  unfolding program_in
  function_past f h = getD_table_past (λ f. image_function (image_row m (2 + f))) (capped (word m 2) 32) f no_function h

  pub node_inside : (n : ℕ) → n < capped (word m 3) 1024 → node_at (program_in m) n ≡ node_in m n
  unfolding program_in
  node_inside n h = getD_table (node_in m) (capped (word m 3) 1024) n no_node h

  pub node_past : (n : ℕ) → capped (word m 3) 1024 ≤ n → node_at (program_in m) n ≡ no_node
  unfolding program_in
  node_past n h = getD_table_past (node_in m) (capped (word m 3) 1024) n no_node h

  pub agent_inside : (i : ℕ) → i < capped (word m 4) 16 → agent_at (program_in m) i ≡ line_agent (image_row m (34 + i))
  unfolding program_in
  agent_inside i h = getD_table (λ i. line_agent (image_row m (34 + i))) (capped (word m 4) 16) i no_agent h

  pub agent_past : (i : ℕ) → capped (word m 4) 16 ≤ i → agent_at (program_in m) i ≡ no_agent
  unfolding program_in
  agent_past i h = getD_table_past (λ i. line_agent (image_row m (34 + i))) (capped (word m 4) 16) i no_agent h

-- ---- rows stored

pub length_stored : (r : ℕ) (l : Line) (m : List ℕ) → length (stored r l m) ≡ length m
unfolding stored
length_stored r l m = simp length-set

-- a word that is none of the row's four stays
stored_at :
    (r : ℕ) (l : Line) (m : List ℕ) (i : ℕ) → (i ≡ r * 4 → ⊥) → (i ≡ r * 4 + 1 → ⊥) → (i ≡ r * 4 + 2 → ⊥) → (i ≡ r * 4 + 3 → ⊥) →
    get_or (stored r l m) i 0 ≡ get_or m i 0
unfolding stored
stored_at r l m i a b c d = simp get_or-set_other

pub stored_other : (r : ℕ) (l : Line) (m : List ℕ) (q : ℕ) → (q ≡ r → ⊥) → image_row (stored r l m) q ≡ image_row m q
stored_other r l m q n =
    rw (
      stored_at r l m (q * 4) (λ e. n (omega arith)) (λ e. omega arith) (λ e. omega arith) (λ e. omega arith),
      stored_at r l m (q * 4 + 1) (λ e. omega arith) (λ e. n (omega arith)) (λ e. omega arith) (λ e. omega arith),
      stored_at r l m (q * 4 + 2) (λ e. omega arith) (λ e. omega arith) (λ e. n (omega arith)) (λ e. omega arith),
      stored_at r l m (q * 4 + 3) (λ e. omega arith) (λ e. omega arith) (λ e. omega arith) (λ e. n (omega arith)),
    )

pub stored_same : (r : ℕ) (l : Line) (m : List ℕ) → r * 4 + 3 < length m → image_row (stored r l m) r ≡ l
unfolding stored
stored_same n l ns h =
    let l0 : n * 4 < length ns = omega arith in
    let l1 : n * 4 + 1 < length (set ns (n * 4) l.a) = simp length-set (omega arith) in
    let l2 : n * 4 + 2 < length (set (set ns (n * 4) l.a) (n * 4 + 1) l.b) = simp length-set (omega arith) in
    let l3 : n * 4 + 3 < length (set (set (set ns (n * 4) l.a) (n * 4 + 1) l.b) (n * 4 + 2) l.c) = simp length-set (omega arith) in
    let a : (n * 4 ≡ n * 4 + 1) → ⊥ = omega arith in
    let b : (n * 4 ≡ n * 4 + 2) → ⊥ = omega arith in
    let c : (n * 4 ≡ n * 4 + 3) → ⊥ = omega arith in
    let d : (n * 4 + 1 ≡ n * 4 + 2) → ⊥ = omega arith in
    let e : (n * 4 + 1 ≡ n * 4 + 3) → ⊥ = omega arith in
    let f : (n * 4 + 2 ≡ n * 4 + 3) → ⊥ = omega arith in
    simp (get_or-set_other, get_or-set_same)

-- ---- nodes stored

pub length_node_stored : (n : ℕ) (y : Node) (m : List ℕ) → length (node_stored n y m) ≡ length m
unfolding node_stored
length_node_stored n y m = simp length-set

-- the number above, of two numbers put into one
part_high : (d k x : ℕ) → 0 < d → x < d → (k * d + x) / d ≡ k
part_high d k x p h = mul-add-div_right {m = d} p k x ∙ rw (div-eq_of_lt h) (omega arith)

part_low : (d k x : ℕ) → x < d → (k * d + x) % d ≡ x
part_low d k x h = mul-add-mod_self_right k d x ∙ mod-eq_of_lt h

pub node_stored_same : (n : ℕ) (y : Node) (m : List ℕ) → n * 2 + 201 < length m → node_in (node_stored n y m) n ≡ kept_node y
unfolding node_stored
node_stored_same n y m h =
    let k = kept_node y in
    let l0 : node_place n < length m = omega arith in
    let l1 : node_place n + 1 < length (set m (node_place n) (k.kind * 1048576 + k.a)) = simp length-set (omega arith) in
    let e : (node_place n ≡ node_place n + 1) → ⊥ = omega arith in
    simp (
      get_or-set_other,
      get_or-set_same,
      part_high 1048576 k.kind k.a (omega arith) (omega (arith, capped_most y.a 1048575)),
      part_low 1048576 k.kind k.a (omega (arith, capped_most y.a 1048575)),
      part_high 65536 k.b k.c (omega arith) (omega (arith, capped_most y.c 65535)),
      part_low 65536 k.b k.c (omega (arith, capped_most y.c 65535)),
    )

node_stored_at :
    (n : ℕ) (y : Node) (m : List ℕ) (i : ℕ) → (i ≡ node_place n → ⊥) → (i ≡ node_place n + 1 → ⊥) → get_or (node_stored n y m) i 0 ≡ get_or m i 0
unfolding node_stored
node_stored_at n y m i a b = simp get_or-set_other

pub node_stored_other : (n : ℕ) (y : Node) (m : List ℕ) (q : ℕ) → (q ≡ n → ⊥) → node_in (node_stored n y m) q ≡ node_in m q
node_stored_other n y m q e =
    rw (
      node_stored_at n y m (node_place q) (λ p. e (omega arith)) (λ p. omega arith),
      node_stored_at n y m (node_place q + 1) (λ p. omega arith) (λ p. e (omega arith)),
    )

-- a row and a node stand in different words
pub node_stored_row : (n : ℕ) (y : Node) (m : List ℕ) (r : ℕ) → r < 50 → image_row (node_stored n y m) r ≡ image_row m r
node_stored_row n y m r h =
    rw (
      node_stored_at n y m (r * 4) (λ p. omega arith) (λ p. omega arith),
      node_stored_at n y m (r * 4 + 1) (λ p. omega arith) (λ p. omega arith),
      node_stored_at n y m (r * 4 + 2) (λ p. omega arith) (λ p. omega arith),
      node_stored_at n y m (r * 4 + 3) (λ p. omega arith) (λ p. omega arith),
    )

pub stored_node : (r : ℕ) (l : Line) (m : List ℕ) (n : ℕ) → r < 50 → node_in (stored r l m) n ≡ node_in m n
stored_node r l m n h =
    rw (
      stored_at r l m (node_place n) (λ p. omega arith) (λ p. omega arith) (λ p. omega arith) (λ p. omega arith),
      stored_at r l m (node_place n + 1) (λ p. omega arith) (λ p. omega arith) (λ p. omega arith) (λ p. omega arith),
    )

-- ---- several rows filled

module _ (f : ℕ → Line) (base : ℕ) where
  pub length_filled : (left i : ℕ) (m : List ℕ) → length (filled f base left i m) ≡ length m
  unfolding filled
  length_filled zero i m = refl
  length_filled (suc left) i m = length_filled left (suc i) (stored (base + i) (f i) m) ∙ length_stored (base + i) (f i) m

  pub filled_below : (left i : ℕ) (m : List ℕ) (q : ℕ) → q < base + i → image_row (filled f base left i m) q ≡ image_row m q
  unfolding filled
  filled_below zero i m q h = refl
  filled_below (suc left) i m q h =
      filled_below left (suc i) (stored (base + i) (f i) m) q (omega arith) ∙ stored_other (base + i) (f i) m q (λ e. omega arith)

  pub filled_above : (left i : ℕ) (m : List ℕ) (q : ℕ) → base + i + left ≤ q → image_row (filled f base left i m) q ≡ image_row m q
  unfolding filled
  filled_above zero i m q h = refl
  filled_above (suc left) i m q h =
      filled_above left (suc i) (stored (base + i) (f i) m) q (omega arith) ∙ stored_other (base + i) (f i) m q (λ e. omega arith)

  pub filled_node : (left i : ℕ) (m : List ℕ) (n : ℕ) → base + i + left ≤ 50 → node_in (filled f base left i m) n ≡ node_in m n
  unfolding filled
  filled_node zero i m n h = refl
  filled_node (suc left) i m n h =
      filled_node left (suc i) (stored (base + i) (f i) m) n (omega arith) ∙ stored_node (base + i) (f i) m n (omega arith)

  pub filled_in :
      (left i : ℕ) (m : List ℕ) → (base + i + left) * 4 ≤ length m → (j : ℕ) → i ≤ j → j < i + left → image_row (filled f base left i m) (base + j) ≡ f j
  unfolding filled
  filled_in zero i m h j l g = absurd (omega arith)
  filled_in (suc left) i m h j l g =
      go (dec_lt i j) (λ k. filled_in left (suc i) (stored (base + i) (f i) m) (rw (length_stored (base + i) (f i) m) (omega arith)) j k (omega arith))
    where
      go :
          Dec (i < j) → (i < j → image_row (filled f base left (suc i) (stored (base + i) (f i) m)) (base + j) ≡ f j) →
          image_row (filled f base left (suc i) (stored (base + i) (f i) m)) (base + j) ≡ f j
      go (yes k) p = p k
      go (no k) p =
          let e : j ≡ i = omega arith in
          rw e (filled_below left (suc i) (stored (base + i) (f i) m) (base + i) (omega arith) ∙ stored_same (base + i) (f i) m (omega arith))

  -- the loop that fills rows: its start
  pub filled_start : (n : ℕ) (m : List ℕ) → filled f base (n - 0) 0 m ≡ filled f base n 0 m
  filled_start n m = let e : n - 0 ≡ n = omega arith in rw e

  pub filled_step : (n i : ℕ) (m : List ℕ) → i < n → filled f base (n - (i + 1)) (i + 1) (stored (base + i) (f i) m) ≡ filled f base (n - i) i m
  unfolding filled
  filled_step n i m h = let e : n - i ≡ suc (n - suc i) = omega arith in rw (add-one i, e)

  pub filled_end : (n i : ℕ) (m : List ℕ) → n ≤ i → filled f base (n - i) i m ≡ m
  unfolding filled
  filled_end n i m h = let e : n - i ≡ 0 = omega arith in rw e

-- ---- functions laid out one after the other

module _ (at : ℕ → Line) (E : ℕ) where
  pub first_none : 0 ≡ first_location at E 0
  unfolding first_location
  first_none = refl

  pub first_step : (f : ℕ) → first_location at E (f + 1) ≡ first_location at E f + size E (at f).a
  unfolding first_location
  first_step f = rw (add-one f)

  laid_from : (i n : ℕ) → lay_out E (first_location at E i) (table_from at i n) ≡ table_from (λ f. image_function (laid_row at E f)) i n
  unfolding table_from lay_out first_location
  laid_from i zero = refl
  laid_from i (suc n) = ap (λ (fs : List Function). image_function (laid_row at E i) ∷ fs) (laid_from (suc i) n)

  pub laid : (n : ℕ) → lay_out E 0 (table at n) ≡ table (λ f. image_function (laid_row at E f)) n
  unfolding first_location
  laid n = laid_from 0 n

  total_from : (i n : ℕ) → first_location at E i + total E (lay_out E (first_location at E i) (table_from at i n)) ≡ first_location at E (i + n)
  unfolding table_from lay_out first_location total
  total_from i zero = let e : i + 0 ≡ i = omega arith in rw e (omega arith)
  total_from i (suc n) =
      let e : i + suc n ≡ suc i + n = omega arith in
      let p = total_from (suc i) n in
      rw e (omega (arith, p))

  pub total_laid : (n : ℕ) → first_location at E n ≡ total E (lay_out E 0 (table at n))
  unfolding first_location
  total_laid n = let p = total_from 0 n in let e : 0 + n ≡ n = omega arith in sym (rw e at p) ∙ omega arith

-- a function of at most 10,000 elements has at most 100,000,000 locations
pub size_most : (E arity : ℕ) → E ≤ 10000 → size E arity ≤ 100000000
size_most E arity h = go (eqb arity 0) (eqb arity 1)
  where
    square : E * E ≤ 100000000
    square = omega (arith, mul-le-mul_left E h, mul-le-mul_right 10000 h)

    go : (a b : Bool) → (if a then 1 else if b then E else E * E) ≤ 100000000
    go true b = omega arith
    go false true = omega arith
    go false false = square

-- the product of two numbers of k bits has at most 2k bits
pub below : (k : ℕ) {a b : ℕ} → a < 2 ^ k → b < 2 ^ k → a * b < 2 ^ (k + k)
below k {a} {b} ha hb =
    rw (pow-add 2 k k) (lt_of_le_of_lt (mul-le-mul_left a (le_of_lt hb)) (mul-lt-mul_of_pos_right ha (pow_pos k)))
