-- What an image keeps of a program: check 5 says the same of every node, and a program whose nodes pass it is kept whole.
use mathlib.Core.Path.{◌≡◌, refl, sym, ◌∙◌, ap}
use mathlib.Core.Bool.{true, false, and-false}
use mathlib.Core.Logic.{◌⊎◌, inl, inr}
use mathlib.Core.List.{List}
use Prim.Native.Nat.{ℕ, zero, suc, ◌+◌, ◌*◌, ◌≤◌, ◌<◌}
use native.Mathlib.Decide.{dec_lt}
use native.Mathlib.Omega.{arith}
use lib.Dec.{ltb}
use lib.ListN.{length, length-map, get_or-map, get_or-eq_default}
use borrow.Author.Tests.{lt-ltb, le-ltb, lt-leb, ltb-true, ltb-false, ne_eqb}
use Rattle.text.specs.Words.{within}
use Rattle.text.proofs.Words.{so_true}
use Rattle.book.specs.declared.Node.{Node}
use Rattle.book.specs.declared.Entry.{Entry}
use Rattle.book.specs.Book.{Program, function_at, node_at, no_function, no_node}
use Rattle.book.specs.Sum.{Strided}
use Rattle.book.specs.Kinds.{sort, sort_table}
use Rattle.book.specs.Lines.{fits, bad_node}
use Rattle.book.specs.Contents.{in_bounds, least_location, bad_entry}
use Rattle.book.specs.Image.{capped, kept_node, kept_program}
use Rattle.book.proofs.Image.{uncapped}
use Rattle.book.proofs.Held.{map_same}

-- ---- numbers capped

-- a number that is capped is itself, or it has reached the cap
capped_is : (x most : ℕ) → (capped x most ≡ x) ⊎ ((most ≤ x) × (capped x most ≡ most))
capped_is x most = go (dec_lt x most)
  where
    go : Dec (x < most) → (capped x most ≡ x) ⊎ ((most ≤ x) × (capped x most ≡ most))
    go (yes l) = inl (rw (lt-ltb x most l))
    go (no l) = inr ((omega arith), rw (le-ltb x most (omega arith)))

-- a function that is constant from the cap on is not changed by the cap
same_capped : {A : Type 0} (g : ℕ → A) (d : A) (most : ℕ) → ((x : ℕ) → most ≤ x → g x ≡ d) → (x : ℕ) → g (capped x most) ≡ g x
same_capped g d most none x = go (capped_is x most)
  where
    go : (capped x most ≡ x) ⊎ ((most ≤ x) × (capped x most ≡ most)) → g (capped x most) ≡ g x
    go (inl e) = ap g e
    go (inr (l, e)) = ap g e ∙ none most (omega arith) ∙ sym (none x l)

-- a kind that is capped is in a range of kinds exactly if it was
within_kept : (lo hi k : ℕ) → hi < 4095 → within lo (capped k 4095) hi ≡ within lo k hi
within_kept lo hi k l = same_capped (λ x. within lo x hi) false 4095 (λ x h. simp (lt-leb x hi (omega arith), and-false)) k

sort_kept : (j k : ℕ) → sort (capped k 4095) j ≡ sort k j
unfolding sort
sort_kept j = same_capped (λ k. sort k j) 0 4095 (λ k h. let l : length sort_table ≤ k * 3 + j = omega arith in get_or-eq_default sort_table 0 l)

-- ---- nodes

-- an operand that fits its sort is below 65,535
module _ (B : Program) (n : ℕ) (p : B.P ≤ 10000) (f : length B.functions ≤ 32) (k : n ≤ 1024) where
  large : (s x : ℕ) → 65535 ≤ x → fits B n s x ≡ false
  unfolding fits
  large s x h =
      simp (
        ne_eqb x 0 (λ z. omega arith),
        le-ltb x B.P (omega arith),
        le-ltb x 8 (omega arith),
        le-ltb x (length B.functions) (omega arith),
        le-ltb x n (omega arith),
        and-false,
      )

  fits_small : (s x : ℕ) → fits B n s x ≡ true → x < 65535
  fits_small s x e =
      ltb-true x 65535 (so_true (ltb x 65535) (fits B n s x) e (λ q. large s x (ltb-false x 65535 q)))

-- a node whose operand a fits its sort has a kind below 29
kind_small : (B : Program) (n kind x : ℕ) → fits B n (sort kind 0) x ≡ true → kind < 29
unfolding fits sort
kind_small B n kind x e =
    ltb-true kind 29
    (so_true (ltb kind 29) (fits B n (sort kind 0) x) e
    (λ q.
    let h = ltb-false kind 29 q in
    let l : length sort_table ≤ kind * 3 + 0 = omega arith in
    rw (get_or-eq_default sort_table 0 l)))

pub record SmallNode (y : Node) : Type 0 where
  pub kind : y.kind < 29
  pub a : y.a < 65535
  pub b : y.b < 65535
  pub c : y.c < 65535

pub small_node : (B : Program) (n : ℕ) → B.P ≤ 10000 → length B.functions ≤ 32 → n ≤ 1024 → bad_node B n ≡ false → SmallNode (node_at B n)
unfolding bad_node
small_node B n p f k e =
    let y = node_at B n in
    let fa : fits B n (sort y.kind 0) y.a ≡ true = so_true (fits B n (sort y.kind 0) y.a) (bad_node B n) e (λ q. simp q) in
    let fb : fits B n (sort y.kind 1) y.b ≡ true = so_true (fits B n (sort y.kind 1) y.b) (bad_node B n) e (λ q. simp (q, and-false)) in
    let fc : fits B n (sort y.kind 2) y.c ≡ true = so_true (fits B n (sort y.kind 2) y.c) (bad_node B n) e (λ q. simp (q, and-false)) in
    record {
      kind = kind_small B n y.kind y.a fa;
      a = fits_small B n p f k (sort y.kind 0) y.a fa;
      b = fits_small B n p f k (sort y.kind 1) y.b fb;
      c = fits_small B n p f k (sort y.kind 2) y.c fc;
    }

-- ---- the program kept

module _ (B : Program) where
  pub kept_nodes : length (kept_program B).nodes ≡ length B.nodes
  unfolding kept_program
  kept_nodes = length-map B.nodes kept_node

  node_kept : (n : ℕ) → node_at (kept_program B) n ≡ kept_node (node_at B n)
  unfolding kept_program
  node_kept n = get_or-map kept_node B.nodes n no_node

  pub kept_strided : Strided B → Strided (kept_program B)
  unfolding kept_program
  kept_strided ok = ok

  pub entry_kept : (es : List Entry) (i : ℕ) → bad_entry (kept_program B) es i ≡ bad_entry B es i
  unfolding kept_program bad_entry in_bounds least_location
  entry_kept es zero = refl
  entry_kept es (suc i) = refl

  module _ (p : B.P ≤ 10000) (f : length B.functions ≤ 32) where
    function_kept : (x : ℕ) → function_at B (capped x 1048575) ≡ function_at B x
    function_kept = same_capped (function_at B) no_function 1048575 (λ x h. get_or-eq_default B.functions no_function (omega arith))

    fits_kept : (n s x : ℕ) → fits (kept_program B) n s x ≡ fits B n s x
    unfolding fits kept_program
    fits_kept n s x =
        rw (
          get_or-map kept_node B.nodes x no_node,
          within_kept 1 13 (node_at B x).kind (omega arith),
          within_kept 20 28 (node_at B x).kind (omega arith),
          within_kept 4 6 (node_at B x).kind (omega arith),
          function_kept (node_at B x).a,
        )

    module _ (n : ℕ) (k : n ≤ 1024) where
      fits_capped : (s x most : ℕ) → 65535 ≤ most → fits (kept_program B) n s (capped x most) ≡ fits B n s x
      fits_capped s x most h =
          fits_kept n s (capped x most) ∙ same_capped (fits B n s) false most (λ x g. large B n p f k s x (omega arith)) x

      pub bad_node_kept : bad_node (kept_program B) n ≡ bad_node B n
      unfolding bad_node
      bad_node_kept =
          let y = node_at B n in
          rw (
            node_kept n,
            sort_kept 0 y.kind,
            sort_kept 1 y.kind,
            sort_kept 2 y.kind,
            fits_capped (sort y.kind 0) y.a 1048575 (omega arith),
            fits_capped (sort y.kind 1) y.b 65535 (omega arith),
            fits_capped (sort y.kind 2) y.c 65535 (omega arith),
          )

    -- a program whose nodes pass check 5 is kept whole
    pub kept_whole : length B.nodes ≤ 1024 → ((n : ℕ) → n < length B.nodes → bad_node B n ≡ false) → kept_program B ≡ B
    unfolding kept_program
    kept_whole few ok = rw (map_same kept_node no_node B.nodes same)
      where
        same : (n : ℕ) → n < length B.nodes → kept_node (node_at B n) ≡ node_at B n
        same n h =
            let s = small_node B n p f (omega arith) (ok n h) in
            let y = node_at B n in
            rw (
              uncapped y.kind 4095 (omega (arith, s.kind)),
              uncapped y.a 1048575 (omega (arith, s.a)),
              uncapped y.b 65535 (omega (arith, s.b)),
              uncapped y.c 65535 (omega (arith, s.c)),
            )
