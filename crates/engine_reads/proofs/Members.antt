-- Laws of a universe: it is read whole, and its members are found one after the other.
use Rattle.std.specs.Prelude.{if◌then◌else◌}
use mathlib.Core.Path.{◌≡◌, refl, ap, ◌∙◌}
use mathlib.Core.Bool.{Bool, true, false}
use mathlib.Core.List.{List, [], ◌∷◌, append-nil}
use Prim.Native.Nat.{ℕ, zero, suc, ◌+◌, ◌-◌, ◌≤◌, ◌<◌}
use native.Mathlib.Numerals.{add-one}
use native.Mathlib.Omega.{arith}
use lib.Dec.{eqb}
use lib.ListN.{get_or}
use borrow.Author.Tests.{eq-eqb, ne_eqb, eqb-true, eqb-false, lt-ltb, le-ltb}
use Rattle.text.specs.Words.{table_from}
use Rattle.book.specs.declared.Function.{Function}
use Rattle.book.specs.Book.{Program, dynamic, function_at, location, dynamic_at}
use Rattle.engine.specs.Reader.{done, value_in, locations_read, ◌>>=◌}
use Rattle.engine.specs.Move.{dynamic_among}
use Rattle.engine.specs.Rule.{members}
use Rattle.engine.proofs.Reader.{value_bind, reads_bind}
use Rattle.engine_term.specs.Marks.{marked, Has, Placed}
use Rattle.engine_reads.specs.Marking.{universe_marked, member, next_passing, members_from, first_and_rest}

-- ---- the marks of a universe

seen_members : (B : Program) (c : List ℕ) (u x k : ℕ) → locations_read c (members B u x k) ≡ table_from (λ y. location B u y 0) x k
unfolding members locations_read table_from ◌>>=◌
seen_members B c u x zero = refl
seen_members B c u x (suc k) =
    ap (λ (s : List ℕ). location B u x 0 ∷ s)
    (reads_bind c (members B u (suc x) k) (λ ys. done (if eqb (get_or c (location B u x 0) 0) 2 then x ∷ ys else ys)) ∙ append-nil (locations_read c (members B u (suc x) k)) ∙ seen_members B c u (suc x) k)

-- the locations of a universe, where the program is placed: one run from its first on, all dynamic or all static
module _ (B : Program) (p : Placed B) (u : ℕ) (has : Has B u 1) where
  pub universe_location : (y : ℕ) → location B u y 0 ≡ (function_at B u).first + y
  universe_location y = rw has.1

  one_kind : (y : ℕ) → y < B.E → dynamic_at B (location B u y 0) ≡ dynamic (function_at B u)
  one_kind y h = p.own u y 0 has.0 h (omega arith)

  dynamic_run : (x k : ℕ) → x + k ≤ B.E
      → dynamic_among B (table_from (λ y. location B u y 0) x k) ≡ (if dynamic (function_at B u) then table_from (λ l. l) ((function_at B u).first + x) k else [])
  unfolding dynamic_among table_from
  dynamic_run x zero h = go (dynamic (function_at B u))
    where
      go : (b : Bool) → ◌≡◌ {A = List ℕ} [] (if b then [] else [])
      go true = refl
      go false = refl
  dynamic_run x (suc k) h =
      let e : (function_at B u).first + suc x ≡ suc ((function_at B u).first + x) = omega arith in
      rw (one_kind x (omega arith)) (go (dynamic (function_at B u)) (rw e at (dynamic_run (suc x) k (omega arith))))
    where
      go : (b : Bool) → dynamic_among B (table_from (λ y. location B u y 0) (suc x) k) ≡ (if b then table_from (λ l. l) (suc ((function_at B u).first + x)) k else [])
          → (if b then location B u x 0 ∷ dynamic_among B (table_from (λ y. location B u y 0) (suc x) k) else dynamic_among B (table_from (λ y. location B u y 0) (suc x) k))
          ≡ (if b then ((function_at B u).first + x) ∷ table_from (λ l. l) (suc ((function_at B u).first + x)) k else [])
      go true e = rw (universe_location x) (ap (λ (s : List ℕ). ((function_at B u).first + x) ∷ s) e)
      go false e = e

  -- what is marked for a universe is what finding its members reads
  pub universe_placed : (c : List ℕ) (bit : ℕ) (m : List ℕ)
      → universe_marked (function_at B u) B.E bit m ≡ marked bit (dynamic_among B (locations_read c (members B u 0 B.E))) m
  unfolding marked
  universe_placed c bit m =
      let e : (function_at B u).first + 0 ≡ (function_at B u).first = omega arith in
      rw (seen_members B c u 0 B.E, dynamic_run 0 B.E (omega arith), e) (go (dynamic (function_at B u)))
    where
      go : (b : Bool)
          → (if b then marked bit (table_from (λ l. l) (function_at B u).first B.E) m else m)
          ≡ marked bit (if b then table_from (λ l. l) (function_at B u).first B.E else []) m
      go true = refl
      go false = refl

-- ---- the members of a universe

module _ (B : Program) (c : List ℕ) (u y : ℕ) where
  one_more : (k : ℕ) → value_in c (members B u y (suc k)) ≡ (if eqb (get_or c (location B u y 0) 0) 2 then y ∷ value_in c (members B u (suc y) k) else value_in c (members B u (suc y) k))
  unfolding members value_in ◌>>=◌
  one_more k = value_bind c (members B u (suc y) k) (λ ys. done (if eqb (get_or c (location B u y 0) 0) 2 then y ∷ ys else ys))

  -- if y is in the universe, the members from y on are y and those after it
  pub member_here : y < B.E → get_or c (location B u y 0) 0 ≡ 2 → members_from B c u y ≡ first_and_rest B c u y
  member_here h g =
      let q : B.E - y ≡ suc (B.E - suc y) = omega arith in
      rw (lt-ltb y B.E h, q, one_more (B.E - suc y), eq-eqb (get_or c (location B u y 0) 0) 2 g, add-one y)

  pub member_not : y < B.E → ((get_or c (location B u y 0) 0 ≡ 2) → ⊥) → members_from B c u y ≡ members_from B c u (y + 1)
  member_not h g =
      let q : B.E - y ≡ suc (B.E - suc y) = omega arith in
      rw (q, one_more (B.E - suc y), ne_eqb (get_or c (location B u y 0) 0) 2 g, add-one y)

  pub no_member : B.E ≤ y → members_from B c u y ≡ first_and_rest B c u y
  unfolding members value_in
  no_member h = let q : B.E - y ≡ 0 = omega arith in rw (le-ltb y B.E h, q)

-- ---- the least number from y on that passes a test

module _ (t : ℕ → Bool) (e y : ℕ) where
  pub next_here : y < e → t y ≡ true → next_passing t y (e - y) ≡ y
  unfolding next_passing
  next_here h g = let q : e - y ≡ suc (e - suc y) = omega arith in rw (q, g)

  pub next_pass : y < e → t y ≡ false → next_passing t y (e - y) ≡ next_passing t (y + 1) (e - (y + 1))
  unfolding next_passing
  next_pass h g = let q : e - y ≡ suc (e - suc y) = omega arith in rw (add-one y, q, g)

  pub next_end : e ≤ y → next_passing t y (e - y) ≡ y
  unfolding next_passing
  next_end h = let q : e - y ≡ 0 = omega arith in rw q

-- the members from x on are the least of them and those after it
module _ (B : Program) (p : Placed B) (c : List ℕ) (u : ℕ) (has : Has B u 1) where
  abbrev in_universe : ℕ → Bool
  in_universe = member c (function_at B u).first

  next_is : (k x : ℕ) → k ≡ B.E - x → members_from B c u x ≡ first_and_rest B c u (next_passing in_universe x k)
  unfolding next_passing
  next_is zero x e = no_member B c u x (omega arith)
  next_is (suc k) x e = go (in_universe x) refl (next_is k (suc x) (omega arith))
    where
      go : (b : Bool) → in_universe x ≡ b
          → members_from B c u (suc x) ≡ first_and_rest B c u (next_passing in_universe (suc x) k)
          → members_from B c u x ≡ first_and_rest B c u (if b then x else next_passing in_universe (suc x) k)
      go true q r = member_here B c u x (omega arith) (rw (universe_location B p u has x) (eqb-true (get_or c ((function_at B u).first + x) 0) 2 q))
      go false q r = member_not B c u x (omega arith) (rw (universe_location B p u has x) (eqb-false (get_or c ((function_at B u).first + x) 0) 2 q)) ∙ rw (add-one x) r

  pub members_next : (f : Function) (e x r : ℕ) → f ≡ function_at B u → e ≡ B.E → r ≡ next_passing (member c f.first) x (e - x) → members_from B c u x ≡ first_and_rest B c u r
  members_next f e x r g q n = rw (n, g, q) (next_is (B.E - x) x refl)
