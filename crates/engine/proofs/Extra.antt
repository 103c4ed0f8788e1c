-- What a move reads beside what its walk reads, one location's list at a time: what is in it.
use Rattle.std.specs.Prelude.{if◌then◌else◌}
use mathlib.Core.Path.{◌≡◌, refl}
use mathlib.Core.Logic.{◌⊎◌, inl, inr, ◌≢◌}
use mathlib.Core.Bool.{Bool, true, false, ◌&&◌, not, false≢true}
use mathlib.Core.List.{List, [], ◌∷◌}
use Prim.Native.Nat.{ℕ, ◌≤◌}
use lib.Dec.{eqb, leb}
use borrow.Author.Tests.{eqb-true, eqb-false, eq-eqb, ne_eqb, leb-true, le-leb, not-true}
use Rattle.text.specs.Words.{has}
use Rattle.text.proofs.Words.{and_cases, or_cases}
use Rattle.book.specs.Book.{Program}
use Rattle.engine.specs.Move.{release_gives, release_reads, taken_reads}

one_in : (b : Bool) (y x : ℕ) → has (if b then y ∷ [] else []) x ≡ true → (b ≡ true) × (y ≡ x)
one_in false y x h = absurd (false≢true h)
one_in true y x h = (refl, go (or_cases (eqb y x) false h))
  where
    go : (eqb y x ≡ true) ⊎ (◌≡◌ {A = Bool} false true) → y ≡ x
    go (inl e) = eqb-true y x e
    go (inr e) = absurd (false≢true e)

pub release_in : (B : Program) (c xs : List ℕ) (l k : ℕ) → has (release_reads B c xs l) k ≡ true → (release_gives B c xs l ≡ true) × (l ≡ k)
release_in B c xs l k h = one_in (release_gives B c xs l) l k h

pub taken_in : (P v w k : ℕ) → has (taken_reads P v w) k ≡ true → (P ≤ v) × (w ≢ v) × (v ≡ k)
taken_in P v w k h =
    let s = one_in (leb P v && not (eqb w v)) v k h in
    let t = and_cases (leb P v) (not (eqb w v)) s.0 in
    (leb-true P v t.0, eqb-false w v (not-true (eqb w v) t.1), s.1)

pub taken_has : (P v w : ℕ) → P ≤ v → w ≢ v → has (taken_reads P v w) v ≡ true
taken_has P v w h n = rw (le-leb P v h, ne_eqb w v n, eq-eqb v v refl)
