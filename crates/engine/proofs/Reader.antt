-- Whatever is written with `Reader` depends only on the locations that it reads.
use mathlib.Core.Path.{◌≡◌, refl, ap}
use mathlib.Core.Bool.{true, or-true}
use mathlib.Core.List.{List, ◌∷◌, ◌++◌}
use Prim.Native.Nat.{ℕ}
use lib.Dec.{eqb}
use lib.ListN.{get_or}
use borrow.Author.Tests.{eq-eqb}
use Rattle.text.specs.Words.{has}
use Rattle.engine.specs.Reader.{Reader, done, read_then, value_in, locations_read, ◌>>=◌}

-- two contents have the same value at each location of a list
abbrev pub Agree : List ℕ → List ℕ → List ℕ → Type 0
Agree c d ls = (l : ℕ) → has ls l ≡ true → get_or c l 0 ≡ get_or d l 0

-- contents that agree on what a computation reads in one of them give it the same value
pub local : {A : Type 0} (c d : List ℕ) (w : Reader A) → Agree c d (locations_read c w) → value_in c w ≡ value_in d w
unfolding value_in locations_read
local c d (done a) h = refl
local c d (read_then l k) h =
    let e : get_or c l 0 ≡ get_or d l 0 = h l (rw (eq-eqb l l refl)) in
    rw (← e) (local c d (k (get_or c l 0)) (λ j m. h j (rw m (or-true (eqb l j)))))

-- contents that agree on what a computation reads in one of them are read at the same locations
pub reads_local : {A : Type 0} (c d : List ℕ) (w : Reader A) → Agree c d (locations_read c w) → locations_read c w ≡ locations_read d w
unfolding value_in locations_read
reads_local c d (done a) h = refl
reads_local c d (read_then l k) h =
    let e : get_or c l 0 ≡ get_or d l 0 = h l (rw (eq-eqb l l refl)) in
    rw (← e) (ap (λ (s : List ℕ). l ∷ s) (reads_local c d (k (get_or c l 0)) (λ j m. h j (rw m (or-true (eqb l j))))))

-- ---- one computation after the other

module _ {A B : Type 0} where
  pub value_bind : (c : List ℕ) (w : Reader A) (f : A → Reader B) → value_in c (w >>= f) ≡ value_in c (f (value_in c w))
  unfolding value_in ◌>>=◌
  value_bind c (done a) f = refl
  value_bind c (read_then l k) f = value_bind c (k (get_or c l 0)) f

  pub reads_bind : (c : List ℕ) (w : Reader A) (f : A → Reader B) → locations_read c (w >>= f) ≡ locations_read c w ++ locations_read c (f (value_in c w))
  unfolding value_in locations_read ◌>>=◌
  reads_bind c (done a) f = refl
  reads_bind c (read_then l k) f = ap (λ (s : List ℕ). l ∷ s) (reads_bind c (k (get_or c l 0)) f)
