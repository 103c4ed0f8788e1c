-- The length of an image, and its counts compared with their bounds.
use mathlib.Core.Path.{◌≡◌, sym, ◌∙◌}
use mathlib.Core.List.{List, map}
use Prim.Native.Nat.{ℕ, ◌≤◌, ◌<◌, min}
use native.Mathlib.Omega.{arith}
use native.Mathlib.Decide.{dec_lt}
use mathlib.Core.Logic.{◌⊎◌, inl, inr}
use lib.ListN.{length, length-map}
use borrow.Author.Tests.{lt-ltb, le-ltb}
use Rattle.book.specs.Image.{capped}

-- a list has the length of the list that it was mapped to
pub unmapped : (A B : Type 0) (f : A → B) (l : List A) (n : ℕ) → length (map f l) ≡ n → length l ≡ n
unmapped A B f l n e = sym (length-map l f) ∙ e

-- the smaller of a count and its bound is the count capped
pub min_capped : (n most : ℕ) → min n most ≡ capped n most
min_capped n most = go (dec_lt n most)
  where
    go : Dec (n < most) → min n most ≡ capped n most
    go (yes l) = rw (lt-ltb n most l) (omega arith)
    go (no l) = rw (le-ltb n most (omega arith)) (omega arith)

-- a count that is below a number and below the bound is below the number capped at the bound
pub capped_above : (n w most : ℕ) → n < w → n < most → n < capped w most
capped_above n w most h k = go (dec_lt w most)
  where
    go : Dec (w < most) → n < capped w most
    go (yes l) = rw (lt-ltb w most l) h
    go (no l) = rw (le-ltb w most (omega arith)) k

pub capped_reached : (n w most : ℕ) → (w ≤ n) ⊎ (most ≤ n) → capped w most ≤ n
capped_reached n w most h = go (dec_lt w most) h
  where
    go : Dec (w < most) → (w ≤ n) ⊎ (most ≤ n) → capped w most ≤ n
    go (yes l) (inl k) = rw (lt-ltb w most l) k
    go (yes l) (inr k) = rw (lt-ltb w most l) (omega arith)
    go (no l) (inl k) = rw (le-ltb w most (omega arith)) (omega arith)
    go (no l) (inr k) = rw (le-ltb w most (omega arith)) k
