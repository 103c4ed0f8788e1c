-- The log as the engine lists it: the moves 0 to m - 1, and pairs that go upwards.
use mathlib.Core.Path.{◌≡◌, refl, sym, ap, ◌∙◌}
use mathlib.Core.Logic.{◌↔◌, ◌⊎◌, inl, inr, dite, ◌≢◌}
use mathlib.Core.List.{List, [], ◌∷◌, ◌++◌}
use mathlib.Core.Option.{some}
use mathlib.Core.Bool.{Bool, true, false, ◌||◌, false≢true}
use Prim.Native.Nat.{ℕ, zero, suc, ◌+◌, ◌≤◌, ◌<◌}
use native.Mathlib.Omega.{arith}
use native.Mathlib.Decide.{dec_lt}
use lib.Dec.{eqb}
use lib.ListN.{length}
use borrow.Author.Tests.{eqb-true, eqb-false}
use Rattle.text.specs.Words.{has}
use Rattle.text.proofs.Words.{refuted}
use Rattle.order.specs.Claims.{Listing}
use Rattle.order.specs.Orders.{Moves, Laws, Touch, run_in_order, listed, Before, from, Keeps, Agrees}
use Rattle.order.proofs.Order.{has_head}
use Rattle.order.proofs.Free.{choose, act, act_none, Accepted, free, in_turn}

touch_sym : (S : Moves) (a b : S.Act) → Touch S a b → Touch S b a
touch_sym S a b (l, inl x) = (l, inr x)
touch_sym S a b (l, inr x) = (l, inl x)

-- ---- the numbers from k on

has_from : (k n i : ℕ) → (has (from k n) i ≡ true) ↔ ((k ≤ i) × (i < k + n))
has_from k zero i = (λ h. absurd (false≢true h), λ h. absurd (omega arith))
has_from k (suc n) i = (λ h. to (has_head k (from (suc k) n) i h) (has_from (suc k) n i), λ h. back (eqb k i) refl h (has_from (suc k) n i))
  where
    to : (k ≡ i) ⊎ (has (from (suc k) n) i ≡ true) → (has (from (suc k) n) i ≡ true) ↔ ((suc k ≤ i) × (i < suc k + n)) → (k ≤ i) × (i < k + suc n)
    to (inl e) r = omega arith
    to (inr h) r = omega (arith, r.0 h)

    back : (b : Bool) → eqb k i ≡ b → (k ≤ i) × (i < k + suc n) → (has (from (suc k) n) i ≡ true) ↔ ((suc k ≤ i) × (i < suc k + n))
        → (b || has (from (suc k) n) i) ≡ true
    back true e h r = refl
    back false e h r = r.1 (omega (arith, eqb-false k i e))

from_split : (p : List ℕ) (i : ℕ) (q : List ℕ) (k n : ℕ) → from k n ≡ p ++ i ∷ q → (i ≡ k + length p) × (p ≡ from k (length p))
from_split [] i q k zero e = let z : ◌≡◌ {A = ℕ} 0 1 = cc in absurd (omega arith)
from_split [] i q k (suc n) e = let z : k ≡ i = cc in (omega arith, refl)
from_split (j ∷ p) i q k zero e = let z : ◌≡◌ {A = ℕ} 0 1 = cc in absurd (omega arith)
from_split (j ∷ p) i q k (suc n) e =
    let t : from (suc k) n ≡ p ++ i ∷ q = cc in
    let x : k ≡ j = cc in
    let r = from_split p i q (suc k) n t in
    (omega arith, ap (λ (l : ℕ). l ∷ p) (sym x) ∙ ap (λ (l : List ℕ). k ∷ l) r.1)

has_upto : (m i : ℕ) → (has (from 0 m) i ≡ true) ↔ (i < m)
has_upto m i = (λ h. omega (arith, (has_from 0 m i).0 h), λ h. (has_from 0 m i).1 (omega arith))

-- the listing is one order that keeps the pairs
pub keeps_upto : (m : ℕ) (pair : ℕ → ℕ → Type 0) → ((i j : ℕ) → pair i j → i < j) → Keeps (from 0 m) pair (from 0 m)
keeps_upto m pair up = record {
  all = λ i. refl;
  once = λ p i q e. let s = from_split p i q 0 m e in
      refuted (has p i) (λ h. let g = (has_upto (length p) i).0 (ap (λ (x : List ℕ). has x i) (sym s.1) ∙ h) in omega arith);
  pairs = λ a b r p q e. let s = from_split p b q 0 m e in
      ap (λ (x : List ℕ). has x a) s.1 ∙ (has_upto (length p) a).1 (omega (arith, up a b r));
}

-- ---- the run as listed

run_listed : (S : Moves) (c : S.Con) (n k : ℕ) → run_in_order S (listed S c k) (from k n) ≡ listed S c (k + n)
run_listed S c zero k = let e : k ≡ k + zero = omega arith in ap (λ (x : ℕ). listed S c x) e
run_listed S c (suc n) k = let e : suc k + n ≡ k + suc n = omega arith in run_listed S c n (suc k) ∙ ap (λ (x : ℕ). listed S c x) e

act_listed : (S : Moves) (c : S.Con) (n k i : ℕ) → k ≤ i → i < k + n → act S (listed S c k) (from k n) i ≡ S.does i (listed S c i)
act_listed S c zero k i a b = absurd (omega arith)
act_listed S c (suc n) k i a b = go (eqb k i) refl (act_listed S c n (suc k) i)
  where
    go : (x : Bool) → eqb k i ≡ x → (suc k ≤ i → i < suc k + n → act S (listed S c (suc k)) (from (suc k) n) i ≡ S.does i (listed S c i))
        → choose S x (S.does k (listed S c k)) (act S (listed S c (suc k)) (from (suc k) n) i) ≡ S.does i (listed S c i)
    go true e r = ap (λ (x : ℕ). S.does x (listed S c x)) (eqb-true k i e)
    go false e r = r (omega (arith, eqb-false k i e)) (omega arith)

pub run_upto : (S : Moves) (start : S.Con) (m : ℕ) → run_in_order S start (from 0 m) ≡ listed S start m
run_upto S start m = let e : 0 + m ≡ m = omega arith in run_listed S start m 0 ∙ ap (λ (x : ℕ). listed S start x) e

upto_act : (S : Moves) (start : S.Con) (m i : ℕ) → i < m → act S start (from 0 m) i ≡ S.does i (listed S start i)
upto_act S start m i h = act_listed S start m 0 i (omega arith) (omega arith)

module _ (S : Moves) (start : S.Con) (m : ℕ) (pair : ℕ → ℕ → Type 0) (log : Listing S start m pair) where
  upto_less : (i : ℕ) (a : S.Act) → act S start (from 0 m) i ≡ some a → i < m
  upto_less i a e = (has_upto m i).0 (go (has (from 0 m) i) refl)
    where
      go : (b : Bool) → has (from 0 m) i ≡ b → b ≡ true
      go true h = refl
      go false h = let g = act_none S (from 0 m) start i h in let z : ◌≡◌ {A = ℕ} 0 1 = cc in absurd (omega arith)

  accepted : Accepted S start (from 0 m) pair
  accepted = record {
    good = log.good;
    keeps = keeps_upto m pair log.up;
    fires = λ i h. let b = (has_upto m i).0 h in let f = log.fires i b in (f.0, upto_act S start m i b ∙ f.1);
    apart = apart;
  }
    where
      apart : (i j : ℕ) (a b : S.Act) → i ≢ j → act S start (from 0 m) i ≡ some a → act S start (from 0 m) j ≡ some b
          → ¬ Before pair i j → ¬ Before pair j i → ¬ Touch S a b
      apart i j a b n ea eb x y t =
          let p = upto_less i a ea in
          let q = upto_less j b eb in
          let da = sym (upto_act S start m i p) ∙ ea in
          let db = sym (upto_act S start m j q) ∙ eb in
          dite (dec_lt i j) (λ (h : i < j). log.apart i j a b h q da db x t)
          (λ (h : ¬ (i < j)). log.apart j i b a (omega arith) p db da y (touch_sym S a b t))

-- Freedom of order for a log as listed: every order that keeps the pairs agrees with the listed one.
pub agrees : (S : Moves) → Laws S → (start : S.Con) (m : ℕ) (pair : ℕ → ℕ → Type 0) → Listing S start m pair
    → (is : List ℕ) → Keeps (from 0 m) pair is → Agrees S start m is
agrees S law start m pair log is k =
    let acc = accepted S start m pair log in
    let r = free S law start (from 0 m) pair acc is k in
    record {
      fires = λ p i q e.
          let t = in_turn S law start (from 0 m) pair acc is k p i q e in
          (t.0, t.1, sym (upto_act S start m i (upto_less S start m pair log i t.0 t.2)) ∙ t.2);
      ends = r.ends ∙ run_upto S start m;
      good = r.good;
    }
