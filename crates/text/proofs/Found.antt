-- The least place at fault, as `find` over a range gives it.
use Rattle.std.specs.Prelude.{Option, None, Some}
use Rattle.std.specs.Bool.{⊤}
use Rattle.std.specs.Option.{MatchOption}
use Rattle.std.specs.Fn.{CalledAt}
use Rattle.std.specs.List.{FoldsTo}
use Rattle.std.specs.Iterator.{YieldsThen}
use Rattle.std.specs.declared.ops.Range.{Range}
use Rattle.std.proofs.iter.Yields.{nat_range_steps}
use Rattle.std.proofs.lemmas.Iterator.{first_from_Range}
use denote.Param.Members.{Mut}
use denote.Ref.{Bor}
use mathlib.Core.Path.{◌≡◌, sym, ◌∙◌}
use mathlib.Core.Bool.{Bool, true, false}
use mathlib.Core.List.{List}
use Prim.Native.Nat.{ℕ, ◌-◌, ◌≤◌, ◌<◌}
use native.Mathlib.Omega.{arith}
use Rattle.text.specs.Words.{least_from, least}
use Rattle.text.proofs.Words.{least_from_all, least_from_at}

module _ {F : Type 0} (g : Mut F (Bor ℕ × Unit {0}) Bool) where
  -- what `find` over the range s, with the closure f, says of its result r: the clause `ran` of the call
  abbrev pub Ran : Range ℕ → Range ℕ → F → Option ℕ → Type 0
  Ran s u f r =
      (xs : List ℕ) × (j : F) × YieldsThen nat_range_steps s xs r u × FoldsTo (λ p x q. CalledAt g p x false q) f xs j
      × MatchOption r ⊤ (λ x. (h : F) × CalledAt g j x true h)

  -- the closure f tests for bad, and a call leaves it as it is
  abbrev pub Tests : F → (ℕ → Bool) → Type 0
  Tests f bad = (x : ℕ) (b : Bool) (q : F) → CalledAt g f x b q → (q ≡ f) × (b ≡ bad x)

module _ {F : Type 0} {g : Mut F (Bor ℕ × Unit {0}) Bool} where
  -- over the places from a first one on
  pub least_found : (bad : ℕ → Bool) (s u : Range ℕ) (f : F) (r : Option ℕ) → Ran g s u f r → Tests g f bad → r ≡ least_from bad (s.end - s.start) s.start
  least_found bad s u f r ran tests =
      go r (first_from_Range s u f r (λ x. bad x ≡ true) (λ x. bad x ≡ false) ran (λ x q k. sym (tests x true q k).1) (λ x q k. ((tests x false q k).0, sym (tests x false q k).1)))
    where
      go : (r : Option ℕ)
          → MatchOption r ((k : ℕ) → s.start ≤ k → k < s.end → bad k ≡ false) (λ i. (s.start ≤ i) × (i < s.end) × (bad i ≡ true) × ((k : ℕ) → s.start ≤ k → k < i → bad k ≡ false))
          → r ≡ least_from bad (s.end - s.start) s.start
      go None h = sym (least_from_all bad (s.end - s.start) s.start (λ i a b. h i a (omega arith)))
      go (Some i) h = sym (least_from_at bad (s.end - s.start) s.start i h.0 (omega (arith, h.0, h.1)) h.2 h.3)

  -- over the places below n
  pub least_found_below : (bad : ℕ → Bool) {m n : ℕ} (u : Range ℕ) (f : F) (r : Option ℕ) → m ≡ n → Ran g (record { start = 0; end = m }) u f r → Tests g f bad → r ≡ least bad n
  least_found_below bad {m} {n} u f r e ran tests = let z : m - 0 ≡ n = omega arith in least_found bad (record { start = 0; end = m }) u f r ran tests ∙ rw z
