-- The least place, part by part: of the lines that are ill-formed, and of the lines at fault as the code finds it.
use Rattle.std.specs.Prelude.{Option, None, Some}
use Rattle.std.specs.Prelude.{if◌then◌else◌}
use mathlib.Core.Path.{◌≡◌, refl, sym, ap, ◌∙◌}
use mathlib.Core.Bool.{Bool, true, false}
use mathlib.Core.List.{List}
use Prim.Native.Nat.{ℕ, suc, ◌+◌, ◌-◌, ◌≤◌, ◌<◌}
use native.Mathlib.Omega.{arith}
use Rattle.text.specs.declared.Line.{Line}
use Rattle.text.specs.Words.{least_from, least}
use Rattle.text.specs.Text.{bad_line, parsed}
use Rattle.text.proofs.Words.{least_first, least_rest}
use Rattle.text.proofs.Fields.{parsed_none, parsed_some}
use Rattle.order_lines.specs.Lines.{first_found, shifted}

pub least_split : (bad : ℕ → Bool) (m n i : ℕ) → least_from bad (m + n) i ≡ first_found (least_from bad m i) (least_from bad n (i + m))
least_split bad m n i = go (least_from bad m i) refl
  where
    go : (o : Option ℕ) → least_from bad m i ≡ o → least_from bad (m + n) i ≡ first_found o (least_from bad n (i + m))
    go None e = least_rest bad m n i e
    go (Some p) e = least_first bad m n i p e

-- a loop over the n places from k on
module _ (bad : ℕ → Bool) (k n : ℕ) where
  pub part_start : least_from bad (n - 0) (k + 0) ≡ least_from bad n k
  part_start = let a : n - 0 ≡ n = omega arith in let b : k + 0 ≡ k = omega arith in rw (a, b)

  module _ {t : Option ℕ} (i : ℕ) where
    pub part_pass : i < n → bad (k + i) ≡ false → least_from bad (n - i) (k + i) ≡ t → least_from bad (n - (i + 1)) (k + (i + 1)) ≡ t
    unfolding least_from
    part_pass h b p = let e : n - i ≡ suc (n - (i + 1)) = omega arith in let q : k + (i + 1) ≡ suc (k + i) = omega arith in rw q (rw (e, b) at p)

    pub part_stop : i < n → bad (k + i) ≡ true → least_from bad (n - i) (k + i) ≡ t → Some (k + i) ≡ t
    unfolding least_from
    part_stop h b p = let e : n - i ≡ suc (n - (i + 1)) = omega arith in rw (e, b) at p

    pub part_end : n ≤ i → least_from bad (n - i) (k + i) ≡ t → None ≡ t
    unfolding least_from
    part_end h p = let e : n - i ≡ 0 = omega arith in rw e at p

-- the least place of one place more
least_more : (bad : ℕ → Bool) (i : ℕ) → least bad (i + 1) ≡ first_found (least bad i) (if bad i then Some i else None)
unfolding least_from
least_more bad i = least_split bad i 1 0 ∙ (let e : 0 + i ≡ i = omega arith in rw e)

shifted_more : (k i : ℕ) (o : Option ℕ) (b : Bool)
    → first_found (shifted k o) (if b then Some (k + i) else None) ≡ shifted k (first_found o (if b then Some i else None))
shifted_more k i None true = refl
shifted_more k i None false = refl
shifted_more k i (Some p) b = refl

-- the least fault so far, as the code has it after one line more
pub fault_turn : (bad : ℕ → Bool) (k i : ℕ) (o r : Option ℕ) (b : Bool) → o ≡ shifted k (least bad i) → b ≡ bad i
    → r ≡ first_found o (if b then Some (k + i) else None) → r ≡ shifted k (least bad (i + 1))
fault_turn bad k i o r b p q e = e ∙ rw (p, q) (shifted_more k i (least bad i) (bad i)) ∙ ap (shifted k) (sym (least_more bad i))

-- nothing is found only if nothing was found before, nor at this line
pub fault_none : (o r : Option ℕ) (b : Bool) (p : ℕ) → r ≡ first_found o (if b then Some p else None) → r ≡ None → (o ≡ None) × (b ≡ false)
fault_none None r true p e z = let x : ◌≡◌ {A = ℕ} 0 1 = cc in absurd (omega arith)
fault_none None r false p e z = (refl, refl)
fault_none (Some q) r b p e z = let x : ◌≡◌ {A = ℕ} 0 1 = cc in absurd (omega arith)

pub found_some : {p : ℕ} {A : Type 0} → Some p ≡ None → A
found_some e = let x : ◌≡◌ {A = ℕ} 0 1 = cc in absurd (omega arith)

-- line i is read: whether it is ill-formed
module _ (text : List ℕ) (i : ℕ) (p : Option Line) (is : p ≡ parsed text i) where
  pub line_bad : p ≡ None → bad_line text i ≡ true
  line_bad e = rw (parsed_none text i p is e)

  pub line_good : (l : Line) → p ≡ Some l → bad_line text i ≡ false
  line_good l e = rw ((parsed_some text i p is l e).0)
