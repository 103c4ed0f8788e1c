-- A function's part, location after location: the least at fault from l on is the least of the part.
use Rattle.std.specs.Prelude.{None, Some}
use mathlib.Core.Path.{◌≡◌, sym, ap, ◌∙◌}
use mathlib.Core.Bool.{Bool, true, false}
use mathlib.Core.List.{List}
use Prim.Native.Nat.{ℕ, zero, suc, ◌+◌, ◌-◌, ◌<◌, ◌≤◌}
use native.Mathlib.Omega.{arith}
use Rattle.text.specs.Words.{least_from, least}
use Rattle.text.proofs.Words.{least_start, least_pass, least_stop, least_end}
use Rattle.book.specs.declared.Function.{Function}
use Rattle.book.specs.Book.{Program, Place, size}
use Rattle.book.specs.Contents.{bad_value}
use Rattle.contents_check.specs.Part.{Held, Faultless, SkippedTo, Part}

-- places that are not at fault are passed over
least_skip :
    (bad : ℕ → Bool) (n i k : ℕ) → i + k ≤ n → ((j : ℕ) → i ≤ j → j < i + k → bad j ≡ false) → least_from bad (n - i) i ≡ least bad n →
    least_from bad (n - (i + k)) (i + k) ≡ least bad n
least_skip bad n i zero h none p = let e : i + 0 ≡ i = omega arith in rw e p
least_skip bad n i (suc k) h none p =
    let e : i + suc k ≡ i + k + 1 = omega arith in
    rw e
    (least_pass bad n (i + k) (omega arith) (none (i + k) (omega arith) (omega arith))
    (least_skip bad n i k (omega arith) (λ j a b. none j a (omega arith)) p))

module _ (B : Program) (c : List ℕ) (E P : ℕ) (f : Function) (first end : ℕ) (part : Part B E P f first end) where
  abbrev n : ℕ
  n = size E f.arity

  -- number i of the part is at fault
  abbrev bad : ℕ → Bool
  bad i = bad_value B c (first + i)

  -- all places before l are passed over
  abbrev pub Passed : ℕ → Type 0
  Passed l = least_from bad (n - (l - first)) (l - first) ≡ least bad n

  pub scan_start : Passed first
  scan_start = let e : first - first ≡ 0 = omega arith in rw e (least_start bad n)

  module _ (l : ℕ) (from : first ≤ l) (p : Passed l) where
    -- locations that hold a value that is not at fault are passed over
    pub scan_skip : (v r : ℕ) → Faultless c E f v → SkippedTo c v l end r → Passed r
    scan_skip v r fine h =
        let e : l - first + (r - l) ≡ r - first = omega (arith, h.from) in
        rw e at
        (least_skip bad n (l - first) (r - l) (omega (arith, h.from, h.to, part.long))
        (λ j a b.
        fine B (first + j) part.elements (ap (λ (q : Place). q.function) (part.places j (omega (arith, h.from, h.to, part.long))))
        (h.held (first + j) (omega arith) (omega (arith, h.from))))
        p)

    held_is : l < end → Held B E P f l (l - first)
    held_is h =
        let e : first + (l - first) ≡ l = omega arith in
        record {
          elements = part.elements;
          permanent = part.permanent;
          strided = part.strided;
          here = rw e at (part.places (l - first) (omega (arith, part.long)));
        }

    -- a location that is checked and is not at fault is passed over
    pub scan_pass : (r : Bool) → l < end → (Held B E P f l (l - first) → r ≡ bad_value B c l) → r ≡ false → Passed (l + 1)
    scan_pass r h k q =
        let e : first + (l - first) ≡ l = omega arith in
        let d : l - first + 1 ≡ l + 1 - first = omega arith in
        rw d at (least_pass bad n (l - first) (omega (arith, part.long)) (rw e (sym (k (held_is h)) ∙ q)) p)

    pub scan_stop : (r : Bool) → l < end → (Held B E P f l (l - first) → r ≡ bad_value B c l) → r ≡ true → Some (l - first) ≡ least bad n
    scan_stop r h k q =
        let e : first + (l - first) ≡ l = omega arith in
        least_stop bad n (l - first) (omega (arith, part.long)) (rw e (sym (k (held_is h)) ∙ q)) p

    pub scan_end : end ≤ l → None ≡ least bad n
    scan_end h = least_end bad n (l - first) (omega (arith, part.long)) p
