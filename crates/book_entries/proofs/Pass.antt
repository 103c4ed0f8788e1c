-- What the pass over the contents lines finds, line by line.
use Rattle.std.specs.Prelude.{Option, None, Some}
use mathlib.Core.Path.{◌≡◌, sym, ◌∙◌, ap}
use mathlib.Core.List.{List}
use Prim.Native.Nat.{ℕ, ◌+◌, ◌-◌, ◌<◌, ◌≤◌}
use native.Mathlib.Omega.{arith}
use Rattle.text.specs.Words.{least_from}
use Rattle.text.specs.Text.{bad_line, line}
use Rattle.book.specs.Book.{Program, entry_at}
use Rattle.book.specs.Lines.{entry_of}
use Rattle.text.specs.declared.LineFaults.{LineFaults}
use Rattle.book_entries.specs.Roll.{entries_from}
use Rattle.book_entries.specs.Pass.{faults, bad_at, faults_from}
use Rattle.book_entries.proofs.Roll.{entry_there}

module _ (form fault : Option ℕ) where
  pub ill : (i : ℕ) → form ≡ Some i → ◌≡◌ {A = LineFaults} (record { ill = Some i; fault = None }) (faults form fault)
  ill i e = rw e

  pub at_fault : (i : ℕ) → form ≡ None → fault ≡ Some i → ◌≡◌ {A = LineFaults} (record { ill = None; fault = Some i }) (faults form fault)
  at_fault i e f = rw (e, f)

  pub sound : form ≡ None → fault ≡ None → ◌≡◌ {A = LineFaults} (record { ill = None; fault = None }) (faults form fault)
  sound e f = rw (e, f)

-- the entry of line i is the one that the line says
pub entry_line :
    (text : List ℕ) (first end i : ℕ) → first ≤ i → i < end → entry_at (entries_from text first (end - first)) (i - first) ≡ entry_of (line text i)
entry_line text first end i l h =
    let e : first + (i - first) ≡ i = omega arith in
    entry_there text first (end - first) (i - first) (omega arith) ∙ ap (λ (k : ℕ). entry_of (line text k)) e

module _ (B : Program) (text : List ℕ) (first end : ℕ) where
  abbrev form : ℕ → Option ℕ
  form i = least_from (bad_line text) (end - i) i

  abbrev fault : ℕ → Option ℕ
  fault i = least_from (bad_at B text first (end - first)) (end - i) i

  pub ill_formed : (i : ℕ) → Some i ≡ form first → ◌≡◌ {A = LineFaults} (record { ill = Some i; fault = None }) (faults_from B text first (end - first))
  unfolding faults_from
  ill_formed i e = ill (form first) (fault first) i (sym e)

  pub at_fault_from :
      (r : LineFaults) (i : ℕ) → r ≡ faults (form i) (Some i) → form i ≡ form first → Some i ≡ fault first → r ≡ faults_from B text first (end - first)
  unfolding faults_from
  at_fault_from r i e f g = e ∙ rw (f, g)

  pub all_sound : None ≡ form first → None ≡ fault first → ◌≡◌ {A = LineFaults} (record { ill = None; fault = None }) (faults_from B text first (end - first))
  unfolding faults_from
  all_sound e f = sound (form first) (fault first) (sym e) (sym f)

-- a pass up to line first + n is a pass over n lines
pub counted : (B : Program) (text : List ℕ) (first n : ℕ) → faults_from B text first (first + n - first) ≡ faults_from B text first n
counted B text first n = let e : first + n - first ≡ n = omega arith in rw e
