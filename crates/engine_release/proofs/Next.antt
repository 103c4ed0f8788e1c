-- Marks of the locations of a list of places, one place more.
use mathlib.Core.Path.{◌≡◌, sym, ap, ◌∙◌}
use mathlib.Core.List.{List, ◌++◌}
use Prim.Native.Nat.{ℕ, ◌+◌}
use native.Mathlib.Omega.{arith}
use Rattle.engine.specs.Move.{append_from}
use Rattle.engine.proofs.Append.{append_snoc}
use Rattle.engine_term.specs.Marks.{marked}
use Rattle.engine_term.proofs.Marking.{marked_on}

pub marked_next : (bit : ℕ) (f : ℕ → List ℕ) (i : ℕ) (m n o : List ℕ) → n ≡ marked bit (append_from f 0 i) m → o ≡ marked bit (f i) n
    → o ≡ marked bit (append_from f 0 (i + 1)) m
marked_next bit f i m n o p q =
    marked_on bit (append_from f 0 i) (f i) m n o p q
    ∙ sym (ap (λ (s : List ℕ). marked bit s m) (append_snoc f 0 i ∙ ap (λ (k : ℕ). append_from f 0 i ++ f k) (omega arith)))
