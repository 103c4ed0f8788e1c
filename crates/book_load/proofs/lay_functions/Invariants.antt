-- `lay_functions` meets its contract.
use Rattle.book.specs.Image.{image_row, filled, first_location, laid_row}
use Prim.Native.Nat.{ℕ, ◌≤◌, ◌-◌, ◌+◌, ◌*◌}
use mathlib.Core.Path.{◌≡◌}
use Rattle.book_load.proofs.lay_functions.Given as goal

abbrev pub invariant-loop-i : goal.invariant-loop-i
invariant-loop-i l = (l.sum ≡ first_location (λ f. image_row l.initial.image (2 + f)) l.e l.i) × (l.sum ≤ l.i * 100000000)
    × ((j : ℕ) → l.i ≤ j → image_row l.image (2 + j) ≡ image_row l.initial.image (2 + j))
    × (filled (laid_row (λ f. image_row l.initial.image (2 + f)) l.e) 2 (l.n - l.i) l.i l.image ≡ filled (laid_row (λ f. image_row l.initial.image (2 + f)) l.e) 2 l.n 0 l.initial.image)
