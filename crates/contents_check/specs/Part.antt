-- A function's part of a contents table, a location in it, and what it may hold without fault.
use Rattle.std.specs.Prelude.{◌≡◌, false, List, ℕ, ◌+◌, ◌<◌, ◌≤◌, get_or}
use Rattle.book.specs.declared.Function.{Function}
use Rattle.book.specs.Book.{Program, size, stride, place}
use Rattle.book.specs.Contents.{bad_value}

-- in the book B, with these E and P, location l is number i of f, which has the stride of its arity
pub record Held (B : Program) (E P : ℕ) (f : Function) (l i : ℕ) : Type 0 where
  pub elements : B.E ≡ E
  pub permanent : B.P ≡ P
  pub strided : f.stride ≡ stride E f.arity
  pub here : place B l ≡ record { function = f; index = i }

-- a location of f that holds v is not at fault in the contents c
abbrev pub Faultless : List ℕ → ℕ → Function → ℕ → Type 0
Faultless c E f v = (B : Program) (l : ℕ) → B.E ≡ E → (place B l).function ≡ f → get_or c l 0 ≡ v → bad_value B c l ≡ false

-- the locations from l up to r hold v, and r is not past `end`
pub record SkippedTo (c : List ℕ) (v l end r : ℕ) : Type 0 where
  pub from : l ≤ r
  pub to : r ≤ end
  pub held : (k : ℕ) → l ≤ k → k < r → get_or c k 0 ≡ v

-- in the book B, with these E and P, the locations from `first` up to `end` are those of f, which has the stride of its arity
pub record Part (B : Program) (E P : ℕ) (f : Function) (first end : ℕ) : Type 0 where
  pub elements : B.E ≡ E
  pub permanent : B.P ≡ P
  pub strided : f.stride ≡ stride E f.arity
  pub long : end ≡ first + size E f.arity
  pub places : (i : ℕ) → i < size E f.arity → place B (first + i) ≡ record { function = f; index = i }
