-- One sum for the location: the number that SPECIFICATION 2.3 gives it, found with no case for each arity, and taken apart again by the same stride. That this
-- is so is claimed in Claims.
use Rattle.std.specs.Prelude.{◌≡◌, List, [], ◌∷◌, ℕ, suc, ◌+◌, ◌-◌, ◌*◌, ◌/◌, ◌%◌, ◌<◌, eqb, ltb, if◌then◌else◌}
use Rattle.book.specs.declared.Function.{Function}
use Rattle.book.specs.Book.{Program, function_at, size, stride}

-- every function of the program has the stride of its arity
abbrev pub Strided : Program → Type 0
Strided B = (f : ℕ) → (function_at B f).stride ≡ stride B.E (function_at B f).arity

-- ---- the sum

-- the first location of f, plus the first argument times the stride, plus the second; an argument that f has not is 0
abbrev pub sum : Function → ℕ → ℕ → ℕ
sum f x y = f.first + x * f.stride + y

-- x and y are arguments for a function of that arity: one that it has not is 0
abbrev pub Fitting : ℕ → ℕ → ℕ → Type 0
Fitting arity x y = (arity < 1 → x ≡ 0) × (arity < 2 → y ≡ 0)

-- ---- taken apart

-- the first argument of location i of f
abbrev pub first_argument : Function → ℕ → ℕ
first_argument f i = i / f.stride

-- the second argument of location i of f
abbrev pub second_argument : Function → ℕ → ℕ
second_argument f i = i % f.stride

-- those of the arguments x and y that a function of that arity has
abbrev pub arguments_by : ℕ → ℕ → ℕ → List ℕ
arguments_by arity x y = if eqb arity 0 then [] else if eqb arity 1 then x ∷ [] else x ∷ y ∷ []

-- the number of the function that location l belongs to, the first of the functions having location 0
unfoldable pub number_in : ℕ → List Function → ℕ → ℕ
number_in E [] l = 0
number_in E (f ∷ fs) l = let n = number_in E fs (l - size E f.arity) in if ltb l (size E f.arity) then 0 else suc n

-- a location taken apart: its function's number, and its arguments, of which those that the function has not are 0
pub record Apart : Type 0 where
  pub function : ℕ
  pub first : ℕ
  pub second : ℕ

-- location l of the program taken apart
abbrev pub apart : Program → ℕ → Apart
apart B l =
    let f = number_in B.E B.functions l in
    let g = function_at B f in
    record { function = f; first = first_argument g (l - g.first); second = second_argument g (l - g.first) }
