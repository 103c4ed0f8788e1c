-- What one instruction gives: a value to its own location, and, of a release, the default to the locations that it clears.
use Rattle.std.specs.Prelude.{Bool, false, ◌&&◌, ◌||◌, List, [], ◌∷◌, ℕ, eqb}
use Rattle.text.specs.Words.{has}
use Rattle.book.specs.declared.Function.{Function}
use Rattle.book.specs.Book.{Program, true_element, dynamic, place}
use Rattle.book.specs.Sum.{first_argument, second_argument, arguments_by}
use Rattle.engine.specs.declared.Instruction.{Instruction}
use Rattle.engine.specs.declared.Instruction.TheVariants.{Update, Release}

-- the location that an instruction is about: an update's, or Reserve at a release's label
abbrev pub own : Instruction → ℕ
own (Update l v) = l
own (Release x) = x

-- the value that an instruction gives its own location
abbrev pub gets : Instruction → ℕ
gets (Update l v) = v
gets (Release x) = true_element

-- some instruction of the list passes the test p
unfoldable pub any : (Instruction → Bool) → List Instruction → Bool
any p [] = false
any p (i ∷ is) = p i || any p is

-- a release of x clears the location of f at the arguments a and b, holding v (`clears`, engine/specs/Move)
abbrev pub clears_by : Function → ℕ → ℕ → ℕ → ℕ → Bool
clears_by f a b v x = dynamic f && (has (arguments_by f.arity a b) x || eqb v x)

-- a release of x clears location i of f, holding v, where i is taken apart by the stride of f
abbrev pub clears_in : Function → ℕ → ℕ → ℕ → Bool
clears_in f i v x = clears_by f (first_argument f i) (second_argument f i) v x

-- a release of x clears location l, holding v, where l is taken apart by its function's stride
abbrev pub clears_at : Program → ℕ → ℕ → ℕ → Bool
clears_at B l v x = clears_in (place B l).function (place B l).index v x
