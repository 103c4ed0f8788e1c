-- What the search for a clash does, step by step: the values that one location is given, and the least clash so far.
use Rattle.std.specs.Prelude.{Bool, false, ◌&&◌, ◌||◌, List, [], ◌∷◌, ◌++◌, ℕ, eqb, ltb, leb, get_or, if◌then◌else◌}
use Rattle.text.specs.Words.{has}
use Rattle.book.specs.Book.{Program, true_element, dynamic, default, place}
use Rattle.book.specs.Sum.{first_argument, second_argument}
use Rattle.engine.specs.declared.Instruction.{Instruction}
use Rattle.engine.specs.declared.Instruction.TheVariants.{Update, Release}
use Rattle.engine.specs.Move.{released, other}
use Rattle.engine_instruction.specs.Given.{own, gets}
use Rattle.engine_clash.specs.declared.HeldPlace.{HeldPlace}

-- ---- one location

-- location l, taken apart by its function's stride, and what it holds, which also stands in place of an argument that the function has not
abbrev pub held_place : Program → List ℕ → ℕ → HeldPlace
held_place B c l =
    let p = place B l in
    let f = p.function in
    record {
      location = l;
      function = f;
      first = if leb 1 f.arity then first_argument f p.index else get_or c l 0;
      second = if leb 2 f.arity then second_argument f p.index else get_or c l 0;
      held = get_or c l 0;
    }

-- a release of x clears the location of s
abbrev pub clears_held : HeldPlace → ℕ → Bool
clears_held s x = dynamic s.function && (eqb s.first x || eqb s.second x || eqb s.held x)

-- the values that an instruction gives the location of s
unfoldable pub values_given : HeldPlace → Instruction → List ℕ
values_given s (Update l v) = if eqb l s.location then v ∷ [] else []
values_given s (Release x) =
    if eqb x s.location then true_element ∷ []
    else if clears_held s x then default s.function ∷ []
    else []

-- the values that instructions give the location of s, in order
unfoldable pub values_given_by : HeldPlace → List Instruction → List ℕ
values_given_by s [] = []
values_given_by s (i ∷ is) = values_given s i ++ values_given_by s is

-- ---- all instructions

-- the instruction is an update whose value is one of the labels xs
abbrev pub sets_released : List ℕ → Instruction → Bool
sets_released xs (Update l v) = has xs v
sets_released xs (Release x) = false

-- the own location of instruction i clashes: i's own value is not the only one given there, or is a label that is released
abbrev pub clashes_by : Program → List ℕ → List Instruction → Instruction → Bool
clashes_by B c all i = other (gets i) (values_given_by (held_place B c (own i)) all) || sets_released (released all) i

-- the least clash so far, b, or the own location of instruction i if that is less and clashes
abbrev pub least_with : Program → List ℕ → List Instruction → Instruction → ℕ → ℕ
least_with B c all i b = if ltb (own i) b && clashes_by B c all i then own i else b

-- the least own location that clashes, or b
unfoldable pub least_clash : Program → List ℕ → List Instruction → List Instruction → ℕ → ℕ
least_clash B c all [] b = b
least_clash B c all (i ∷ is) b = least_clash B c all is (least_with B c all i b)
