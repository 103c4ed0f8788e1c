-- The table of specs/Examples is right, by computation.
use Rattle.std.specs.Prelude.{◌≡◌, refl, true, [], ℕ, ◌<◌, length, get_or}
use Rattle.text.specs.Quoted.{case, all_right, each_right}
use Rattle.book.specs.Open.{open_book}
use Rattle.book.specs.Examples.{asked, examples}

-- by computation
examples_right : all_right asked examples ≡ true
unfolding examples open_book
examples_right = refl

-- the check of book i answers as the table says
pub answered : (i : ℕ) → i < length examples → asked (get_or examples i (case [] [])).question ≡ (get_or examples i (case [] [])).answer
answered i h = each_right asked examples (case [] []) i examples_right h
