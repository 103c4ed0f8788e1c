-- The table of specs/Examples is right, by computation.
use Rattle.std.specs.Prelude.{◌≡◌, refl, true, ℕ, ◌<◌, length, get_or}
use Rattle.text.specs.Quoted.{all_right, each_right}
use Rattle.engine.specs.Open.{open_engine}
use Rattle.engine.specs.Examples.{asked, examples, no_example}

-- by computation
examples_right : all_right asked examples ≡ true
unfolding examples open_engine
examples_right = refl

-- move i answers, leaves and reads as the table says
pub answered : (i : ℕ) → i < length examples → asked (get_or examples i no_example).question ≡ (get_or examples i no_example).answer
answered i h = each_right asked examples no_example i examples_right h
