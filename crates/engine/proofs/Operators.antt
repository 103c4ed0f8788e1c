-- The table of specs/Operators is right, by computation.
use Rattle.std.specs.Prelude.{◌≡◌, refl, true, ℕ, ◌<◌, length, get_or}
use Rattle.text.specs.Quoted.{all_right, each_right}
use Rattle.engine.specs.Open.{open_engine}
use Rattle.engine.specs.Examples.{asked, no_example}
use Rattle.engine.specs.Operators.{operators}

-- by computation
operators_right : all_right asked operators ≡ true
unfolding operators open_engine
operators_right = refl

-- term i of the table has the value that it says
pub operated : (i : ℕ) → i < length operators → asked (get_or operators i no_example).question ≡ (get_or operators i no_example).answer
operated i h = each_right asked operators no_example i operators_right h
