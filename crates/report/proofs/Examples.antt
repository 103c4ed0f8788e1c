-- The tables of specs/Examples are right, by computation.
use Rattle.std.specs.Prelude.{◌≡◌, refl, true, ℕ, ◌<◌, length, get_or}
use Rattle.text.specs.Quoted.{all_right, each_right}
use Rattle.report.specs.Report.{rental}
use Rattle.report.specs.Open.{everything}
use Rattle.report.specs.Examples.{squares, squares_and_one, counted, examples, choices, retirements, limits, no_example}

-- by computation
examples_right : all_right rental examples ≡ true
unfolding examples counted everything
examples_right = refl

-- by computation
choices_right : all_right rental choices ≡ true
unfolding choices everything
choices_right = refl

-- by computation
retirements_right : all_right rental retirements ≡ true
unfolding retirements everything
retirements_right = refl

-- by computation
limits_right : all_right rental limits ≡ true
unfolding limits squares squares_and_one counted everything
limits_right = refl

-- `rental` prints for example i what the table says
pub printed_examples : (i : ℕ) → i < length examples → rental (get_or examples i no_example).question ≡ (get_or examples i no_example).answer
printed_examples i h = each_right rental examples no_example i examples_right h

-- `rental` prints for input i of the choices what the table says
pub printed_choices : (i : ℕ) → i < length choices → rental (get_or choices i no_example).question ≡ (get_or choices i no_example).answer
printed_choices i h = each_right rental choices no_example i choices_right h

-- `rental` prints for input i of the retirements what the table says
pub printed_retirements : (i : ℕ) → i < length retirements → rental (get_or retirements i no_example).question ≡ (get_or retirements i no_example).answer
printed_retirements i h = each_right rental retirements no_example i retirements_right h

-- `rental` prints for input i of the limits what the table says
pub printed_limits : (i : ℕ) → i < length limits → rental (get_or limits i no_example).question ≡ (get_or limits i no_example).answer
printed_limits i h = each_right rental limits no_example i limits_right h
