-- The table of specs/Tallies is right, by computation.
use Rattle.std.specs.Prelude.{◌≡◌, refl, true, ℕ, ◌<◌, length, get_or}
use Rattle.text.specs.Quoted.{all_right, each_right}
use Rattle.report.specs.Open.{everything}
use Rattle.report.specs.Tallies.{answer_and_tally, tallies, no_tally}

-- by computation
tallies_right : all_right answer_and_tally tallies ≡ true
unfolding tallies everything
tallies_right = refl

-- input i of the table has the answer and the tally that the table says
pub told_tallies : (i : ℕ) → i < length tallies → answer_and_tally (get_or tallies i no_tally).question ≡ (get_or tallies i no_tally).answer
told_tallies i h = each_right answer_and_tally tallies no_tally i tallies_right h
