-- The table of specs/Cases is right, by computation.
use Rattle.std.specs.Prelude.{◌≡◌, refl, true, ℕ, ◌<◌, length, get_or}
use Rattle.text.specs.Quoted.{all_right, each_right}
use Rattle.report.specs.Report.{rental}
use Rattle.report.specs.Open.{everything}
use Rattle.report.specs.Cases.{table, no_case}

-- by computation
table_right : all_right rental table ≡ true
unfolding table everything
table_right = refl

-- `rental` prints for case i what the table says
pub cases : (i : ℕ) → i < length table → rental (get_or table i no_case).question ≡ (get_or table i no_case).answer
cases i h = each_right rental table no_case i table_right h
