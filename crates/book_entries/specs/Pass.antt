-- What a pass over the contents lines finds. A line that is ill-formed, wherever it stands, comes before one at fault by refusal 8 (SPECIFICATION 3.3, 3.9).
use Rattle.std.specs.Prelude.{Option, None, Some}
use Rattle.std.specs.Prelude.{Bool, List, ℕ, ◌-◌}
use Rattle.text.specs.Words.{least_from}
use Rattle.text.specs.Text.{bad_line}
use Rattle.book.specs.Book.{Program}
use Rattle.book.specs.Contents.{bad_entry}
use Rattle.text.specs.declared.LineFaults.{LineFaults}
use Rattle.book_entries.specs.Roll.{entries_from}

-- the second finding, if the first is none
abbrev pub unless : Option ℕ → Option ℕ → Option ℕ
unless (Some i) rule = None
unless None rule = rule

-- both findings: the least line that is ill-formed, and if there is none the least line at fault by refusal 8
abbrev pub faults : Option ℕ → Option ℕ → LineFaults
faults form rule = record { ill = form; fault = unless form rule }

-- the entry of line i is at fault; the n contents lines start at line `first`
abbrev pub bad_at : Program → List ℕ → ℕ → ℕ → ℕ → Bool
bad_at B text first n i = bad_entry B (entries_from text first n) (i - first)

-- what a pass over n contents lines from line `first` on finds
unfoldable pub faults_from : Program → List ℕ → ℕ → ℕ → LineFaults
faults_from B text first n = faults (least_from (bad_line text) n first) (least_from (bad_at B text first n) n first)
