-- `check_entry_lines` meets its contract.
use Rattle.book_entries.specs.Pass.{bad_at}
use Rattle.book_entries.specs.Roll.{entries_from, roll_of}
use Rattle.book.specs.Sum.{Strided}
use Rattle.book.specs.Image.{program_in}
use Rattle.book.specs.Contents.{least_location}
use Rattle.text.specs.Text.{bad_line}
use Rattle.text.specs.Words.{least_from}
use Prim.Native.Nat.{◌-◌}
use mathlib.Core.Path.{◌≡◌}
use Rattle.book_entries.proofs.check_entry_lines.Given as goal

abbrev pub invariant-loop-i : goal.invariant-loop-i
invariant-loop-i l =
    (least_from (bad_line l.text) (l.end - l.i) l.i ≡ least_from (bad_line l.text) (l.end - l.first) l.first)
    × (Strided (program_in l.image) → least_from (bad_at (program_in l.image) l.text l.first (l.end - l.first)) (l.end - l.i) l.i ≡ least_from (bad_at (program_in l.image) l.text l.first (l.end - l.first)) (l.end - l.first) l.first)
    × (l.roll ≡ roll_of (entries_from l.text l.first (l.end - l.first)) (l.i - l.first) l.initial.roll)
    × (Strided (program_in l.image) → l.low ≡ least_location (program_in l.image) (entries_from l.text l.first (l.end - l.first)) (l.i - l.first))
