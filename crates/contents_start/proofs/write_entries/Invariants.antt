-- `write_entries` meets its contract.
use mathlib.Core.Path.{◌≡◌}
use Prim.Native.Nat.{◌+◌, ◌-◌}
use Rattle.text.specs.Words.{table_from}
use Rattle.text.specs.Text.{line}
use Rattle.book.specs.Image.{first_entry_in, low_program}
use Rattle.contents_start.specs.Written.{entries_put, entry_lines}
use Rattle.contents_start.proofs.write_entries.Given as goal

abbrev pub invariant-loop-i : goal.invariant-loop-i
invariant-loop-i l =
    entries_put (low_program l.image) (table_from (λ k. line l.book (first_entry_in l.image + k)) l.i (l.count - l.i)) l.contents
    ≡ entries_put (low_program l.image) (entry_lines l.image l.book) l.initial.contents
