-- `load_lines` meets its contract.
use Rattle.book_load.specs.Loaded.{lines_loaded}
use Rattle.text.specs.Text.{bad_line}
use Rattle.text.specs.Words.{least_from}
use Prim.Native.Nat.{◌-◌}
use mathlib.Core.Path.{◌≡◌}
use Rattle.book_load.proofs.load_lines.Given as goal

abbrev pub invariant-loop-i : goal.invariant-loop-i
invariant-loop-i l = (least_from (bad_line l.text) (l.end - l.i) l.i ≡ least_from (bad_line l.text) (l.end - 2) 2) × (l.image ≡ lines_loaded l.h l.text (l.i - 2) l.initial.image)
