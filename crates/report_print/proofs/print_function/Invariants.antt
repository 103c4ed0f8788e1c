-- `print_function` meets its contract.
use Prim.Native.Nat.{◌≤◌, ◌-◌, ◌+◌}
use Rattle.book.specs.Image.{program_in}
use Rattle.book.specs.Sum.{Strided}
use Rattle.report.specs.Report.{part_lines}
use Rattle.report_print.proofs.Lines.{Left}
use Rattle.report_print.proofs.print_function.Given as goal

abbrev pub invariant-loop-i : goal.invariant-loop-i
invariant-loop-i l =
    (l.lines ≤ l.n + l.i)
    × (Strided (program_in l.image) → Left l.n (part_lines (program_in l.image) l.contents l.k 0 l.all) l.initial.out l.lines (part_lines (program_in l.image) l.contents l.k l.i (l.all - l.i)) l.out)
