-- `print_contents` meets its contract.
use Prim.Native.Nat.{◌≤◌, ◌-◌, ◌*◌}
use Rattle.book.specs.Image.{program_in}
use Rattle.book.specs.Sum.{Strided}
use Rattle.report.specs.Report.{lines_from}
use Rattle.report_print.proofs.Lines.{Left}
use Rattle.report_print.proofs.print_contents.Given as goal

abbrev pub invariant-loop-k : goal.invariant-loop-k
invariant-loop-k l =
    (l.lines ≤ l.k * 100000000)
    × (Strided (program_in l.image) → Left 0 (lines_from (program_in l.image) l.contents 0 l.all) l.initial.out l.lines (lines_from (program_in l.image) l.contents l.k (l.all - l.k)) l.out)
