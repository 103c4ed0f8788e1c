-- `print_contents` meets its contract.
use mathlib.Core.Path.{◌∙◌}
use Prim.Native.Nat.{◌-◌, ◌+◌}
use lib.ListN.{length}
use native.Mathlib.Nat.{zero-add}
use native.Mathlib.Omega.{arith}
use Rattle.book.proofs.Image.{functions_most}
use Rattle.book.specs.Image.{program_in}
use Rattle.book.specs.Book.{size, function_at}
use Rattle.report.specs.Report.{part_lines, lines_from}
use Rattle.report_print.proofs.Lines.{left_step, left_none, lines_step, lines_end}
use Rattle.report_print.proofs.print_contents.Goals as goal

pub print_function-lines-requires : goal.print_function-lines-requires
print_function-lines-requires c = omega (arith, c.loop-k.invariant.0, c.loop-k-test.true, c.functions-all.ensures, functions_most c.args.image.now)

pub loop-k-preserved : goal.loop-k-preserved
loop-k-preserved c = let a = c.args in let l = c.loop-k in let B = program_in a.image.now in let n = c.functions-all.result in let o = c.print_function-lines in (omega (arith, o.ensures.1, l.invariant.0), λ strided. left_step 0 (lines_from B a.contents.now 0 n) a.out.now l.lines o.result (lines_from B a.contents.now l.k (n - l.k)) (part_lines B a.contents.now l.k 0 (size B.E (function_at B l.k).arity)) (lines_from B a.contents.now (l.k + 1) (n - (l.k + 1))) l.out o.new.out (lines_step B a.contents.now n l.k c.loop-k-test.true) (l.invariant.1 strided) (o.ensures.0 strided).0 (o.ensures.0 strided).1)

pub returns : goal.returns
returns c = λ strided. let a = c.args in let l = c.loop-k in let B = program_in a.image.now in let n = c.functions-all.result in let x = left_none 0 (lines_from B a.contents.now 0 n) a.out.now l.lines (lines_from B a.contents.now l.k (n - l.k)) l.out (lines_end B a.contents.now n l.k c.loop-k-test.false) (l.invariant.1 strided) in (rw (← c.functions-all.ensures) (x.0 ∙ zero-add (length (lines_from B a.contents.now 0 n))), rw (← c.functions-all.ensures) x.1)
