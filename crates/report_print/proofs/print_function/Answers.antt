-- `print_function` meets its contract.
use Prim.Native.Nat.{◌-◌, ◌+◌}
use native.Mathlib.Omega.{arith}
use Rattle.book.specs.Image.{program_in}
use Rattle.book.specs.Book.{function_at}
use Rattle.report.specs.Report.{part_lines}
use Rattle.report_print.specs.Print.{location_lines}
use Rattle.report_print.proofs.Lines.{left_step, left_none, shown_most, size_few, size_same, part_next, part_end}
use Rattle.report_print.proofs.print_function.Goals as goal

pub print_location-lines-requires : goal.print_location-lines-requires
print_location-lines-requires c = let f = size_few c.args.image.now c.elements.result c.function_at-f.result.arity c.size-all.result c.elements.ensures c.size-all.ensures in omega (arith, f, c.loop-i.invariant.0, c.loop-i-test.true, c.requires)

pub loop-i-preserved : goal.loop-i-preserved
loop-i-preserved c = let a = c.args in let l = c.loop-i in let B = program_in a.image.now in let n = c.size-all.result in let f = c.function_at-f.result in let v = c.fetch-v.result in let s = size_same c.elements.result B.E f (function_at B a.k) n c.size-all.ensures c.elements.ensures c.function_at-f.ensures in let o = c.print_location-lines in (omega (arith, shown_most f a.k l.i v, o.ensures.0, l.invariant.0), λ strided. left_step a.n (part_lines B a.contents.now a.k 0 n) a.out.now l.lines o.result (part_lines B a.contents.now a.k l.i (n - l.i)) (location_lines f a.k l.i v) (part_lines B a.contents.now a.k (l.i + 1) (n - (l.i + 1))) l.out o.new.out (part_next B a.contents.now strided a.k n l.i f v c.loop-i-test.true s c.function_at-f.ensures c.fetch-v.ensures) (l.invariant.1 strided) o.ensures.0 o.ensures.1)

pub returns : goal.returns
returns c = let a = c.args in let l = c.loop-i in let B = program_in a.image.now in let n = c.size-all.result in let f = size_few a.image.now c.elements.result c.function_at-f.result.arity n c.elements.ensures c.size-all.ensures in let s = size_same c.elements.result B.E c.function_at-f.result (function_at B a.k) n c.size-all.ensures c.elements.ensures c.function_at-f.ensures in (λ strided. let x = left_none a.n (part_lines B a.contents.now a.k 0 n) a.out.now l.lines (part_lines B a.contents.now a.k l.i (n - l.i)) l.out (part_end B a.contents.now a.k n l.i c.loop-i-test.false) (l.invariant.1 strided) in (rw (← s) x.0, rw (← s) x.1), omega (arith, f, l.invariant.0))
