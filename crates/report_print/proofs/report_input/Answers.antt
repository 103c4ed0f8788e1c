-- `report_input` meets its contract.
use mathlib.Core.Path.{sym}
use native.Mathlib.Omega.{arith}
use lib.Seq.{length-take-le}
use Rattle.report_print.proofs.Printed.{book_within, long_shown, split_shown}
use Rattle.report_print.proofs.report_input.Goals as goal

pub returns-then-input-gt-MOST_INPUT : goal.returns-then-input-gt-MOST_INPUT
returns-then-input-gt-MOST_INPUT c =
    let a = c.args in
    let p = c.print_refusal in
    long_shown a.input.now (omega (arith, c.if-input-gt-MOST_INPUT.true)) a.output.now p.result p.new.output (rw (← c.no_labels.ensures) p.ensures)

pub slice_bounds-report_parts-end : goal.slice_bounds-report_parts-end
slice_bounds-report_parts-end c = sym (length-take-le c.book_bytes-n.result c.args.input.now (rw c.book_bytes-n.ensures (book_within c.args.input.now)))

pub slice_bounds-report_parts-count : goal.slice_bounds-report_parts-count
slice_bounds-report_parts-count c = rw c.book_bytes-n.ensures (book_within c.args.input.now)

pub slice_bounds-report_parts-start : goal.slice_bounds-report_parts-start
slice_bounds-report_parts-start c = rw c.book_bytes-n.ensures (book_within c.args.input.now)

pub returns : goal.returns
returns c = let a = c.args in let p = c.report_parts in split_shown a.input.now c.book_bytes-n.result c.book_bytes-n.ensures (omega arith) a.output.now p.result p.new.output p.ensures
