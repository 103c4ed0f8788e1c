-- `book_bytes` meets its contract.
use mathlib.Core.Path.{◌∙◌, refl}
use Rattle.report_print.proofs.Split.{length_no_first, length_no_second, length_unbounded, length_bounded}
use Rattle.report_print.proofs.book_bytes.Goals as goal

pub returns-in_default : goal.returns-in_default
returns-in_default c = length_no_first c.args.input.now _ _ c.parse.ensures refl c.in_default.is

pub returns-in_default-parse : goal.returns-in_default-parse
returns-in_default-parse c = length_no_second c.args.input.now _ _ c.parse.ensures c.parse-2.ensures c.in_default-parse.is

pub returns-then-is_some : goal.returns-then-is_some
returns-then-is_some c = length_unbounded c.args.input.now _ _ c.parse.ensures c.parse-2.ensures _ _ c.in-Some.is c.in-Some-parse.is c.bad_header.result c.bad_header.ensures c.is_some.ensures c.if-is_some.true

pub returns : goal.returns
returns c = c.min.ensures ∙ length_bounded c.args.input.now _ _ c.parse.ensures c.parse-2.ensures _ _ c.in-Some.is c.in-Some-parse.is c.bad_header.result c.bad_header.ensures c.is_some.ensures c.if-is_some.false
