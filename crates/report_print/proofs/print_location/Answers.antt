-- `print_location` meets its contract.
use mathlib.Core.Path.{sym, ◌∙◌}
use Rattle.report_print.specs.Print.{line_for, location_lines}
use Rattle.report_print.proofs.Lines.{shown_none, shown_one, put_nothing, put_single}
use Rattle.report_print.proofs.print_location.Goals as goal

pub returns-then-v-default_of : goal.returns-then-v-default_of
returns-then-v-default_of c = let a = c.args in put_nothing a.n (location_lines a.f a.k a.i a.v) a.out.now (shown_none a.f a.k a.i a.v (c.if-v-default_of.true ∙ c.default_of.ensures))

pub returns : goal.returns
returns c = let a = c.args in let s = shown_one a.f a.k a.i a.v (λ q. c.if-v-default_of.false (q ∙ sym c.default_of.ensures)) in let p = put_single a.n (location_lines a.f a.k a.i a.v) (line_for a.f a.k a.i a.v) a.out.now s in (p.0, rw (c.write_line.ensures, c.line_of-l.ensures) p.1)
