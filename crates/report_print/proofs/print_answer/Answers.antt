-- `print_answer` meets its contract.
use Rattle.std.proofs.Common.{◌∙◌, ap, arith}
use Rattle.text.specs.declared.Line.{Line}
use Rattle.text.specs.Text.{written}
use Rattle.text_write.specs.Bytes.{put_bytes}
use Rattle.book.specs.Image.{program_in}
use Rattle.report_print.specs.Print.{triple_of}
use Rattle.report_print.proofs.Lines.{prints_accepted, prints_refused}
use Rattle.report_print.proofs.print_answer.Goals as goal

pub returns-then-refused : goal.returns-then-refused
returns-then-refused c =
    λ strided.
    let a = c.args in
    let w = c.write_line in
    prints_refused (program_in a.image.now) (triple_of a.answer) a.contents.now a.out.now w.new.out (λ z. omega (arith, c.if-refused.true, z))
    (w.ensures ∙ ap (λ (l : Line). put_bytes 0 (written l) a.out.now) c.first_line.ensures)

pub returns : goal.returns
returns c =
    λ strided.
    let a = c.args in
    let p = c.print_contents-n in
    let w = c.write_line-2 in
    prints_accepted (program_in a.image.now) (triple_of a.answer) a.contents.now a.out.now p.new.out w.new.out p.result (omega (arith, c.if-refused.false))
    (p.ensures strided).0 (p.ensures strided).1 (w.ensures ∙ ap (λ (l : Line). put_bytes 0 (written l) p.new.out) c.first_line-2.ensures)
