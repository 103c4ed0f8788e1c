-- `print_refusal` meets its contract.
use Rattle.std.proofs.Common.{◌∙◌, ap}
use Rattle.text.specs.declared.Line.{Line}
use Rattle.text.specs.Text.{written}
use Rattle.text.specs.Words.{Answer, told_refused}
use Rattle.report.specs.Report.{first_line}
use Rattle.text_write.specs.Bytes.{put_bytes}
use Rattle.report_print.proofs.Printed.{refusal_shown}
use Rattle.report_print.proofs.print_refusal.Goals as goal

pub returns : goal.returns
returns c =
    let a = c.args in
    refusal_shown (told_refused a.refusal) a.tally a.output.now c.write_line.new.out
    (c.write_line.ensures ∙ ap (λ (l : Line). put_bytes 0 (written l) a.output.now) (c.first_line.ensures ∙ ap (λ (x : Answer). first_line x 0) c.from.ensures)) c.requires
