-- `write_line` meets its contract.
use Rattle.text_write.proofs.Bytes.{put_line}
use Rattle.text_write.proofs.write_line.Goals as goal

pub returns : goal.returns
returns c = let a = c.args in rw (c.put.ensures, c.write_field-4.ensures, c.write_field-3.ensures, c.write_field-2.ensures, c.write_field.ensures) (put_line a.at a.l a.out.now)
