-- `write_field` meets its contract.
use Rattle.text.specs.Text.{column_byte}
use Rattle.text_write.proofs.Bytes.{put_six}
use Rattle.text_write.proofs.write_field.Goals as goal

pub returns : goal.returns
returns c = let a = c.args in rw (c.put-6.ensures, c.column-6.ensures, c.put-5.ensures, c.column-5.ensures, c.put-4.ensures, c.column-4.ensures, c.put-3.ensures, c.column-3.ensures, c.put-2.ensures, c.column-2.ensures, c.put.ensures, c.column.ensures) (put_six a.at a.k (column_byte a.n 5) (column_byte a.n 4) (column_byte a.n 3) (column_byte a.n 2) (column_byte a.n 1) (column_byte a.n 0) a.out.now)
