-- `pass` meets its contract: what was written into the list is read from it again.
use Rattle.std.proofs.Common.{◌≡◌, ◌∙◌, ap, arith, List, take, length, map}
use Rattle.engine.specs.declared.Record.{Record}
use Rattle.engine_list.specs.Written.{what_of, through}
use Rattle.engine_list.proofs.Laws.{through_back}
use Rattle.engine_list.proofs.pass.Goals as goal

pub returns : goal.returns
returns c =
    let n = c.args.n in
    let xs = c.args.work.now in
    let ys = c.args.list.now in
    let zs = c.write_records.new.list in
    let w = c.write_records.ensures in
    let long : length zs ≡ length ys = c.write_records.auto.list in
    let same : through n zs xs ≡ through n ys xs = omega arith in
    let read = rw same at c.read_records.ensures in
    (w, read ∙ ap (λ (rs : List Record). map what_of (take (through n ys xs) rs)) w ∙ through_back n xs ys)
