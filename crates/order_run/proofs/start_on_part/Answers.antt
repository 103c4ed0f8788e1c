-- `start_on_part` meets its contract.
use Rattle.std.proofs.Common.{ap, ◌∙◌}
use Rattle.book.specs.Book.{L, start}
use Rattle.order_run.proofs.RunTables.{only_start}
use Rattle.order_run.proofs.Stages.{starts_run, from_none}
use Rattle.order_run.proofs.start_on_part.Goals as goal

pub returns : goal.returns
returns c =
    let a = c.args in
    let e = c.start_tables in
    let w = c.next_move in
    let k = c.no_labels in
    λ b g s.
    from_none a.image.now a.order.now b g a.moves w.result e.new.contents e.new.readers e.new.writers
    (w.ensures.next_move a.image.now (start b) e.new.contents g s.moves
    (rw k.ensures (starts_run a.book.now a.image.now a.order.now b g a.moves a.contents.now a.readers.now a.writers.now s e.new.contents e.new.readers e.new.writers
    (e.ensures.contents_after ∙ only_start a.book.now b s.book a.image.now a.contents.now s.program s.entries s.image (s.contents ∙ ap L s.image)) e.ensures.readers_after.0 e.ensures.readers_after.1)))
