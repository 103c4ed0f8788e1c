-- `run_from` meets its contract: what is made on the records needed is made of the whole tables.
use Rattle.std.proofs.Common.{refl}
use Rattle.order_run.specs.declared.RunState.TheVariants.{Next}
use Rattle.order_entry.proofs.Moves.{of_all_records}
use Rattle.order_entry.proofs.run_from.Goals as goal

pub returns-in-Over : goal.returns-in-Over
returns-in-Over g c = rw c.in-Over.is (refl, refl, refl)

pub returns : goal.returns
returns g c =
    let a = c.args in
    let k = c.records_used-n.result in
    let made = c.make_moves-ended in
    rw c.in-Next.is (
      made.result,
      c.from.ensures,
      of_all_records a.image.now a.order.now (Next c.in-Next.next) a.contents.now a.readers.now a.writers.now a.instructions.now k made.result made.new.contents made.new.readers made.new.writers made.new.instructions made.ensures c.records_used-n.ensures made.auto.contents made.auto.readers made.auto.writers,
    )
