-- `finish_next` meets its contract.
use Rattle.std.proofs.Common.{arith, sym, ap, Err}
use Rattle.std.specs.Prelude.{Result}
use Rattle.text.specs.declared.Reason.{Reason}
use Rattle.text.specs.declared.Refusal.{Refusal}
use Rattle.text.specs.Words.{told}
use Rattle.text.proofs.Checks.{passing, refusing}
use Rattle.engine.specs.Labels.{tallied}
use Rattle.order_run.proofs.Stages.{low, finish_on, finish_off}
use Rattle.order_run.proofs.Reasons.{refused_next, fired_next}
use Rattle.order_run.proofs.finish_next.Goals as goal

pub returns-then-is_err : goal.returns-then-is_err
returns-then-is_err g c =
    let a = c.args in
    let f = c.finish_move-done in
    let b = c.move_bit-bit in
    refused_next {s = a.next} {b = a.begun} f.ensures c.is_err.ensures.value c.if-is_err.true c.run_over.result c.run_over.ensures (λ z r e done is. (
      (λ g s w.
          let l = low a.image.now a.order.now g s a.next w.old.contents w.old.readers w.old.writers w.next in
          finish_off a.image.now a.order.now g s a.next z a.list.now a.contents.now a.readers.now a.writers.now w (tallied r)
          f.new.contents f.new.readers f.new.writers b.result (b.ensures l) (done w.next.before.runs.lawful.strides) (refusing is) (Err e) (sym (ap (λ (x : Result (Unit {0}) (Refusal Reason)). told x) is))),
      omega arith,
    ))

pub returns : goal.returns
returns g c =
    let a = c.args in
    let f = c.finish_move-done in
    let b = c.move_bit-bit in
    let n = c.number_after-after in
    let t = c.add_tallies-tally in
    let k = c.next_move-state in
    fired_next {s = a.next} {b = a.begun} f.ensures c.is_err.ensures.value c.if-is_err.false k.result c.convert_state.result c.convert_state.ensures (omega (arith, k.ensures.result_bound, n.ensures.1)) (λ z r done is same. (
      (λ g s w.
          let l = low a.image.now a.order.now g s a.next w.old.contents w.old.readers w.old.writers w.next in
          finish_on a.image.now a.order.now g s a.next z a.list.now a.contents.now a.readers.now a.writers.now w (tallied r)
          f.new.contents f.new.readers f.new.writers b.result (b.ensures l) (done w.next.before.runs.lawful.strides) (passing is) k.result n.result
          (n.ensures.0 l) t.result (rw (← same) t.ensures.0) (rw (← same) t.ensures.1) (k.ensures.next_move a.image.now s f.new.contents g)),
      omega (arith, k.ensures.result_bound, n.ensures.1),
    ))
