-- `rental_run_log` meets its contract.
use mathlib.Core.Path.{ap, ◌∙◌}
use Rattle.text.specs.Words.{told}
use Rattle.order.specs.Run.{LogAnswer}
use Rattle.order.specs.Call.{log_call}
use Rattle.order.proofs.Numbers.{log_small}
use Rattle.c_api.specs.Packed.{tables_of, tally_words}
use Rattle.c_api.proofs.Unpacked.{back}
use Rattle.engine.specs.Tables.{tables}
use Rattle.c_api.proofs.rental_run_log.Goals as goal

pub returns : goal.returns
returns c =
    let a = c.args in
    let s = c.run_own_list-ended in
    let t = tables a.contents.now a.readers.now a.writers.now in
    let r = back _ (told s.result.answer) (log_call a.book.now a.log.now t a.lent).answer (log_small a.book.now a.log.now t a.lent)
    c.packed.ensures (ap (λ (x : LogAnswer). x.answer) s.ensures.answer) in
    record {
      packed = r.0;
      unpacked = r.1;
      tables = ap tables_of s.ensures.answer;
      tally = c.give_tally.ensures ∙ ap (λ (x : LogAnswer). tally_words x.tally) s.ensures.answer;
    }
