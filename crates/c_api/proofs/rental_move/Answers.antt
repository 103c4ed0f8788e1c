-- `rental_move` meets its contract.
use Rattle.text.specs.Words.{told}
use Rattle.engine.specs.Move.{input}
use Rattle.engine.specs.Single.{step_call}
use Rattle.engine.proofs.Refusals.{step_small}
use Rattle.c_api.proofs.Unpacked.{back}
use Rattle.c_api.proofs.rental_move.Goals as goal

pub returns : goal.returns
returns c =
    let a = c.args in
    let s = c.step_own_list in
    let r = back _ (told s.result) (step_call a.book.now a.contents.now (input a.agent a.picks.now) a.lent).answer
    (step_small a.book.now a.contents.now (input a.agent a.picks.now) a.lent) c.packed.ensures s.ensures.answer in
    record { packed = r.0; unpacked = r.1; contents = s.ensures.contents }
