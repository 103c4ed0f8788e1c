-- `rental_check_book` meets its contract.
use Rattle.text.specs.Words.{told}
use Rattle.c_api.proofs.Unpacked.{back_check}
use Rattle.c_api.proofs.rental_check_book.Goals as goal

pub returns : goal.returns
returns c =
    let s = c.check_book in
    let r = back_check _ (told s.result) c.args.book.now c.packed_check.ensures s.ensures in
    record { packed = r.0; unpacked = r.1 }
