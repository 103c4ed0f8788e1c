-- `rental_report_input` meets its contract.
use mathlib.Core.Path.{refl, ap, ◌∙◌}
use Rattle.c_api.specs.Packed.{tally_words}
use Rattle.c_api.proofs.rental_report_input.Goals as goal

pub returns : goal.returns
returns c =
    let r = c.report-printed in
    record { shown = record { count = r.ensures.count; tally = refl; bytes = r.ensures.bytes }; tally = c.give_tally.ensures ∙ ap tally_words r.ensures.tally }
