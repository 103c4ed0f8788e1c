-- `write_entry` meets its contract.
use mathlib.Core.Path.{◌∙◌}
use Rattle.book.proofs.Held.{function_held}
use Rattle.contents_start.proofs.write_entry.Goals as goal

pub returns : goal.returns
returns c =
    c.store_in_part.ensures
    ∙ rw (
      c.location-place.ensures,
      c.part_from-own.ensures,
      function_held _ _ _ c.function_at-g.ensures,
      c.low.ensures,
      c.low-y.ensures,
      c.low-x.ensures,
      c.low-f.ensures,
    )
