-- `permanent` meets its contract.
use mathlib.Core.Path.{sym, ◌∙◌}
use Rattle.book.proofs.Held.{held_permanent}
use Rattle.book_parts.proofs.permanent.Goals as goal

pub returns : goal.returns
returns c = c.low.ensures ∙ rw c.permanent.ensures (sym (held_permanent c.args.image.now))
