-- `agents` meets its contract.
use mathlib.Core.Path.{sym, ◌∙◌}
use Rattle.book.proofs.Image.{agents_long}
use Rattle.book_image.proofs.Bounds.{min_capped}
use Rattle.book_image.proofs.agents.Goals as goal

pub returns : goal.returns
returns c = c.min.ensures ∙ min_capped _ _ ∙ sym (agents_long c.args.image.now)
