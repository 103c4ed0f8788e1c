-- `fits` meets its contract: what fits a sort is what the definition says of that sort alone.
use mathlib.Core.Bool.{or-false}
use Rattle.book.specs.Lines.{fits}
use Rattle.book_nodes.proofs.fits.Goals as goal

pub returns-in-Unused : goal.returns-in-Unused
unfolding fits
returns-in-Unused c = rw (c.in-Unused.is) (simp or-false)

pub returns-in-Term : goal.returns-in-Term
unfolding fits
returns-in-Term c = rw (c.in-Term.is, c.is_term.ensures, c.node_at.ensures) (simp or-false)

pub returns-in-Rule : goal.returns-in-Rule
unfolding fits
returns-in-Rule c = rw (c.in-Rule.is, c.is_rule.ensures, c.node_at-in-Rule.ensures) (simp or-false)
