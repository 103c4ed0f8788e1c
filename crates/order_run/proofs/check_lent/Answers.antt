-- `check_lent` meets its contract.
use Rattle.std.proofs.Common.{ap, ◌∙◌}
use Rattle.text.specs.Words.{told}
use Rattle.order_run.proofs.RunTables.{lent_0, lent_1, lent_2, lent_3, lent_all}
use Rattle.order_run.proofs.check_lent.Goals as goal

pub returns-then-lent-locations : goal.returns-then-lent-locations
returns-then-lent-locations c = let a = c.args in ap told c.refused.ensures ∙ lent_0 a.lent a.locations c.if-lent-locations.true

pub returns-then-lent-locations-2 : goal.returns-then-lent-locations-2
returns-then-lent-locations-2 c = let a = c.args in ap told c.refused-then-lent-locations-2.ensures ∙ lent_1 a.lent a.locations c.if-lent-locations.false c.if-lent-locations-2.true

pub returns-then-lent-locations-3 : goal.returns-then-lent-locations-3
returns-then-lent-locations-3 c = let a = c.args in ap told c.refused-then-lent-locations-3.ensures ∙ lent_2 a.lent a.locations c.if-lent-locations.false c.if-lent-locations-2.false c.if-lent-locations-3.true

pub returns-then-lent-lt-MOST_INSTRUCTIONS : goal.returns-then-lent-lt-MOST_INSTRUCTIONS
returns-then-lent-lt-MOST_INSTRUCTIONS c = let a = c.args in ap told c.refused-then-lent-lt-MOST_INSTRUCTIONS.ensures ∙ lent_3 a.lent a.locations c.if-lent-locations.false c.if-lent-locations-2.false c.if-lent-locations-3.false c.if-lent-lt-MOST_INSTRUCTIONS.true

pub returns : goal.returns
returns c = let a = c.args in lent_all a.lent a.locations c.if-lent-locations.false c.if-lent-locations-2.false c.if-lent-locations-3.false c.if-lent-lt-MOST_INSTRUCTIONS.false
