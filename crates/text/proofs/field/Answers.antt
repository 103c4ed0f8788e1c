-- `field` meets its contract.
use Rattle.text.proofs.Fields.{four_before, three_before}
use Rattle.text.proofs.field.Goals as goal

pub returns-then-blanks : goal.returns-then-blanks
returns-then-blanks c = let a = c.args in four_before a.text.now a.at c.requires.0 _ (c.blanks.ensures c.if-blanks.true) c.last_two.ensures

pub returns-then-three_blank : goal.returns-then-three_blank
returns-then-three_blank c = let a = c.args in three_before a.text.now a.at c.requires.0 _ (c.three_blank.ensures c.if-three_blank.true) c.last_three.ensures
