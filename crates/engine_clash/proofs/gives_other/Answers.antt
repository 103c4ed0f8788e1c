-- `gives_other` meets its contract.
use Rattle.engine_clash.specs.LeastClash.{values_given}
use Rattle.engine.specs.Move.{other}
use mathlib.Core.Bool.{or-false}
use borrow.Author.Tests.{eq-eqb, ne_eqb}
use Rattle.engine_clash.proofs.gives_other.Goals as goal

pub returns-then-location-s : goal.returns-then-location-s
unfolding other values_given
returns-then-location-s c = rw (c.in-Update.is, eq-eqb _ _ c.if-location-s.true, or-false)

pub returns-then-label-s : goal.returns-then-label-s
unfolding other values_given
returns-then-label-s c = rw (c.in-Release.is, eq-eqb _ _ c.if-label-s.true, or-false)

pub returns-then-clears : goal.returns-then-clears
unfolding other values_given
returns-then-clears c = rw (c.in-Release.is, ne_eqb _ _ c.if-label-s.false, ← c.clears.ensures, c.if-clears.true, ← c.default_of.ensures, or-false)

pub returns-else-location-s : goal.returns-else-location-s
unfolding other values_given
returns-else-location-s c = rw (c.in-Update.is, ne_eqb _ _ c.if-location-s.false)

pub returns-else-clears : goal.returns-else-clears
unfolding other values_given
returns-else-clears c = rw (c.in-Release.is, ne_eqb _ _ c.if-label-s.false, ← c.clears.ensures, c.if-clears.false)
