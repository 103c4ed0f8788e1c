-- `instructions_given` meets its contract.
use Rattle.text.proofs.Checks.{some_numbered, unrefused}
use native.Mathlib.Omega.{arith}
use Rattle.engine_fire.proofs.Count.{given_none, given_some}
use Rattle.engine_fire.proofs.instructions_given.Goals as goal

pub returns-then-is_some : goal.returns-then-is_some
returns-then-is_some c = given_none c.args.s (some_numbered _ c.is_some.ensures c.if-is_some.true)

pub returns : goal.returns
returns c = let a = c.args in given_some a.s c.min.result (unrefused _ c.is_some.ensures c.if-is_some.false) (omega (arith, c.min.ensures, c.requires))
