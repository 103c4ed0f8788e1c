-- `next_second` meets its contract.
use Rattle.engine_release.proofs.Arguments.{before_next}
use native.Mathlib.Omega.{arith}
use Rattle.engine_release.proofs.next_second.Goals as goal

pub returns : goal.returns
returns c = let a = c.args in
    let here = c.take_apart-here.ensures.1 in
    let s = c.min-2.ensures in
    (omega (arith, c.requires.1, s), omega (arith, s), λ k h m e. before_next a.f.stride c.requires.0 a.x a.i k h (omega (arith, here, c.if-here-y.false)) (omega (arith, here, s)) e)
