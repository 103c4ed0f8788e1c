-- `emit_import` meets its contract.
use Rattle.engine_emit.proofs.Stepped.{stepped_twice, enrolled}
use Rattle.engine_emit.proofs.emit_import.Goals as goal

pub returns : goal.returns
returns g c =
    let a = c.args in
    λ ys. enrolled a.at a.x a.n (stepped_twice (c.emit-t.ensures ys) (c.emit.ensures ys))
