-- `fill_function` meets its contract.
use Rattle.contents_start.proofs.Defaults.{run_is}
use Rattle.contents_start.proofs.fill_function.Goals as goal

pub returns : goal.returns
returns c =
    let a = c.args in
    run_is a.first a.end a.v c.min-a.result c.min-b.result a.contents.now _ c.requires c.min-a.ensures c.min-b.ensures (c.fill.ensures.after (λ y e. e))
