-- `give_all` meets its contract.
use Rattle.std.proofs.Common.{◌≡◌, ◌∙◌, ◌+◌, ◌-◌, ◌<◌, length, arith}
use Rattle.book.specs.Image.{program_in}
use Rattle.book_scopes.specs.Tables.{to_ab, to_c}
use Rattle.book_scopes.proofs.Tables.{all_given_step, all_given_none}
use Rattle.book_scopes.proofs.give_all.Goals as goal

pub loop-m-init : goal.loop-m-init
loop-m-init c = rw c.nodes-n.ensures (all_given_none (program_in c.args.image.now) to_ab to_c c.args.s.now)

pub loop-m-preserved : goal.loop-m-preserved
loop-m-preserved c =
    let a = c.args in
    let l = c.loop-m in
    let B = program_in a.image.now in
    let more : l.m - 1 < length B.nodes = omega (arith, c.loop-m-test.true, l.auto.m, c.nodes-n.ensures) in
    let e : l.m - 1 + 1 ≡ l.m = omega (arith, c.loop-m-test.true) in
    rw (all_given_step B to_ab to_c a.s.now (l.m - 1) more, e, ← l.invariant)
    (c.give_operands.ensures ∙ rw (c.in_binder-w.ensures, c.in_forall.ensures, c.scope_below-v.ensures, c.fetch.ensures, c.node_at-y.ensures))
