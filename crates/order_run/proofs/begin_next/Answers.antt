-- `begin_next` meets its contract.
use Rattle.std.proofs.Common.{arith}
use Rattle.book.proofs.Held.{held_agents_most}
use Rattle.order_run.proofs.Stages.{low, agent_low, begins}
use Rattle.order_run.proofs.begin_next.Goals as goal

pub returns : goal.returns
returns c =
    let a = c.args in
    let bit = c.move_bit-bit in
    let agent = c.agent_of_move-agent in
    let own = c.picks_of_move-own in
    let b = c.begin_with in
    λ g s vs to.
    let few = agent_low a.image.now a.order.now g s a.next a.contents.now a.readers.now vs to in
    begins a.image.now a.order.now g s a.next a.contents.now a.readers.now vs to bit.result agent.result _
    (bit.ensures (low a.image.now a.order.now g s a.next a.contents.now a.readers.now vs to))
    (omega (arith, agent.ensures, few, held_agents_most a.image.now)) own.ensures.2
    b.result b.new.list b.new.readers b.ensures.walk_marked b.ensures.count_value.0 b.ensures.count_value.1
