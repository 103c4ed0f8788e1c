-- `bad_agent` meets its contract.
use Rattle.book.specs.Lines.{bad_agent}
use Rattle.book_nodes.proofs.bad_agent.Goals as goal

pub returns : goal.returns
unfolding bad_agent
returns c = rw (c.is_rule.ensures, c.agent_at-last.ensures, c.saturating_sub.ensures, c.node_at-root.ensures, c.permanent-p.ensures, c.nodes-n.ensures)
