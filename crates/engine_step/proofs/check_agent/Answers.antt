-- `check_agent` meets its contract.
use Rattle.engine_step.proofs.Checks.{agent_there, agent_missing}
use Rattle.book.specs.Image.{low_program}
use native.Mathlib.Omega.{arith}
use mathlib.Core.Path.{ap, ◌∙◌}
use Rattle.text.specs.Words.{told}
use Rattle.book.proofs.Held.{agents_held}
use Rattle.engine_step.proofs.check_agent.Goals as goal

pub returns-then-agent-agents : goal.returns-then-agent-agents
returns-then-agent-agents c = let a = c.args in agent_there (low_program a.image.now) a.agent (omega (arith, c.if-agent-agents.true, (agents_held _ _ c.agents.ensures).0))

pub returns-else-agent-agents : goal.returns-else-agent-agents
returns-else-agent-agents c = let a = c.args in ap told c.refused.ensures ∙ agent_missing (low_program a.image.now) a.agent (omega (arith, c.if-agent-agents.false, (agents_held _ _ c.agents.ensures).0))
