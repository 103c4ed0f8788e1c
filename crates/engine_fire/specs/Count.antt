-- How many instructions a walk gave.
use Rattle.text.specs.declared.Reason.{Reason}
use Rattle.text.specs.Refusals.{refusal_number}
use Rattle.std.specs.Prelude.{ℕ, min, eqb, if◌then◌else◌}
use Rattle.engine.specs.Rule.{most_instructions}
use Rattle.engine_emit.specs.declared.Progress.{Progress}

-- how many instructions a walk gave, by its end; none if it was refused
abbrev pub instructions_given : Progress Reason → ℕ
instructions_given s = if eqb (refusal_number s.refused) 0 then min s.len most_instructions else 0
