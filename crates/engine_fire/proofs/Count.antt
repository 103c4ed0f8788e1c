-- How many instructions a walk gave, and what the list of them holds.
use Rattle.text.specs.declared.Reason.{Reason}
use Rattle.text.specs.Refusals.{refusal_number}
use mathlib.Core.Path.{◌≡◌, sym, ap, ◌∙◌}
use mathlib.Core.Logic.{◌≢◌, dite}
use mathlib.Core.List.{List, []}
use Prim.Native.Nat.{ℕ, ◌≤◌, min}
use native.Mathlib.Decide.{ℕ_discrete}
use native.Mathlib.Omega.{arith}
use lib.ListN.{length}
use borrow.Author.Tests.{eq-eqb, ne_eqb}
use Rattle.engine.specs.declared.Instruction.{Instruction}
use Rattle.engine.specs.Rule.{walking}
use Rattle.engine.specs.Move.{made_by}
use Rattle.engine_instruction.specs.Code.{items}
use Rattle.engine_instruction.proofs.Lists.{clipped}
use Rattle.engine_emit.specs.declared.Progress.{Progress}
use Rattle.engine_walk.specs.Walk.{outcome}
use Rattle.engine_emit.proofs.Steps.{reached_walking, reached_refused}
use Rattle.engine_fire.specs.Count.{instructions_given}

pub given_none : (s : Progress Reason) → (refusal_number s.refused) ≢ 0 → 0 ≡ instructions_given s
given_none s h = rw (ne_eqb (refusal_number s.refused) 0 h)

pub given_some : (s : Progress Reason) (n : ℕ) → (refusal_number s.refused) ≡ 0 → n ≡ min s.len 256 → n ≡ instructions_given s
given_some s n h e = rw (eq-eqb (refusal_number s.refused) 0 h) e

pub given_few : (s : Progress Reason) → instructions_given s ≤ 256
given_few s = dite (ℕ_discrete (refusal_number s.refused) 0)
    (λ (h : (refusal_number s.refused) ≡ 0). rw (eq-eqb (refusal_number s.refused) 0 h) (omega arith))
    (λ (h : (refusal_number s.refused) ≢ 0). rw (ne_eqb (refusal_number s.refused) 0 h) (omega arith))

-- the list holds the instructions that the walk gave
pub made_of : (s : Progress Reason) (l : List ℕ) → length l ≡ 256 → items l (instructions_given s) ≡ made_by (outcome s l)
made_of s l e = dite (ℕ_discrete (refusal_number s.refused) 0)
    (λ (h : (refusal_number s.refused) ≡ 0). rw (reached_walking [] s l h, eq-eqb (refusal_number s.refused) 0 h) (clipped l s.len (min s.len 256) (omega arith)))
    (λ (h : (refusal_number s.refused) ≢ 0). rw (reached_refused [] s l h, ne_eqb (refusal_number s.refused) 0 h))

-- another list that holds the same instructions has the same outcome
pub same_outcome : (s : Progress Reason) (l l' : List ℕ) → length l ≡ 256 → length l' ≡ 256 → items l' (instructions_given s) ≡ items l (instructions_given s) → outcome s l' ≡ outcome s l
same_outcome s l l' e e' q = dite (ℕ_discrete (refusal_number s.refused) 0)
    (λ (h : (refusal_number s.refused) ≡ 0).
    let i : items l' s.len ≡ items l s.len =
    sym (clipped l' s.len (min s.len 256) (omega arith)) ∙ (rw (eq-eqb (refusal_number s.refused) 0 h) at q) ∙ clipped l s.len (min s.len 256) (omega arith) in
    reached_walking [] s l' h ∙ ap (λ (is : List Instruction). walking (record { made = is; next = s.label; left = [] })) i ∙ sym (reached_walking [] s l h))
    (λ (h : (refusal_number s.refused) ≢ 0). reached_refused [] s l' h ∙ sym (reached_refused [] s l h))
