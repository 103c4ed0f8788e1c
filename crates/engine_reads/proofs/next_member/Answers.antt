-- `next_member` meets its contract.
use Rattle.std.proofs.Common.{◌≡◌, sym, ◌∙◌, Bool, true, false, ℕ, ◌-◌, ◌≤◌, ◌<◌, arith}
use mathlib.Core.Logic.{dite}
use native.Mathlib.Decide.{dec_lt}
use borrow.Author.Tests.{eq-eqb, ne_eqb}
use Rattle.engine_reads.specs.Marking.{member, next_passing}
use Rattle.engine_reads.proofs.Members.{next_here, next_pass, next_end}
use Rattle.engine_reads.proofs.next_member.Goals as goal

pub returns-then-fetch-eq2 : goal.returns-then-fetch-eq2
returns-then-fetch-eq2 c =
    let a = c.args in
    let l = c.loop-y in
    let t : ℕ → Bool = member a.contents.now a.first in
    let g : t l.y ≡ true = rw (← c.fetch.ensures) (eq-eqb c.fetch.result 2 (omega (arith, c.if-fetch-eq2.true))) in
    (omega arith, sym (l.invariant ∙ next_here t a.e l.y c.loop-y-test.true g))

pub loop-y-preserved : goal.loop-y-preserved
loop-y-preserved c =
    let a = c.args in
    let l = c.loop-y in
    let t : ℕ → Bool = member a.contents.now a.first in
    let g : t l.y ≡ false = rw (← c.fetch.ensures) (ne_eqb c.fetch.result 2 (λ z. c.if-fetch-eq2.false (omega (arith, z)))) in
    l.invariant ∙ next_pass t a.e l.y c.loop-y-test.true g

pub returns : goal.returns
returns c =
    let a = c.args in
    let l = c.loop-y in
    let t : ℕ → Bool = member a.contents.now a.first in
    let last : (from : ℕ) → a.e ≤ from → next_passing t from (a.e - from) ≡ from = next_end t a.e in (
      omega (arith, c.max.ensures),
      dite (dec_lt a.from a.e)
          (λ (h : a.from < a.e). omega (arith, c.max.ensures, l.invariant, last l.y c.loop-y-test.false))
          (λ (h : ¬ (a.from < a.e)). omega (arith, c.max.ensures, last a.from (omega arith))),
    )
