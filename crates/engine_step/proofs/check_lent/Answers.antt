-- `check_lent` meets its contract.
use Rattle.engine_step.proofs.Checks.{refusal_at, contents_short, list_short, both_lent}
use Rattle.book.specs.Image.{word}
use native.Mathlib.Omega.{arith}
use Prim.Native.Nat.{ℕ}
use Rattle.text.specs.Words.{told}
use mathlib.Core.Path.{◌∙◌, ap}
use Rattle.engine_step.proofs.check_lent.Goals as goal

pub returns-then-contents-locations : goal.returns-then-contents-locations
returns-then-contents-locations c = let a = c.args in let t = c.locations-locations.ensures in ap told c.refused.ensures ∙ ap (λ (x : ℕ). refusal_at 2 x 0) t ∙ contents_short (word a.image.now 6) a.contents.now a.lent (omega (arith, c.if-contents-locations.true, t))

pub returns-then-lent-lt-MOST_INSTRUCTIONS : goal.returns-then-lent-lt-MOST_INSTRUCTIONS
returns-then-lent-lt-MOST_INSTRUCTIONS c = let a = c.args in let t = c.locations-locations.ensures in ap told c.refused-then-lent-lt-MOST_INSTRUCTIONS.ensures ∙ list_short (word a.image.now 6) a.contents.now a.lent (omega (arith, c.if-contents-locations.false, t)) (omega (arith, c.if-lent-lt-MOST_INSTRUCTIONS.true))

pub returns : goal.returns
returns c = let a = c.args in let t = c.locations-locations.ensures in both_lent (word a.image.now 6) a.contents.now a.lent (omega (arith, c.if-contents-locations.false, t)) (omega (arith, c.if-lent-lt-MOST_INSTRUCTIONS.false))
