-- `give_tally` meets its contract.
-- both numbers of a list of two are set
use mathlib.Core.Path.{◌≡◌, refl}
use mathlib.Core.List.{List, [], ◌∷◌}
use Prim.Native.Nat.{ℕ}
use native.Mathlib.Omega.{arith}
use lib.ListN.{length, set}
use borrow.Author.Rules.{rules}
use Rattle.c_api.proofs.give_tally.Goals as goal

pub bounds-tally-0 : goal.bounds-tally-0
bounds-tally-0 c = omega (arith, c.requires)

pub bounds-tally-1 : goal.bounds-tally-1
bounds-tally-1 c = search (rules, c.requires)

both_set : (s : List ℕ) (a b : ℕ) → length s ≡ 2 → set (set s 0 a) 1 b ≡ a ∷ b ∷ []
both_set [] a b e = absurd (omega (arith, e))
both_set (x ∷ []) a b e = absurd (omega (arith, e))
both_set (x ∷ y ∷ []) a b e = refl
both_set (x ∷ y ∷ z ∷ s) a b e = absurd (omega (arith, e))

pub returns : goal.returns
returns c = both_set c.args.tally.now c.args.t.issued c.args.t.returned c.requires
