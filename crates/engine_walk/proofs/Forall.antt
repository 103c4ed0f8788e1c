-- Laws of a forall: its body runs for each member in turn.
use Rattle.text.specs.declared.Reason.{Reason}
use Rattle.text.specs.Refusals.{refusal_number}
use mathlib.Core.Path.{◌≡◌, refl}
use mathlib.Core.List.{List, [], ◌∷◌}
use Prim.Native.Nat.{ℕ, ◌+◌, ◌-◌, ◌≤◌, ◌<◌}
use native.Mathlib.Omega.{arith}
use lib.ListN.{set}
use borrow.Author.Tests.{lt-ltb, le-ltb}
use Rattle.book.specs.Book.{Program}
use Rattle.engine.specs.Reader.{Reader, done, value_in, locations_read, ◌>>=◌}
use Rattle.engine.specs.Rule.{Rule, for_all, Walk, Walked, walking, refused_at, after, members, each, walk}
use Rattle.engine.specs.Move.{dynamic_among}
use Rattle.engine_term.specs.Marks.{marked, Placed, Runs}
use Rattle.engine_term.proofs.Marking.{runs_done, runs_bind}
use Rattle.engine_emit.specs.declared.Progress.{Progress}
use Rattle.engine_emit.specs.Emit.{walk_from, reached}
use Rattle.engine_reads.specs.Marking.{members_from, first_and_rest}
use Rattle.engine_walk.proofs.Steps.{runs_from}

module _ (B : Program) (c : List ℕ) (bit u : ℕ) (f : ℕ → Walk → Reader Walked) where
  -- the members that are left may be given as an equal list
  pub sweep_as : (xs ys : List ℕ) (o z : Walked) (m n : List ℕ) → xs ≡ ys → Runs B c bit (after o (each f ys)) z m n → Runs B c bit (after o (each f xs)) z m n
  sweep_as xs ys o z m n e h = rw e h

  sweep_all : (o z : Walked) (m n : List ℕ) → Runs B c bit (after o (each f (members_from B c u 0))) z m n → Runs B c bit (after o (each f (value_in c (members B u 0 B.E)))) z m n
  sweep_all o z m n h = let e : B.E - 0 ≡ B.E = omega arith in rw e at h

  one_more : (y : ℕ) (ys : List ℕ) (o p z : Walked) (l m n : List ℕ) → Runs B c bit (after o (f y)) p l m → Runs B c bit (after p (each f ys)) z m n
      → Runs B c bit (after o (each f (y ∷ ys))) z l n
  unfolding each ◌>>=◌
  one_more y ys (walking w) p z l m n h i = runs_bind B c bit (f y w) (λ o. after o (each f ys)) p z l m n h i
  one_more y ys (refused_at a q) p z l m n h i = runs_bind B c bit (done (refused_at a q)) (λ o. after o (each f ys)) p z l m n h i

  pub sweep_more : (y : ℕ) (o p z : Walked) (l m n : List ℕ) → y < B.E → Runs B c bit (after o (f y)) p l m
      → Runs B c bit (after p (each f (members_from B c u (y + 1)))) z m n → Runs B c bit (after o (each f (first_and_rest B c u y))) z l n
  sweep_more y o p z l m n h r t = rw (lt-ltb y B.E h) (one_more y (members_from B c u (y + 1)) o p z l m n r t)

  none : (o : Walked) (m : List ℕ) → Runs B c bit (after o (each f [])) o m m
  unfolding each
  none (walking w) m = runs_done B c bit (walking w) m
  none (refused_at r n) m = runs_done B c bit (refused_at r n) m

  pub sweep_end : (y : ℕ) (o : Walked) (m : List ℕ) → B.E ≤ y → Runs B c bit (after o (each f (first_and_rest B c u y))) o m m
  sweep_end y o m h = rw (le-ltb y B.E h) (none o m)

-- a forall whose universe is marked, from its members on
module _ (B : Program) (c : List ℕ) (bit me : ℕ) (vs : List ℕ) (a u : ℕ) (r : Rule) where
  abbrev body : ℕ → Walk → Reader Walked
  body y = walk B me r (set vs a y)

  pub runs_for_all : (ys : List ℕ) (s : Progress Reason) (l : List ℕ) (z : Walked) (j m n : List ℕ) → (refusal_number s.refused) ≡ 0
      → (Placed B → m ≡ marked bit (dynamic_among B (locations_read c (members B u 0 B.E))) j)
      → Runs B c bit (after (reached ys s l) (each body (members_from B c u 0))) z m n
      → Runs B c bit (walk B me (for_all a u r) vs (walk_from ys s l)) z j n
  unfolding walk
  runs_for_all ys s l z j m n h e k =
      let xs = value_in c (members B u 0 B.E) in
      runs_bind B c bit (members B u 0 B.E) (λ es. each body es (walk_from ys s l)) xs z j m n (record { value = λ p. refl; marks = e })
      (runs_from B c bit (each body xs) ys s l h z m n (sweep_all B c bit u body (reached ys s l) z m n k))
