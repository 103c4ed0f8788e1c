-- The move of a call, from what becomes of it on the first records of the table.
use mathlib.Core.Path.{◌≡◌, ◌∙◌}
use mathlib.Core.List.{List, ◌++◌}
use Prim.Native.Nat.{ℕ, ◌≤◌}
use lib.ListN.{length, take, drop, take-append-drop}
use lib.Seq.{length-take-le}
use Rattle.text.specs.Words.{Answer}
use Rattle.book.specs.Book.{Program, L}
use Rattle.engine.specs.declared.Instruction.{Instruction}
use Rattle.engine.specs.Move.{Input, Moved, fires, move_refused, walked, made_by, move}
use Rattle.engine.specs.Single.{stepped, step_move}
use Rattle.engine.proofs.Moves.{fire_length}
use Rattle.engine_fire.specs.Outcome.{contents_after}
use Rattle.engine_fire.specs.Effect.{move_answer}

-- the contents d are those that the move leaves on the first records, with the rest of the table
pub moved_step : (B : Program) (c : List ℕ) (k : Input) → L B ≤ length c → (r : Answer) (d : List ℕ)
    → r ≡ move_answer 0 (move B (take (L B) c) k)
    → d ≡ contents_after (take (L B) c) (move B (take (L B) c) k) ++ drop (L B) c
    → (r ≡ (step_move B c k).answer) × (d ≡ (step_move B c k).contents)
moved_step B c k h r d = go (made_by (walked B (take (L B) c) k)) (move B (take (L B) c) k)
  where
    go : (is : List Instruction) (o : Moved) → r ≡ move_answer 0 o → d ≡ contents_after (take (L B) c) o ++ drop (L B) c
        → (r ≡ (stepped c (take (L B) c) is o).answer) × (d ≡ (stepped c (take (L B) c) is o).contents)
    go is (fires f) a t = (a, t ∙ rw (fire_length f.updates (take (L B) c), length-take-le (L B) c h))
    go is (move_refused m x) a t = (a, t ∙ take-append-drop (L B) c)
