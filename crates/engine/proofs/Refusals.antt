-- The answer of a single-move call fits one number, for all inputs: its number is at most 19, its p and its q are below 2^24.
use Rattle.std.specs.Prelude.{Option, None, Some}
use mathlib.Core.Path.{◌≡◌, refl}
use mathlib.Core.List.{List}
use Prim.Native.Nat.{ℕ, ◌^◌, ◌<◌}
use native.Mathlib.Omega.{arith}
use lib.ListN.{length, take}
use Rattle.text.specs.Words.{least, Checked, good, refused}
use Rattle.text.proofs.Checks.{Ends, on, off, Any, bind_ends, then_ends, none_ends, must_ends, Before, Small}
use Rattle.book.specs.Book.{Program, L}
use Rattle.book.proofs.Refusals.{Fits, book_before}
use Rattle.engine.specs.declared.Instruction.{Instruction}
use Rattle.engine.specs.Move.{Input, Moved, fires, move_refused, walked, made_by, move}
use Rattle.engine.specs.Claims.{Inside}
use Rattle.engine.specs.Single.{pick_place, no_pick_at, check_picks, check_agent, check_lent_step, check_contents, check_step, stepped, step_answer, step_call}
use Rattle.engine.proofs.Numbers.{move_number}

pub picks_end : (B : Program) (ys : List ℕ) → Ends Any Before (check_picks B ys)
unfolding check_picks
picks_end B ys = go (least _ (length ys))
  where
    go : (o : Option ℕ) → Ends Any Before (no_pick_at o)
    go None = on tt
    go (Some j) = off {n = 9} {p = pick_place j} {q = 0} (omega arith, omega arith, omega arith, omega arith)

step_ends : (text c : List ℕ) (i : Input) (n : ℕ) → Ends Fits Before (check_step text c i n)
unfolding check_step check_agent check_lent_step check_contents
step_ends text c i n =
    bind_ends (book_before text)
    (λ b fits. let B = b.program in then_ends (must_ends Before _ 9 0 0 (omega arith)) (then_ends (picks_end B i.picks)
    (then_ends (then_ends (must_ends Before _ 2 (L B) 0 (omega arith)) (must_ends Before _ 2 256 3 (omega arith)))
    (then_ends (none_ends Before 8 0 0 _ (L B) (λ p h. omega arith)) (on fits)))))

pub step_small : (text c : List ℕ) (i : Input) (n : ℕ) → Small (step_call text c i n).answer
unfolding step_call
step_small text c i n = go (check_step text c i n) (step_ends text c i n)
  where
    moved : (d : List ℕ) (is : List Instruction) (o : Moved) → ((m q : ℕ) → o ≡ move_refused m q → Inside m × (q < 2 ^ 24)) → Small (stepped c d is o).answer
    moved d is (fires f) h = record { number = omega arith; not_16 = λ e. omega (arith, e); p = omega arith; q = omega arith }
    moved d is (move_refused m q) h = let r = h m q refl in record { number = r.0.1; not_16 = r.0.2; p = omega arith; q = r.1 }

    go : (x : Checked Program) → Ends Fits Before x → Small (step_answer c i x).answer
    go (refused m p q) (off h) = record { number = omega arith; not_16 = λ e. omega (arith, h.1, e); p = h.2; q = h.3 }
    go (good B) (on fits) =
        let d = take (L B) c in
        moved d (made_by (walked B d i)) (move B d i) (λ m q e. let r = move_number B d i m q e in (r.0, omega (arith, r.1, fits.nodes, fits.locations, fits.roots i.agent)))
