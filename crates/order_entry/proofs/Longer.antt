-- An instruction list longer than 256 records makes no difference.
use mathlib.Core.Path.{◌≡◌, ap, fun_ext}
use mathlib.Core.List.{List}
use Prim.Native.Nat.{ℕ, min}
use native.Mathlib.Omega.{arith}
use Rattle.engine_step.proofs.Longer.{enough}
use Rattle.text.specs.declared.Reason.{Reason}
use Rattle.text.specs.Words.{Checked, good, ◌>>◌, ◌>>=◌}
use Rattle.book.specs.Book.{Program}
use Rattle.book.specs.Check.{check_book}
use Rattle.engine.specs.declared.Instruction.{Instruction}
use Rattle.order.specs.Run.{LogAnswer}
use Rattle.order.specs.Log.{check_log}
use Rattle.order.specs.Call.{lengths, check_lengths, check_lent, check_all, log_answer, log_call}
use Rattle.engine.specs.declared.TalliedResult.{TalliedResult}
use Rattle.order_run.specs.declared.RunState.{RunState}
use Rattle.order_run.specs.declared.RunState.TheVariants.{Next, Over}
use Rattle.order_run.specs.Stages.{CallAt}
use Rattle.engine.specs.Tables.{Tables}

-- a call that is so far with n records lent is so far with 256 of them
pub call_shorter : (t : Tables) (n : ℕ) (whole : LogAnswer) (m o : List ℕ) (rest : List (List Instruction)) (u : RunState (TalliedResult Reason)) (c rs ws : List ℕ) → CallAt t n whole m o rest u c rs ws → CallAt t (min n 256) whole m o rest u c rs ws
call_shorter t n whole m o rest (Over a) c rs ws h = h
call_shorter t n whole m o rest (Next u) c rs ws h = record {
  g = h.g;
  c = h.c;
  kept = record {
    records = omega (arith, h.kept.records);
    locations = h.kept.locations;
    contents = h.kept.contents;
    readers = h.kept.readers;
    writers = h.kept.writers;
    call = h.kept.call;
  };
  next = h.next;
  lists = h.lists;
}

module _ (book log : List ℕ) (t : Tables) (n : ℕ) where
  lent_longer : (B : Program) → check_lent B (lengths t (min n 256)) ≡ check_lent B (lengths t n)
  unfolding check_lengths
  lent_longer B = rw (enough n)

  pub call_longer : log_call book log t (min n 256) ≡ log_call book log t n
  unfolding log_call check_all
  call_longer = ap (λ (f : Program → Checked (Unit {0})). log_answer t (check_book book >>= (λ b. check_log b.program log >>= (λ g. f b.program >> good (b, g))))) (fun_ext lent_longer)
