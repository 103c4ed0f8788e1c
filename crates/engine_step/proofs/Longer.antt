-- A single move's instruction list longer than 256 records makes no difference.
use mathlib.Core.Path.{◌≡◌, refl, ap, fun_ext}
use mathlib.Core.List.{List}
use Prim.Native.Nat.{ℕ, min}
use lib.Dec.{leb}
use lib.ListN.{take}
use native.Mathlib.Omega.{min_cases}
use borrow.Author.Tests.{le-leb}
use Rattle.text.specs.Words.{Checked, good, ◌>>◌, ◌>>=◌}
use Rattle.book.specs.Book.{Program, L}
use Rattle.book.specs.Check.{check_book}
use Rattle.engine.specs.Rule.{most_instructions}
use Rattle.engine.specs.Move.{Input}
use Rattle.engine.specs.Single.{check_picks, check_agent, check_lent_step, check_contents, check_step, step_answer, step_call}

-- refusal 2 tests the same of a list cut to 256 records
pub enough : (n : ℕ) → leb most_instructions (min n 256) ≡ leb most_instructions n
enough n = min_cases n 256 (leb most_instructions (min n 256) ≡ leb most_instructions n) (λ h e. rw e refl) (λ h e. rw e rw (le-leb 256 n h) refl)

module _ (book c : List ℕ) (i : Input) (n : ℕ) where
  lent_step_longer : (B : Program) → check_lent_step B c (min n 256) ≡ check_lent_step B c n
  unfolding check_lent_step
  lent_step_longer B = rw (enough n)

  pub step_longer : step_call book c i (min n 256) ≡ step_call book c i n
  unfolding step_call check_step
  step_longer = ap (λ (f : Program → Checked (Unit {0})). step_answer c i (check_book book >>= (λ b. check_agent b.program i.agent >> (check_picks b.program i.picks >> (f b.program >> (check_contents b.program (take (L b.program) c) >> good b.program)))))) (fun_ext lent_step_longer)
