-- Each check refuses with a number from 1 to 10, so an answer of number 0 accepts.
use mathlib.Core.Path.{◌≡◌, refl}
use mathlib.Core.List.{List}
use Prim.Native.Nat.{ℕ, ◌≤◌}
use native.Mathlib.Omega.{arith}
use lib.ListN.{take}
use Rattle.text.specs.Words.{Checked, good, refused, answer_of}
use Rattle.text.proofs.Checks.{Ends, off, Any, also, then_ends, none_ends, must_ends}
use Rattle.book.specs.Book.{Program}
use Rattle.book.specs.Check.{check_book}
use Rattle.book.proofs.Refusals.{book_ends}
use Rattle.engine.specs.Move.{Input}
use Rattle.engine.proofs.Refusals.{picks_end}
use Rattle.engine.specs.Single.{check_picks, check_agent, check_step_lengths, check_contents}
use Rattle.engine_step.specs.Call.{check_call}

abbrev Between : ℕ → ℕ → ℕ → Type 0
Between n p q = (1 ≤ n) × (n ≤ 10)

abbrev pub UpToTen : {A : Type 0} → Checked A → Type 0
UpToTen c = Ends Any Between c

-- ---- the checks of a call

pub book_numbered : (text : List ℕ) → UpToTen (check_book text)
book_numbered text = also (book_ends text) (λ B e. tt) (λ n p q r. omega arith)

pub agent_numbered : (B : Program) (k : ℕ) → UpToTen (check_agent B k)
unfolding check_agent
agent_numbered B k = must_ends Between _ _ _ _ (omega arith)

pub picks_numbered : (B : Program) (ys : List ℕ) → UpToTen (check_picks B ys)
picks_numbered B ys = also (picks_end B ys) (λ u e. tt) (λ n p q r. omega arith)

pub lengths_numbered : (locations : ℕ) (c : List ℕ) (n : ℕ) → UpToTen (check_step_lengths locations c n)
lengths_numbered locations c n = then_ends (must_ends Between _ _ _ _ (omega arith)) (must_ends Between _ _ _ _ (omega arith))

contents_numbered : (B : Program) (c : List ℕ) → UpToTen (check_contents B c)
unfolding check_contents
contents_numbered B c = none_ends Between _ _ _ _ _ (λ p h. omega arith)

pub call_numbered : (B : Program) (locations : ℕ) (c : List ℕ) (i : Input) (n : ℕ) → UpToTen (check_call B locations c i n)
unfolding check_call
call_numbered B locations c i n =
    then_ends (agent_numbered B i.agent) (then_ends (picks_numbered B i.picks) (then_ends (lengths_numbered locations c n) (contents_numbered B (take locations c))))

-- an answer with number 0 accepts
pub accepts : {A : Type 0} (c : Checked A) → UpToTen c → (answer_of c).number ≡ 0 → (a : A) × (c ≡ good a)
accepts (good a) h e = (a, refl)
accepts (refused n p q) (off h) e = absurd (omega (arith, h.0, e))
