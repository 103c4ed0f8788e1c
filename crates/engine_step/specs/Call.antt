-- The checks of a single-move call after those of the book (SPECIFICATION 9.2).
use Rattle.std.specs.Prelude.{List, ℕ, take}
use Rattle.text.specs.Words.{Checked, ◌>>◌}
use Rattle.book.specs.Book.{Program}
use Rattle.engine.specs.Move.{Input}
use Rattle.engine.specs.Single.{check_agent, check_picks, check_step_lengths, check_contents}

-- Refusal 9 for the agent and for the picks, then refusals 2 and 8, of a book that is said to have so many locations
unfoldable pub check_call : Program → ℕ → List ℕ → Input → ℕ → Checked (Unit {0})
check_call B locations c i n = do
  check_agent B i.agent
  check_picks B i.picks
  check_step_lengths locations c n
  check_contents B (take locations c)
