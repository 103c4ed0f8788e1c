-- What the tables hold at the end of a log's run, and the answer of the order check.
use Rattle.std.specs.Prelude.{◌≡◌, ℕ, List}
use Rattle.text.specs.Words.{Answer}
use Rattle.text.specs.Refusals.{unordered_touch}
use Rattle.book.specs.Book.{Program, L}
use Rattle.order.specs.Pairs.{PairFound, no_pair, a_pair}
use Rattle.order.specs.Run.{Run, readers, writers}

-- the tables are those of a run that came to s: its contents, and the marks of the moves that fired
pub record RunTables (B : Program) (s : Run) (c rs ws : List ℕ) : Type 0 where
  pub contents : c ≡ s.contents
  pub readers : rs ≡ readers (L B) s.fired
  pub writers : ws ≡ writers (L B) s.fired

-- Refusal 17 at the pair found; 0 0 0 if there is none
abbrev pub touch_answer : PairFound → Answer
touch_answer no_pair = record { number = 0; p = 0; q = 0 }
touch_answer (a_pair i j) = record { number = unordered_touch; p = i; q = j }
