-- An answer as C gets it, in one number, with the tables and the tally beside it; how C has it back; and what each function that C can call promises.
use Rattle.std.specs.Prelude.{◌≡◌, List, [], ◌∷◌, ℕ, ◌+◌, ◌*◌, ◌/◌, ◌%◌, ◌^◌}
use Rattle.text.specs.Words.{Answer}
use Rattle.text.specs.Words.{answer_of}
use Rattle.book.specs.Check.{check_book}
use Rattle.book.specs.Check.{packed as packed_check}
use Rattle.engine.specs.declared.Tally.{Tally}
use Rattle.engine.specs.Move.{Input}
use Rattle.engine.specs.Single.{step_call}
use Rattle.order.specs.Call.{log_call}
use Rattle.order.specs.Run.{LogAnswer}
use Rattle.engine.specs.Tables.{Tables, tables}
use Rattle.report.specs.Report.{rental, input_tally}
use Rattle.report_print.specs.Shown.{Shown, fitting, fitting_tally}

-- an answer as one number: number × 2^48 + p × 2^24 + q
abbrev pub packed_answer : Answer → ℕ
packed_answer a = a.number * 2 ^ 48 + a.p * 2 ^ 24 + a.q

-- the answer in a number: the refusal's number above 48 bits, p in the 24 below it, q in the lowest 24
abbrev pub unpacked : ℕ → Answer
unpacked r = record { number = r / 2 ^ 48; p = r / 2 ^ 24 % 2 ^ 24; q = r % 2 ^ 24 }

-- the answer of a book check in a number: the refusal's number above 32 bits, p below; q is 0
abbrev pub unpacked_check : ℕ → Answer
unpacked_check r = record { number = r / 2 ^ 32; p = r % 2 ^ 32; q = 0 }

-- the tables that a log's run leaves
abbrev pub tables_of : LogAnswer → Tables
tables_of a = tables a.contents a.readers a.writers

-- a tally as C gets it: labels issued, then labels returned
abbrev pub tally_words : Tally → List ℕ
tally_words k = k.issued ∷ k.returned ∷ []

-- the check of a book, in the number r
pub record CheckPacked (book : List ℕ) (r : ℕ) : Type 0 where
  pub packed : r ≡ packed_check (answer_of (check_book book))
  -- C has number and place back from it
  pub unpacked : unpacked_check r ≡ answer_of (check_book book)

-- a single move with n records, in the number r; the contents c become c'
pub record MovePacked (book c : List ℕ) (i : Input) (n r : ℕ) (c' : List ℕ) : Type 0 where
  pub packed : r ≡ packed_answer (step_call book c i n).answer
  -- C has number and place back from it
  pub unpacked : unpacked r ≡ (step_call book c i n).answer
  pub contents : c' ≡ (step_call book c i n).contents

-- a log's run with n records, in the number r; the tables lent become those left, and k has the tally
pub record RunPacked (book log : List ℕ) (lent : Tables) (n r : ℕ) (left : Tables) (k : List ℕ) : Type 0 where
  pub packed : r ≡ packed_answer (log_call book log lent n).answer
  -- C has number and place back from it
  pub unpacked : unpacked r ≡ (log_call book log lent n).answer
  pub tables : left ≡ tables_of (log_call book log lent n)
  pub tally : k ≡ tally_words (log_call book log lent n).tally

-- what `rental` prints for an input, in the output m, which becomes `after`: r bytes; and k has the tally of the run
pub record InputPrinted (input m : List ℕ) (r : ℕ) (after k : List ℕ) : Type 0 where
  pub shown : Shown (fitting (rental input) m) (fitting_tally (input_tally input) m) m (record { bytes = r; tally = fitting_tally (input_tally input) m }) after
  pub tally : k ≡ tally_words (fitting_tally (input_tally input) m)
