-- What the printed answer of a call that passed its checks rests on.
use Rattle.std.specs.Prelude.{◌≡◌, List, ℕ, ◌≤◌, replicate}
use Rattle.book.specs.Book.{Book, L}
use Rattle.book.specs.Image.{program_in}
use Rattle.order.specs.Log.{Log}
use Rattle.order.specs.Run.{run_log}
use Rattle.report.specs.Report.{print_answer}
use Rattle.report_print.specs.declared.PrintedRun.{PrintedRun}
use Rattle.report_print.specs.Shown.{Shown}
use Rattle.order_run.specs.declared.CheckedCall.{CheckedCall}
use Rattle.order_run.specs.Checked.{CallPassed}
use Rattle.engine.specs.Tables.{Tables}

-- the call that passed may start on the tables t, and the image m holds the book whose contents are printed
pub record Reported (book : List ℕ) (b : Book) (g : Log) (r : CheckedCall) (m o : List ℕ) (t : Tables) : Type 0 where
  pub passed : CallPassed book b g r m o t 2048
  pub program : program_in m ≡ b.program
  pub few : L b.program ≤ 2048

-- tables of n records that nothing was written to
abbrev pub blank_tables : ℕ → Tables
blank_tables n = record { contents = replicate n 0; readers = replicate n 0; writers = replicate n 0 }

-- a call that passed its checks is run on the tables t, and its printed answer stands in front of the output, which becomes `after`; r is given
abbrev pub CallPrinted : List ℕ → CheckedCall → List ℕ → List ℕ → Tables → List ℕ → PrintedRun → List ℕ → Type 0
CallPrinted book checked m o t output r after = (b : Book) (g : Log) → Reported book b g checked m o t
    → Shown (print_answer b.program (run_log b g)) (run_log b g).tally output r after
