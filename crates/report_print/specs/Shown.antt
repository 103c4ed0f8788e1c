-- A text that stands in front of an output, and the label tally that is given with it.
use Rattle.std.specs.Prelude.{◌≡◌, List, [], ◌++◌, ℕ, ltb, length, drop, if◌then◌else◌}
use Rattle.engine.specs.declared.Tally.{Tally}
use Rattle.engine.specs.Labels.{no_labels}
use Rattle.report_print.specs.declared.PrintedRun.{PrintedRun}
use Rattle.report_print.specs.Print.{most_output}

-- a call that writes the text of a run with the tally k into the output m gives r and leaves `after`
pub record Shown (text : List ℕ) (k : Tally) (m : List ℕ) (r : PrintedRun) (after : List ℕ) : Type 0 where
  -- the text's length is given
  pub count : r.bytes ≡ length text
  -- and the tally
  pub tally : r.tally ≡ k
  -- the text stands first, and the bytes past it stay
  pub bytes : after ≡ text ++ drop (length text) m

-- what is written into the output m: the text, or nothing where m has fewer bytes than an answer may need
abbrev pub fitting : List ℕ → List ℕ → List ℕ
fitting text m = if ltb (length m) most_output then [] else text

-- the tally that is given with it: that of the run, or none where nothing is run
abbrev pub fitting_tally : Tally → List ℕ → Tally
fitting_tally k m = if ltb (length m) most_output then no_labels else k
