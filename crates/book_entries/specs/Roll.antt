-- What the code holds for refusal 8 of a book: the contents lines as entries, and a table of the labels that they put on the roll.
use Rattle.std.specs.Prelude.{◌≡◌, Bool, ◌&&◌, ◌||◌, List, ℕ, zero, suc, ◌+◌, ◌<◌, ◌≤◌, eqb, length, get_or, set, if◌then◌else◌}
use Rattle.text.specs.Words.{table}
use Rattle.text.specs.Text.{line}
use Rattle.book.specs.declared.Entry.{Entry}
use Rattle.book.specs.Book.{entry_at}
use Rattle.book.specs.Lines.{entry_of}

-- the entries of n lines from line `first` on
abbrev pub entries_from : List ℕ → ℕ → ℕ → List Entry
entries_from text first n = table (λ i. entry_of (line text (first + i))) n

-- the table s with 1 at the label that the entry puts on the roll, if it is an entry of Reserve
abbrev pub roll_with : Entry → List ℕ → List ℕ
roll_with e s = if eqb e.function 0 then set s e.arg1 1 else s

-- the table s with 1 at each label that the first i entries put on the roll
unfoldable pub roll_of : List Entry → ℕ → List ℕ → List ℕ
roll_of es zero s = s
roll_of es (suc i) s = roll_with (entry_at es i) (roll_of es i s)

-- by the table s, the entry is no trace of a label on the roll
abbrev pub untraced_by : List ℕ → Entry → Bool
untraced_by s e = eqb e.function 0 || eqb (get_or s e.arg1 0) 0 && eqb (get_or s e.arg2 0) 0 && eqb (get_or s e.value 0) 0

-- a table for E elements in which no label is on the roll
pub record RollEmpty (E : ℕ) (s : List ℕ) : Type 0 where
  pub long : E ≤ length s
  pub empty : (x : ℕ) → x < E → get_or s x 0 ≡ 0
