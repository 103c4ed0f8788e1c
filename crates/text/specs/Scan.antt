-- What the code has read of a field, column by column, and the number that it reads of the whole.
use Rattle.std.specs.Prelude.{◌≡◌, Bool, true, false, not, List, [], ◌∷◌, ℕ, eqb, if◌then◌else◌}
use Rattle.text.specs.declared.Scan.{Scan}
use Rattle.text.specs.declared.Scan.TheVariants.{Blank, Zero, Digits, Bad}
use Rattle.text.specs.Text.{blank, zero_digit, digit, field_ok, value_of}

-- the state of the columns read so far, after one more column, c its byte
unfoldable pub step_of : Scan → ℕ → Scan
step_of Blank c = if eqb c blank then Blank else if eqb c zero_digit then Zero else if digit c then Digits else Bad
step_of Zero c = Bad
step_of Digits c = if digit c then Digits else Bad
step_of Bad c = Bad

-- the state after the columns of a list, s being the state before them
unfoldable pub scan : Scan → List ℕ → Scan
scan s [] = s
scan s (c ∷ cs) = scan (step_of s c) cs

-- columns in this state are a number
abbrev pub ends_well : Scan → Bool
ends_well Blank = false
ends_well Zero = true
ends_well Digits = true
ends_well Bad = false

-- the four columns before a number of one digit or two
abbrev pub four_blanks : List ℕ
four_blanks = blank ∷ blank ∷ blank ∷ blank ∷ []

-- ---- what the code reads of a field

-- what the code has as the number of a field that is not readable
abbrev pub no_number : ℕ
no_number = 4294967295

-- the code's number r of the columns cs says their form and their value
pub record Read (cs : List ℕ) (r : ℕ) : Type 0 where
  pub value : r ≡ (if field_ok cs then value_of 0 cs else no_number)
  pub form : field_ok cs ≡ not (eqb r no_number)
