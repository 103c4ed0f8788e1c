-- Lines of books and logs: four fields of six columns, then byte 10; reading and writing one (SPECIFICATION 1).
use Rattle.std.specs.Prelude.{Option, None, Some, Bool, true, false, ◌&&◌, ◌||◌, not, List, [], ◌∷◌, ◌++◌, ℕ, ◌+◌, ◌*◌, ◌-◌, ◌/◌, ◌%◌, ◌^◌, eqb, ltb, leb, length, get_or, take, drop, if◌then◌else◌}
use Rattle.text.specs.declared.Line.{Line}

abbrev pub blank : ℕ
blank = 32

abbrev pub zero_digit : ℕ
zero_digit = 48

abbrev pub newline : ℕ
newline = 10

abbrev pub line_length : ℕ
line_length = 25

-- the byte is a decimal digit
abbrev pub digit : ℕ → Bool
digit c = leb zero_digit c && leb c 57

-- the bytes are digits only
unfoldable pub digits : List ℕ → Bool
digits [] = true
digits (c ∷ cs) = digit c && digits cs

-- readable: blanks, then decimal digits, at least one, with no leading zero, but for a single 0 (SPECIFICATION 1.1)
unfoldable pub field_ok : List ℕ → Bool
field_ok [] = false
field_ok (c ∷ cs) =
    let rest = field_ok cs in
    if eqb c blank then rest else digit c && digits cs && (eqb (length cs) 0 || not (eqb c zero_digit))

-- the number that the columns say, n being that of the columns before them; a blank adds nothing
unfoldable pub value_of : ℕ → List ℕ → ℕ
value_of n [] = n
value_of n (c ∷ cs) = value_of (if eqb c blank then n else 10 * n + (c - zero_digit)) cs

-- ---- line i of a text

-- the 25 bytes of line i, or those of them that the text has
abbrev pub line_bytes : List ℕ → ℕ → List ℕ
line_bytes text i = take line_length (drop (line_length * i) text)

-- field j of a line's bytes, its six columns
abbrev pub column : ℕ → List ℕ → List ℕ
column j bytes = take 6 (drop (6 * j) bytes)

-- in form: 25 bytes, of which four readable fields and byte 10. A line that is missing or cut short is not (SPECIFICATION 1.2)
unfoldable pub well_formed : List ℕ → Bool
well_formed bytes =
    eqb (length bytes) line_length && field_ok (column 0 bytes) && field_ok (column 1 bytes) && field_ok (column 2 bytes) && field_ok (column 3 bytes)
    && eqb (get_or bytes 24 0) newline

-- the four numbers of a line's bytes
unfoldable pub numbers_of : List ℕ → Line
numbers_of bytes =
    record {
      a = value_of 0 (column 0 bytes);
      b = value_of 0 (column 1 bytes);
      c = value_of 0 (column 2 bytes);
      d = value_of 0 (column 3 bytes);
    }

-- Refusal 1: line i is ill-formed or missing
abbrev pub bad_line : List ℕ → ℕ → Bool
bad_line text i = not (well_formed (line_bytes text i))

-- the numbers of line i of a text
abbrev pub line : List ℕ → ℕ → Line
line text i = numbers_of (line_bytes text i)

-- the line of which nothing is read: four times 0
abbrev pub no_line : Line
no_line = record { a = 0; b = 0; c = 0; d = 0 }

-- line i as it is read: its numbers, if it is in form
abbrev pub parsed : List ℕ → ℕ → Option Line
parsed text i = if well_formed (line_bytes text i) then Some (line text i) else None

-- ---- a line as bytes

-- the byte in column k from the right, for the number n: a digit, or a blank before the number
abbrev pub column_byte : ℕ → ℕ → ℕ
column_byte n k = if ltb n (10 ^ k) && not (eqb k 0) then blank else zero_digit + n / 10 ^ k % 10

-- the six columns of the number n
abbrev pub field_bytes : ℕ → List ℕ
field_bytes n = column_byte n 5 ∷ column_byte n 4 ∷ column_byte n 3 ∷ column_byte n 2 ∷ column_byte n 1 ∷ column_byte n 0 ∷ []

-- the 25 bytes of a line (SPECIFICATION 1.5)
abbrev pub written : Line → List ℕ
written l = field_bytes l.a ++ (field_bytes l.b ++ (field_bytes l.c ++ (field_bytes l.d ++ (newline ∷ []))))
