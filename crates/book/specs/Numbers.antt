-- Locations of one book with their numbers, counted by hand, as two tables under the lemma of Quoted: the number of a function's location, and a number taken
-- apart. Both have the first and the last location of each function (SPECIFICATION 2.3). proofs/Numbers shows by computation that the tables are right.
use Rattle.std.specs.Prelude.{List, [], ◌∷◌, ℕ}
use Rattle.text.specs.Text.{line}
use Rattle.text.specs.Quoted.{padded, Case, case}
use Rattle.book.specs.Book.{Program, function_at, location}
use Rattle.book.specs.Lines.{header_of, program_of}
use Rattle.book.specs.Sum.{sum, Apart, apart}

-- a book of five elements, with two functions of each arity: Reserve has the locations 0 to 4, function 1 (nullary) 5, function 2 (binary) 6 to 30, function 3
-- (unary) 31 to 35, function 4 (nullary) 36, function 5 (binary) 37 to 61
unfoldable pub numbered_book : List ℕ
numbered_book = padded "5 4 6 1 / 1 0 0 0 / 1 3 0 0 / 0 2 0 0 / 2 3 0 0 / 1 2 0 0 / 0 3 0 0 / 2 2 0 0 / 20 0 0 0 / 0 3 0 0"

-- its program
abbrev pub numbered_program : Program
numbered_program = program_of (header_of (line numbered_book 0) (line numbered_book 1)) numbered_book

-- ---- the number of a location

-- the number of a location of the book, as SPECIFICATION 2.3 says it, and as the sum
abbrev pub number_both_ways : Apart → List ℕ
number_both_ways p =
    location numbered_program p.function p.first p.second
    ∷ sum (function_at numbered_program p.function) p.first p.second
    ∷ []

-- function f at the arguments x and y has the number l, both ways
abbrev pub has_number : ℕ → ℕ → ℕ → ℕ → Case Apart
has_number f x y l = case (record { function = f; first = x; second = y }) (l ∷ l ∷ [])

-- locations with their numbers
unfoldable pub location_numbers : List (Case Apart)
location_numbers =
    has_number 0 0 0 0
    ∷ has_number 0 4 0 4
    ∷ has_number 1 0 0 5
    ∷ has_number 2 0 0 6
    ∷ has_number 2 0 4 10
    ∷ has_number 2 1 0 11
    ∷ has_number 2 4 4 30
    ∷ has_number 3 0 0 31
    ∷ has_number 3 4 0 35
    ∷ has_number 4 0 0 36
    ∷ has_number 5 0 0 37
    ∷ has_number 5 2 3 50
    ∷ has_number 5 4 4 61
    ∷ []

-- ---- a number taken apart

-- a number of the book taken apart: function, first and second argument
abbrev pub parts_of : ℕ → List ℕ
parts_of l = let p = apart numbered_program l in p.function ∷ p.first ∷ p.second ∷ []

-- numbers with their function and arguments
unfoldable pub number_parts : List (Case ℕ)
number_parts =
    case 0 (0 ∷ 0 ∷ 0 ∷ [])
    ∷ case 4 (0 ∷ 4 ∷ 0 ∷ [])
    ∷ case 5 (1 ∷ 0 ∷ 0 ∷ [])
    ∷ case 6 (2 ∷ 0 ∷ 0 ∷ [])
    ∷ case 10 (2 ∷ 0 ∷ 4 ∷ [])
    ∷ case 11 (2 ∷ 1 ∷ 0 ∷ [])
    ∷ case 30 (2 ∷ 4 ∷ 4 ∷ [])
    ∷ case 31 (3 ∷ 0 ∷ 0 ∷ [])
    ∷ case 35 (3 ∷ 4 ∷ 0 ∷ [])
    ∷ case 36 (4 ∷ 0 ∷ 0 ∷ [])
    ∷ case 37 (5 ∷ 0 ∷ 0 ∷ [])
    ∷ case 50 (5 ∷ 2 ∷ 3 ∷ [])
    ∷ case 61 (5 ∷ 4 ∷ 4 ∷ [])
    ∷ []
