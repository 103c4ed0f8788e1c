-- What is claimed of books and contents, and proved in proofs/Claims: the roll rule holds before the first move, and the one sum of Sum is the location's
-- number, and is undone by the stride (SPECIFICATION 2.1 to 2.6).
use Rattle.std.specs.Prelude.{None}
use Rattle.std.specs.Prelude.{◌≡◌, List, ℕ, ◌<◌, length}
use Rattle.text.specs.Words.{least, good}
use Rattle.book.specs.Book.{Program, Book, L, location, function_at, place, arguments_at, start}
use Rattle.book.specs.Sum.{sum, Fitting, first_argument, second_argument, arguments_by, apart}
use Rattle.book.specs.Contents.{bad_value}
use Rattle.book.specs.Check.{check_book}
use Rattle.book.specs.Sound.{Lawful, Sound}

-- the program of a book that passes the checks has what checks 3 to 7 say, and the book's start is sound, the roll rule with it
abbrev pub AcceptedBook : Type 0
AcceptedBook = (text : List ℕ) (b : Book) → check_book text ≡ good b → Lawful b.program × Sound b.program (start b)

-- a lent table that passes the check of refusal 8 is sound
abbrev pub AcceptedTable : Type 0
AcceptedTable = (B : Program) → Lawful B → (c : List ℕ) → length c ≡ L B → least (bad_value B c) (L B) ≡ None → Sound B c

-- ---- the one sum

-- the sum is the number that SPECIFICATION 2.3 gives the location, at all arguments that fit the function
abbrev pub SumIsLocation : Type 0
SumIsLocation = (B : Program) → Lawful B → (f x y : ℕ) → Fitting (function_at B f).arity x y → sum (function_at B f) x y ≡ location B f x y

-- A unary function's argument may as well be given as the second, with 0 as the first: there is no product then. Terms and universes are read so.
abbrev pub SumAsSecond : Type 0
SumAsSecond = (B : Program) (f x : ℕ) → (function_at B f).arity ≡ 1 → sum (function_at B f) 0 x ≡ location B f x 0

-- the sum taken apart gives the function and the arguments that it was made of
abbrev pub ApartSum : Type 0
ApartSum =
    (B : Program) → Lawful B → (f x y : ℕ) → f < length B.functions → x < B.E → y < B.E → Fitting (function_at B f).arity x y
    → apart B (sum (function_at B f) x y) ≡ record { function = f; first = x; second = y }

-- location l taken apart is a function of the program with arguments that fit it, and their sum is l
pub record Summed (B : Program) (l : ℕ) : Type 0 where
  pub function : (apart B l).function < length B.functions
  pub first : (apart B l).first < B.E
  pub second : (apart B l).second < B.E
  pub fitting : Fitting (function_at B (apart B l).function).arity (apart B l).first (apart B l).second
  pub again : sum (function_at B (apart B l).function) (apart B l).first (apart B l).second ≡ l

-- every location taken apart gives the location again as the sum
abbrev pub SumApart : Type 0
SumApart = (B : Program) → Lawful B → (l : ℕ) → l < L B → Summed B l

-- a location taken apart gives the function and the arguments that SPECIFICATION 2.3 gives it: those that the stride gives of its number in its function
abbrev pub ApartIsPlace : Type 0
ApartIsPlace =
    (B : Program) → Lawful B → (l : ℕ) → l < L B
    → (function_at B (apart B l).function ≡ (place B l).function)
    × (arguments_by (function_at B (apart B l).function).arity (apart B l).first (apart B l).second ≡ arguments_at B l)
    × ((apart B l).first ≡ first_argument (place B l).function (place B l).index)
    × ((apart B l).second ≡ second_argument (place B l).function (place B l).index)
