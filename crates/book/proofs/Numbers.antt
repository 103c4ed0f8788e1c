-- The tables of specs/Numbers are right, by computation.
use Rattle.std.specs.Prelude.{◌≡◌, refl, true, [], ◌∷◌, ℕ, ◌<◌, length, get_or}
use Rattle.text.specs.Quoted.{case, all_right, each_right}
use Rattle.book.specs.Sum.{number_in}
use Rattle.book.specs.Open.{open_book}
use Rattle.book.specs.Examples.{asked}
use Rattle.book.specs.Numbers.{numbered_book, number_both_ways, has_number, location_numbers, parts_of, number_parts}

-- the book is accepted, by computation
pub numbered_accepted : asked numbered_book ≡ 0 ∷ 0 ∷ 0 ∷ []
unfolding numbered_book open_book
numbered_accepted = refl

-- by computation
location_numbers_right : all_right number_both_ways location_numbers ≡ true
unfolding location_numbers numbered_book open_book
location_numbers_right = refl

-- location i of the table has the number that the table says
pub location_numbers_are : (i : ℕ) → i < length location_numbers
    → number_both_ways (get_or location_numbers i (has_number 0 0 0 0)).question ≡ (get_or location_numbers i (has_number 0 0 0 0)).answer
location_numbers_are i h = each_right number_both_ways location_numbers (has_number 0 0 0 0) i location_numbers_right h

-- by computation
number_parts_right : all_right parts_of number_parts ≡ true
unfolding number_parts numbered_book number_in open_book
number_parts_right = refl

-- number i of the table taken apart gives what the table says
pub number_parts_are : (i : ℕ) → i < length number_parts → parts_of (get_or number_parts i (case 0 [])).question ≡ (get_or number_parts i (case 0 [])).answer
number_parts_are i h = each_right parts_of number_parts (case 0 []) i number_parts_right h
