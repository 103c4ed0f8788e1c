-- The functions of a book one after the other: where each one's locations are.
use mathlib.Core.Path.{◌≡◌, refl, ap, ◌∙◌}
use mathlib.Core.List.{List, [], ◌∷◌}
use Prim.Native.Nat.{ℕ, ◌+◌, ◌*◌, ◌-◌, ◌^◌, ◌<◌, ◌≤◌}
use native.Mathlib.Numerals.{add-one}
use native.Mathlib.Omega.{arith}
use borrow.Author.Tests.{lt-ltb, le-ltb}
use lib.ListN.{length, drop, drop_of_length-le}
use lib.Seq.{drop-cons}
use Rattle.book.specs.declared.Function.{Function}
use Rattle.book.specs.Book.{Program, L, size, total, no_function, function_at, place_in, place}
use Rattle.book.specs.Image.{low_program}
use Rattle.book_parts.specs.declared.Owner.{Owner}
use Rattle.book_parts.specs.Part.{part_from}
use Rattle.book.proofs.Image.{size_most, elements_most, functions_most}
use Rattle.book.proofs.Held.{held_elements, held_functions}

-- past the last function's locations there is none
no_place : (E : ℕ) (fs : List Function) (l : ℕ) → total E fs ≤ l → place_in E fs l ≡ record { function = no_function; index = 0 }
unfolding total place_in
no_place E [] l h = refl
no_place E (f ∷ fs) l h = rw (le-ltb l (size E f.arity) (omega arith)) (no_place E fs (l - size E f.arity) (omega arith))

-- a function has at most 100,000,000 locations, so that a word of 32 bits holds how many 32 functions have
total_most : (E : ℕ) (fs : List Function) → E ≤ 10000 → total E fs ≤ length fs * 100000000
unfolding total
total_most E [] h = omega arith
total_most E (f ∷ fs) h = omega (arith, size_most E f.arity h, total_most E fs h)

module _ (m : List ℕ) where
  pub locations_fit : L (low_program m) < 2 ^ 32
  locations_fit = omega (arith, total_most (low_program m).E (low_program m).functions (rw (held_elements m) (elements_most m)), held_functions m, functions_most m)

module _ (B : Program) where
  pub place_past : (l : ℕ) → L B ≤ l → place B l ≡ record { function = no_function; index = 0 }
  place_past l h = no_place B.E B.functions l h

  pub functions_from : (g : ℕ) → g < length B.functions → drop g B.functions ≡ function_at B g ∷ drop (g + 1) B.functions
  functions_from g more = drop-cons B.functions g no_function more ∙ rw add-one

  -- the locations of the functions from g on start at `first`
  pub record From (g first : ℕ) : Type 0 where
    pub sum : first + total B.E (drop g B.functions) ≡ L B
    pub places : (l : ℕ) → first ≤ l → place B l ≡ place_in B.E (drop g B.functions) (l - first)

  pub from_start : From 0 0
  from_start = record { sum = omega arith; places = λ l h. ap (place_in B.E B.functions) (omega arith) }

  module _ (g first : ℕ) (at : From g first) (more : g < length B.functions) where
    cons : drop g B.functions ≡ function_at B g ∷ drop (g + 1) B.functions
    cons = functions_from g more

    abbrev n : ℕ
    n = size B.E (function_at B g).arity

    -- location first + i is location i of function g
    pub from_here : (i : ℕ) → i < n → place B (first + i) ≡ record { function = function_at B g; index = i }
    unfolding place_in
    from_here i h =
        let e : first + i - first ≡ i = omega arith in
        at.places (first + i) (omega arith) ∙ rw (e, cons, lt-ltb i n h)

    -- location l, if it is one of function g's, is its location l - first
    pub from_at : (l : ℕ) → first ≤ l → l < first + n → place B l ≡ record { function = function_at B g; index = l - first }
    from_at l h k = let e : first + (l - first) ≡ l = omega arith in rw e at (from_here (l - first) (omega arith))

    pub from_next : From (g + 1) (first + n)
    unfolding place_in total
    from_next =
        record {
          sum =
              let e : total B.E (drop g B.functions) ≡ n + total B.E (drop (g + 1) B.functions) = rw cons in
              omega (arith, e, at.sum);
          places =
              λ l h.
              let e : l - first - n ≡ l - (first + n) = omega arith in
              at.places l (omega arith) ∙ rw (cons, le-ltb (l - first) n (omega arith), e);
        }

    pub from_fits : first + n ≤ L B
    unfolding total
    from_fits =
        let e : total B.E (drop g B.functions) ≡ n + total B.E (drop (g + 1) B.functions) = rw cons in
        omega (arith, e, at.sum)

  module _ (g first : ℕ) (at : From g first) (done : length B.functions ≤ g) where
    pub from_end : first ≡ L B
    unfolding total
    from_end =
        let e : total B.E (drop g B.functions) ≡ 0 = rw (drop_of_length-le B.functions {i = g} done) in
        omega (arith, e, at.sum)

    -- past the last function there is none
    pub from_past : (l : ℕ) → first ≤ l → place B l ≡ record { function = no_function; index = 0 }
    unfolding place_in
    from_past l h = at.places l h ∙ rw (drop_of_length-le B.functions {i = g} done)

-- laws of function g's part, found from where the one before it ends
module _ (B : Program) (g first : ℕ) (own : Owner) (is : own ≡ part_from B g first) where
  pub part_ends : own.end ≡ first + size B.E (function_at B g).arity
  part_ends = ap (λ (o : Owner). o.end) is

  pub part_after : From B g first → g < length B.functions → From B (g + 1) own.end
  part_after at more = rw part_ends (from_next B g first at more)

-- in the program of an image function g's part ends at a number that a word of 32 bits holds
pub part_fits : (m : List ℕ) (g first : ℕ) (own : Owner) → own ≡ part_from (low_program m) g first → From (low_program m) g first → g < length (low_program m).functions → own.end < 2 ^ 32
part_fits m g first own is at more = omega (arith, part_ends (low_program m) g first own is, from_fits (low_program m) g first at more, locations_fit m)
