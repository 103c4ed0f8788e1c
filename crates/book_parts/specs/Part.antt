-- A function's part of the contents table: its locations are one unbroken run (SPECIFICATION 2.3).
use Rattle.std.specs.Prelude.{Bool, ◌&&◌, List, [], ◌∷◌, ℕ, ◌+◌, ltb, leb, set, if◌then◌else◌}
use Rattle.book.specs.declared.Function.{Function}
use Rattle.book.specs.Book.{Program, size, function_at, place}
use Rattle.book_parts.specs.declared.Part.{Part}
use Rattle.book_parts.specs.declared.Owner.{Owner}

-- l is in the part from `first` up to `end`
abbrev pub between : ℕ → ℕ → ℕ → Bool
between first end l = leb first l && ltb l end

-- contents c with v at location l, if l is in the part from `first` up to `end`; outside it nothing is put
abbrev pub put_in : ℕ → ℕ → ℕ → ℕ → List ℕ → List ℕ
put_in first end l v c = if between first end l then set c l v else c

-- function g and its part, which starts at `first`: where the part of the function before it ends
abbrev pub part_from : Program → ℕ → ℕ → Owner
part_from B g first = record { function = function_at B g; first = first; end = first + size B.E (function_at B g).arity }

-- the part that location l is in, the functions' parts following each other from `first` on; past the last one an empty part
unfoldable pub part_in : ℕ → ℕ → List Function → ℕ → Part
part_in E first [] l = record { first = first; end = first }
part_in E first (f ∷ fs) l =
    let end = first + size E f.arity in
    let r = part_in E end fs l in
    if ltb l end then record { first = first; end = end } else r

-- the part of the contents table that location l is in
abbrev pub part_of : Program → ℕ → Part
part_of B l = part_in B.E 0 B.functions l

-- the function that location l belongs to, with its part of the contents table
abbrev pub owner_of : Program → ℕ → Owner
owner_of B l = record { function = (place B l).function; first = (part_of B l).first; end = (part_of B l).end }
