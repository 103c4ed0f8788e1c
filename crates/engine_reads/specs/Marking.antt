-- What a search among the elements gives, and what a universe read at all elements marks.
use Rattle.std.specs.Prelude.{Option, None, Some}
use Rattle.std.specs.Prelude.{Bool, List, [], ◌∷◌, ℕ, zero, suc, ◌+◌, ◌-◌, eqb, ltb, get_or, if◌then◌else◌}
use Rattle.text.specs.Words.{table_from}
use Rattle.book.specs.declared.Function.{Function}
use Rattle.book.specs.Book.{Program, true_element, dynamic}
use Rattle.engine.specs.Reader.{value_in}
use Rattle.engine.specs.Rule.{members}
use Rattle.engine_term.specs.Marks.{marked}

-- a search below e came to x, which is e if nothing was found
abbrev pub found_below : ℕ → ℕ → Option ℕ
found_below e x = if ltb x e then Some x else None

-- ---- universes

-- the marks m with this bit put in at the E locations of the universe f, if f is dynamic
abbrev pub universe_marked : Function → ℕ → ℕ → List ℕ → List ℕ
universe_marked f E bit m = if dynamic f then marked bit (table_from (λ l. l) f.first E) m else m

-- y is in the universe whose first location is `first`: it is true there
abbrev pub member : List ℕ → ℕ → ℕ → Bool
member c first y = eqb (get_or c (first + y) 0) true_element

-- the least of the k numbers from x on that passes the test, or the one past them
unfoldable pub next_passing : (ℕ → Bool) → ℕ → ℕ → ℕ
next_passing t x zero = x
next_passing t x (suc k) = let r = next_passing t (suc x) k in if t x then x else r

-- the members of the universe u from y on
abbrev pub members_from : Program → List ℕ → ℕ → ℕ → List ℕ
members_from B c u y = value_in c (members B u y (B.E - y))

-- x and the members of the universe u after it, or none if x is no element
abbrev pub first_and_rest : Program → List ℕ → ℕ → ℕ → List ℕ
first_and_rest B c u x = if ltb x B.E then x ∷ members_from B c u (x + 1) else []
