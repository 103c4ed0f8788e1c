-- Refusal 8: contents against the rules, line by line in a book, and location by location in a lent table
-- (SPECIFICATION 3.9).
use Rattle.std.specs.Prelude.{Bool, true, false, ◌&&◌, ◌||◌, not, List, [], ◌∷◌, ℕ, zero, suc, ◌+◌, eqb, ltb, leb, length, get_or, if◌then◌else◌}
use Rattle.book.specs.declared.Function.{Function}
use Rattle.book.specs.declared.Entry.{Entry}
use Rattle.book.specs.Book.{Program, true_element, boolean, relation, dynamic, default, function_at, entry_at, entry_location, reserve, dynamic_at, relation_at, default_at, arguments_at}

-- ---- a contents line: entry i of the book's entries

-- the entry names a function of the book, and elements as arguments and value
unfoldable pub in_bounds : Program → Entry → Bool
in_bounds B e = ltb e.function (length B.functions) && ltb e.arg1 B.E && ltb e.arg2 B.E && ltb e.value B.E

-- The entry fits its function f: arguments that f has not are 0; the value is true in a relation and not undef elsewhere, so never the default; a static
-- function has no label; Reserve holds for labels only
unfoldable pub entry_fits : ℕ → Entry → Function → Bool
entry_fits P e f =
    (leb 1 f.arity || eqb e.arg1 0) && (eqb f.arity 2 || eqb e.arg2 0)
    && (relation f && eqb e.value true_element || not (relation f) && not (eqb e.value (default f)))
    && (dynamic f || ltb e.arg1 P && ltb e.arg2 P && ltb e.value P)
    && (not (eqb e.function 0) || leb P e.arg1)

-- the least location that entry i may have: one more than that of the entry before it
unfoldable pub least_location : Program → List Entry → ℕ → ℕ
least_location B es zero = 0
least_location B es (suc i) = entry_location B (entry_at es i) + 1

-- one of the first i entries puts x on the roll
unfoldable pub rolled : List Entry → ℕ → ℕ → Bool
rolled es x zero = false
rolled es x (suc i) = rolled es x i || eqb (entry_at es i).function 0 && eqb (entry_at es i).arg1 x

-- entry i is no trace of a label that an earlier entry put on the roll. An argument that its function has not is 0, which is no label
unfoldable pub untraced : List Entry → ℕ → Bool
untraced es i =
    let e = entry_at es i in
    eqb e.function 0 || not (rolled es e.arg1 i) && not (rolled es e.arg2 i) && not (rolled es e.value i)

-- Refusal 8 of a book: entry i is at fault, by itself or by the entries before it
unfoldable pub bad_entry : Program → List Entry → ℕ → Bool
bad_entry B es i =
    let e = entry_at es i in
    not (in_bounds B e && (entry_fits B.P e (function_at B e.function) && leb (least_location B es i) (entry_location B e) && untraced es i))

-- ---- a location of lent contents c

-- x is on the roll
abbrev pub on_roll : Program → List ℕ → ℕ → Bool
on_roll B c x = ltb x B.E && eqb (get_or c (reserve x) 0) true_element

-- one of the elements xs is on the roll
unfoldable pub some_on_roll : Program → List ℕ → List ℕ → Bool
some_on_roll B c [] = false
some_on_roll B c (x ∷ xs) = on_roll B c x || some_on_roll B c xs

-- location l is a trace of a label on the roll: it has one as argument and is not at its default, or it holds one
abbrev pub roll_trace : Program → List ℕ → ℕ → Bool
roll_trace B c l =
    let v = get_or c l 0 in
    on_roll B c v || not (eqb v (default_at B l)) && some_on_roll B c (arguments_at B l)

-- all elements xs are permanent
unfoldable pub all_permanent : ℕ → List ℕ → Bool
all_permanent P [] = true
all_permanent P (x ∷ xs) = ltb x P && all_permanent P xs

-- Refusal 8 of a lent table: location l is at fault. The first E locations are Reserve's own: they hold for labels only, and are no traces
unfoldable pub bad_value : Program → List ℕ → ℕ → Bool
bad_value B c l =
    let v = get_or c l 0 in
    not
    (ltb v B.E
    && (not (relation_at B l) || boolean v)
    && (dynamic_at B l || eqb v (default_at B l) || all_permanent B.P (arguments_at B l) && ltb v B.P)
    && (if ltb l B.E then not (eqb v true_element) || leb B.P l else not (roll_trace B c l)))
