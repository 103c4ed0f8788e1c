-- What each term kind, 1 to 13, gives, from the text of books, as a table under the lemma of Quoted (SPECIFICATION 2.7, 4.1). Elements are 0 to 6: undef,
-- false, true, the numbers 0, 1 and 2, and a label. proofs/Operators shows by computation that the table is right.
use Rattle.std.specs.Prelude.{false, List, [], ◌∷◌, ◌++◌, ℕ, suc, ◌+◌, replicate}
use Prim.Native.String.{String}
use Rattle.text.specs.Text.{written}
use Rattle.text.specs.Quoted.{bytes, numbers, padded, Case, case}
use Rattle.engine.specs.Examples.{Question, leaves}

-- the numbers of a quoted text, one after the other
abbrev pub quoted_numbers : String → List ℕ
quoted_numbers s = numbers 0 false (bytes s)

-- ---- kinds 1 and 3 to 6: an agent sets r, which is the label, to a term

-- a line as bytes
abbrev pub written_line : ℕ → ℕ → ℕ → ℕ → List ℕ
written_line a b c d = written (record { a = a; b = b; c = c; d = d })

-- a book in which the agent, whose element is 3, sets r to the term of node n; the nodes 1 to n are given
abbrev pub set_to : ℕ → String → List ℕ
set_to n nodes =
    written_line 7 6 5 (n + 2)
    ++ (padded "1 0 0 0 / 1 3 0 0 / 0 2 0 0 / 0 2 0 0 / 1 2 0 0 / 2 2 0 0 / 4 1 0 0" ++ (padded nodes ++ (written_line 21 0 n 0 ++ written_line (suc n) 3 0 0)))

-- contents in which r is x: Reserve; r; then functions 2 to 4, of 0, 1 and 2 arguments
abbrev pub with_r : ℕ → List ℕ
with_r x =
    quoted_numbers "1 1 1 1 1 1 1"
    ++ (x ∷ 4 ∷ quoted_numbers "0 2 1 4 5 3 6"
    ++ quoted_numbers "0 0 0 0 0 0 0 / 0 0 5 0 0 0 0 / 0 3 0 0 0 0 0 / 0 0 0 0 0 0 0 / 0 0 0 0 0 0 0 / 0 0 0 0 0 0 0 / 0 0 0 0 0 0 0")

-- the book of set_to, in whose contents r is first the label, and then v
abbrev pub term_gives : ℕ → String → ℕ → Case Question
term_gives n nodes v = case (leaves (set_to n nodes) (with_r 6)) (0 ∷ 0 ∷ 0 ∷ with_r v)

-- ---- kinds 2 and 7 to 13: an agent sets g, which is the label everywhere, for all elements of the universe U, which holds all seven

-- contents of Reserve and U: the roll is empty, and U has all elements
abbrev pub all_in : List ℕ
all_in = quoted_numbers "1 1 1 1 1 1 1 / 2 2 2 2 2 2 2"

-- a book in which, for all x and y in U, g(x, y) is set to node 5, a term of nodes 3 and 4, which are x and y
abbrev pub for_pairs : String → List ℕ
for_pairs node =
    padded "7 6 3 9 / 1 0 0 0 / 1 3 0 0 / 1 3 0 0 / 2 2 0 0 / 2 0 0 0 / 2 1 0 0 / 6 2 0 1 / 2 0 0 0 / 2 1 0 0"
    ++ (padded node ++ padded "21 2 5 0 / 25 1 1 6 / 25 0 1 7 / 8 3 0 0")

-- the book of for-pairs leaves these values of g, a row for each x
abbrev pub pairs_give : String → String → Case Question
pairs_give node rows = case (leaves (for_pairs node) (all_in ++ replicate 49 6)) (0 ∷ 0 ∷ 0 ∷ all_in ++ quoted_numbers rows)

-- a book in which, for all x in U, g(x) is set to not x
abbrev pub for_each : List ℕ
for_each = padded "7 6 3 6 / 1 0 0 0 / 1 3 0 0 / 1 3 0 0 / 1 2 0 0 / 2 0 0 0 / 5 2 0 0 / 2 0 0 0 / 8 2 0 0 / 21 1 3 0 / 25 0 1 4 / 5 3 0 0"

-- ---- the table

-- terms with their values
unfoldable pub operators : List (Case Question)
operators =
    -- Kind 1, an element: the number 2
    term_gives 1 "1 5 0 0" 5
    -- Kind 3, the agent: its element
    ∷ term_gives 1 "3 0 0 0" 3
    -- Kind 4, a function of arity 0
    ∷ term_gives 1 "4 2 0 0" 4
    -- Kind 5, a function of arity 1, at 4
    ∷ term_gives 2 "1 4 0 0 / 5 3 1 0" 5
    -- Kind 6, a function of arity 2, at 1 and 2
    ∷ term_gives 3 "1 1 0 0 / 1 2 0 0 / 6 4 1 2" 5
    -- Kind 7, equal
    ∷ pairs_give "7 3 4 0" "2 1 1 1 1 1 1 / 1 2 1 1 1 1 1 / 1 1 2 1 1 1 1 / 1 1 1 2 1 1 1 / 1 1 1 1 2 1 1 / 1 1 1 1 1 2 1 / 1 1 1 1 1 1 2"
    -- Kind 8, not
    ∷ case (leaves for_each (all_in ++ replicate 7 6)) (0 ∷ 0 ∷ 0 ∷ all_in ++ quoted_numbers "0 2 1 0 0 0 0")
    -- Kind 9, and
    ∷ pairs_give "9 3 4 0" "0 0 0 0 0 0 0 / 0 1 1 0 0 0 0 / 0 1 2 0 0 0 0 / 0 0 0 0 0 0 0 / 0 0 0 0 0 0 0 / 0 0 0 0 0 0 0 / 0 0 0 0 0 0 0"
    -- Kind 10, or
    ∷ pairs_give "10 3 4 0" "0 0 0 0 0 0 0 / 0 1 2 0 0 0 0 / 0 2 2 0 0 0 0 / 0 0 0 0 0 0 0 / 0 0 0 0 0 0 0 / 0 0 0 0 0 0 0 / 0 0 0 0 0 0 0"
    -- Kind 11, plus
    ∷ pairs_give "11 3 4 0" "0 0 0 0 0 0 0 / 0 0 0 0 0 0 0 / 0 0 0 0 0 0 0 / 0 0 0 3 4 5 0 / 0 0 0 4 5 0 0 / 0 0 0 5 0 0 0 / 0 0 0 0 0 0 0"
    -- Kind 12, minus
    ∷ pairs_give "12 3 4 0" "0 0 0 0 0 0 0 / 0 0 0 0 0 0 0 / 0 0 0 0 0 0 0 / 0 0 0 3 0 0 0 / 0 0 0 4 3 0 0 / 0 0 0 5 4 3 0 / 0 0 0 0 0 0 0"
    -- Kind 13, less
    ∷ pairs_give "13 3 4 0" "0 0 0 0 0 0 0 / 0 0 0 0 0 0 0 / 0 0 0 0 0 0 0 / 0 0 0 1 2 2 0 / 0 0 0 1 1 2 0 / 0 0 0 1 1 1 0 / 0 0 0 0 0 0 0"
    ∷ []
