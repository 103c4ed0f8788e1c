-- The cases (a) to (l) of SPECIFICATION 10.4, as one table under one lemma, `cases` of proofs/Cases, by computation.
use Rattle.std.specs.Prelude.{List, [], ◌∷◌, ◌++◌, ℕ}
use Prim.Native.String.{String}
use Rattle.text.specs.Quoted.{bytes, padded, Case, case}

-- ---- the specification's book

-- BOOK of the specification's first page
abbrev pub book : List ℕ
book =
    padded
    "8 6 3 13 / 2 3 0 0 / 1 3 0 0 / 1 3 0 0 / 1 2 0 0 / 2 0 0 0 / 5 2 0 0 / 1 3 0 0 / 21 1 2 0 / 26 0 1 3 / 2 0 0 0 / 5 2 5 0 / 2 0 0 0 / 5 2 7 0 / 1 4 0 0 / 11 8 9 0 / 21 6 10 0 / 25 0 1 11 / 4 4 0 0 / 12 5 0 0 / 0 7 0 2 / 1 6 0 2 / 2 6 0 4"

-- an input of a book and a log of one move, which sets f, so far the number 0, to the last of three nodes, a term over the two before it
abbrev pub f_set_to : String → List ℕ
f_set_to nodes =
    padded "8 6 2 5 / 1 1 0 0 / 1 3 0 0 / 0 2 0 0 / 4 1 0 0" ++ (padded nodes ++ padded "21 0 3 0 / 4 3 0 0 / 1 0 0 3 / 1 0 0 0 / 0 0 0 0")

-- ---- the table: what `rental` prints

-- inputs with what is printed for them
unfoldable pub table : List (Case (List ℕ))
table =
    -- Case (a): agent 0 imports, then agent 1 adds
    case (book ++ padded "2 1 0 0 / 0 0 0 0 / 1 0 0 0 / 0 1 0 0")
    (bytes
    "     0     0     0     4\n     1     6     0     2\n     1     7     0     2\n     2     6     0     5\n     2     7     0     4\n")
    -- Case (b): the pair of case (a) left out
    ∷ case (book ++ padded "2 0 0 0 / 0 0 0 0 / 1 0 0 0") (padded "17 0 1 0")
    -- Case (c): no moves
    ∷ case (book ++ padded "0 0 0 0") (padded "0 0 0 3 / 0 7 0 2 / 1 6 0 2 / 2 6 0 4")
    -- Case (d): agent 0 twice, and one label
    ∷ case (book ++ padded "2 1 0 0 / 0 0 0 0 / 0 0 0 0 / 0 1 0 0") (padded "13 1 4 0")
    -- Case (e): agent 1 three times; the third move changes nothing and is accepted (SPECIFICATION 4.10)
    ∷ case (book ++ padded "3 2 0 0 / 1 0 0 0 / 1 0 0 0 / 1 0 0 0 / 0 1 0 0 / 1 2 0 0") (padded "0 0 0 2 / 0 7 0 2 / 1 6 0 2")
    -- Case (f): 1 plus 1
    ∷ case (f_set_to "1 4 0 0 / 1 4 0 0 / 11 1 2 0") (padded "0 0 0 1 / 1 0 0 5")
    -- Case (g): 2 plus 1 is undef, the default of f
    ∷ case (f_set_to "1 5 0 0 / 1 4 0 0 / 11 1 2 0") (padded "0 0 0 0")
    -- Case (h): 0 minus 1 is undef, the default of f
    ∷ case (f_set_to "1 3 0 0 / 1 4 0 0 / 12 1 2 0") (padded "0 0 0 0")
    -- Case (i): undef equal undef is true
    ∷ case (f_set_to "1 0 0 0 / 1 0 0 0 / 7 1 2 0") (padded "0 0 0 1 / 1 0 0 2")
    -- Case (j): false and undef is undef, the default of f
    ∷ case (f_set_to "1 1 0 0 / 1 0 0 0 / 9 1 2 0") (padded "0 0 0 0")
    -- Case (k): f := g beside g := f
    ∷ case
    (padded
    "6 6 3 7 / 1 2 0 0 / 1 3 0 0 / 0 2 0 0 / 0 2 0 0 / 4 1 0 0 / 4 2 0 0 / 21 0 1 0 / 4 2 0 0 / 4 1 0 0 / 21 3 4 0 / 22 2 5 0 / 6 3 0 0 / 1 0 0 3 / 2 0 0 4 / 1 0 0 0 / 0 0 0 0")
    (padded "0 0 0 2 / 1 0 0 4 / 2 0 0 3")
    -- Case (l): a release of 6
    ∷ case
    (padded
    "8 6 3 3 / 1 3 0 0 / 1 3 0 0 / 1 3 0 0 / 1 2 0 0 / 2 0 0 0 / 27 0 0 0 / 25 0 1 1 / 2 3 0 0 / 0 7 0 2 / 1 6 0 2 / 2 6 0 4 / 1 0 0 0 / 0 0 0 0")
    (padded "0 0 0 2 / 0 6 0 2 / 0 7 0 2")
    ∷ []

-- what stands past the end of the table
abbrev pub no_case : Case (List ℕ)
no_case = case [] []
