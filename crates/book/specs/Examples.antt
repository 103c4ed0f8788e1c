-- Books and what their check answers, as a table under the lemma of Quoted: the order of the refusals, and examples of each (SPECIFICATION 3).
-- proofs/Examples shows by computation that the table is right.
use Rattle.std.specs.Prelude.{List, [], ◌∷◌, ℕ}
use Rattle.text.specs.Words.{Answer}
use Rattle.text.specs.Words.{answer_of}
use Rattle.text.specs.Quoted.{padded, Case, case}
use Rattle.book.specs.Check.{check_book}

-- an answer as its three numbers
abbrev pub triple : Answer → List ℕ
triple a = a.number ∷ a.p ∷ a.q ∷ []

-- what the check of a book answers
abbrev pub asked : List ℕ → List ℕ
asked text = triple (answer_of (check_book text))

-- books with their answers
unfoldable pub examples : List (Case (List ℕ))
examples =
    -- accepted: for all v in function 1 release v, with two contents lines
    case (padded "8 6 2 3 / 1 2 0 0 / 1 3 0 0 / 1 3 0 0 / 2 0 0 0 / 27 0 0 0 / 25 0 1 1 / 2 3 0 0 / 0 7 0 2 / 1 6 0 2") (0 ∷ 0 ∷ 0 ∷ [])
    -- Refusal 1 before 3: the second header line is missing, and the first is out of bounds
    ∷ case (padded "3 4 1 1") (1 ∷ 1 ∷ 0 ∷ [])
    -- Refusal 3 before 1: the header is out of bounds, and nothing follows it
    ∷ case (padded "3 4 1 1 / 1 0 0 0") (3 ∷ 0 ∷ 0 ∷ [])
    -- Refusal 1 before 4: the agent line is missing, and the function line is at fault
    ∷ case (padded "8 6 1 1 / 1 0 0 0 / 3 3 0 0 / 20 0 0 0") (1 ∷ 4 ∷ 0 ∷ [])
    -- Refusal 1 before 4: a line is surplus, and the function line is at fault
    ∷ case (padded "8 6 1 1 / 1 0 0 0 / 3 3 0 0 / 20 0 0 0 / 0 3 0 0 / 0 0 0 0") (1 ∷ 5 ∷ 0 ∷ [])
    -- Refusal 4 before 3 for L: function 1 has kind 4, and L would be over 65,536
    ∷ case (padded "300 6 2 1 / 1 0 0 0 / 1 3 0 0 / 2 4 0 0 / 14 0 0 0 / 0 3 0 0") (4 ∷ 1 ∷ 0 ∷ [])
    -- Refusal 3 for L before 5: L is over 65,536, and node 0 has kind 14
    ∷ case (padded "300 6 2 1 / 1 0 0 0 / 1 3 0 0 / 2 2 0 0 / 14 0 0 0 / 0 3 0 0") (3 ∷ 8 ∷ 0 ∷ [])
    -- Refusal 5 before 6: node 2 has kind 14, and node 0 is not used
    ∷ case (padded "8 6 1 3 / 1 0 0 0 / 1 3 0 0 / 20 0 0 0 / 20 0 0 0 / 14 0 0 0 / 1 3 0 0") (5 ∷ 2 ∷ 0 ∷ [])
    -- Refusal 6, use before binding: node 2 is not used, and node 0 is an unbound variable
    ∷ case (padded "8 6 1 3 / 1 0 0 0 / 1 3 0 0 / 2 0 0 0 / 27 0 0 0 / 20 0 0 0 / 1 3 0 0") (6 ∷ 2 ∷ 0 ∷ [])
    -- Refusal 6 before 7: node 0 is an unbound variable, and the agent's element is a label
    ∷ case (padded "8 6 1 2 / 1 0 0 0 / 1 3 0 0 / 2 0 0 0 / 27 0 0 0 / 1 7 0 0") (6 ∷ 0 ∷ 0 ∷ [])
    -- Refusal 7 before 8: the agent's element is a label, and a contents line states false
    ∷ case (padded "8 6 1 1 / 1 1 0 0 / 1 3 0 0 / 20 0 0 0 / 0 7 0 0 / 0 7 0 1") (7 ∷ 0 ∷ 0 ∷ [])
    -- Refusal 8: label 7 is on the roll and is an argument; the trace is at fault and not the Reserve line
    ∷ case (padded "8 6 2 1 / 1 2 0 0 / 1 3 0 0 / 1 2 0 0 / 20 0 0 0 / 0 3 0 0 / 0 7 0 2 / 1 7 0 4") (8 ∷ 7 ∷ 0 ∷ [])
    -- Refusal 8: label 7 is on the roll and is a value; the trace is at fault and not the Reserve line
    ∷ case (padded "8 6 2 1 / 1 2 0 0 / 1 3 0 0 / 1 2 0 0 / 20 0 0 0 / 0 3 0 0 / 0 7 0 2 / 1 6 0 7") (8 ∷ 7 ∷ 0 ∷ [])
    -- accepted: a choose in the c of two foralls
    ∷ case (padded "8 6 2 4 / 1 0 0 0 / 1 3 0 0 / 1 3 0 0 / 20 0 0 0 / 28 2 1 0 / 25 1 1 1 / 25 0 1 2 / 3 4 0 0") (0 ∷ 0 ∷ 0 ∷ [])
    -- Refusal 6: a choose of a variable that a forall around it binds
    ∷ case (padded "8 6 2 4 / 1 0 0 0 / 1 3 0 0 / 1 3 0 0 / 20 0 0 0 / 28 1 1 0 / 25 1 1 1 / 25 0 1 2 / 3 4 0 0") (6 ∷ 1 ∷ 0 ∷ [])
    -- Refusal 5: a choose in Reserve
    ∷ case (padded "8 6 2 2 / 1 0 0 0 / 1 3 0 0 / 1 3 0 0 / 20 0 0 0 / 28 0 0 0 / 1 4 0 0") (5 ∷ 1 ∷ 0 ∷ [])
    -- accepted: a choose in a static relation
    ∷ case (padded "8 6 2 2 / 1 0 0 0 / 1 3 0 0 / 1 1 0 0 / 20 0 0 0 / 28 0 1 0 / 1 4 0 0") (0 ∷ 0 ∷ 0 ∷ [])
    -- Refusal 5: a choose in a function that is no relation
    ∷ case (padded "8 6 2 2 / 1 0 0 0 / 1 3 0 0 / 1 2 0 0 / 20 0 0 0 / 28 0 1 0 / 1 4 0 0") (5 ∷ 1 ∷ 0 ∷ [])
    -- Refusal 5: a choose in a relation of two arguments
    ∷ case (padded "8 6 2 2 / 1 0 0 0 / 1 3 0 0 / 2 3 0 0 / 20 0 0 0 / 28 0 1 0 / 1 4 0 0") (5 ∷ 1 ∷ 0 ∷ [])
    -- Refusal 5: there is no kind 29
    ∷ case (padded "8 6 2 2 / 1 0 0 0 / 1 3 0 0 / 1 3 0 0 / 20 0 0 0 / 29 0 1 0 / 1 4 0 0") (5 ∷ 1 ∷ 0 ∷ [])
    ∷ []
