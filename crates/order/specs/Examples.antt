-- Logs with choices, and what their checks answer: the refusal, or each move's agent and picks, as a table under the lemma of Quoted.
-- proofs/Examples shows by computation that the table is right.
use Rattle.std.specs.Prelude.{List, [], ◌∷◌, ◌++◌, ℕ, length}
use Rattle.text.specs.Words.{Checked, good, refused}
use Rattle.text.specs.Quoted.{padded, Case, case}
use Rattle.book.specs.Book.{Program, no_agent}
use Rattle.engine.specs.Move.{Input}
use Rattle.order.specs.Log.{Log, check_log}

-- a program of 8 elements and two agents: the checks of a log use nothing else of a program
unfoldable pub small : Program
small = record { E = 8; P = 6; functions = []; nodes = []; agents = no_agent ∷ no_agent ∷ [] }

-- of each move its agent, how many picks it has, and the picks
abbrev pub told : List Input → List ℕ
told [] = []
told (i ∷ is) = i.agent ∷ length i.picks ∷ i.picks ++ told is

-- a refusal as its three numbers; of a log that passes 0, then its moves
abbrev pub answer : Checked Log → List ℕ
answer (refused n p q) = n ∷ p ∷ q ∷ []
answer (good g) = 0 ∷ told g.moves

-- what the checks of a log answer
abbrev pub asked : List ℕ → List ℕ
asked text = answer (check_log small text)

-- logs with their answers
unfoldable pub examples : List (Case (List ℕ))
examples =
    -- accepted: each move has its own picks in order, the same one twice too; move 1 has none
    case (padded "3 2 4 0 / 0 0 0 0 / 1 0 0 0 / 0 0 0 0 / 0 1 0 0 / 1 2 0 0 / 0 7 0 0 / 0 3 0 0 / 2 5 0 0 / 2 5 0 0")
    (0 ∷ (0 ∷ 2 ∷ 7 ∷ 3 ∷ []) ++ ((1 ∷ 0 ∷ []) ++ (0 ∷ 2 ∷ 5 ∷ 5 ∷ [])))
    -- accepted: one move without picks
    ∷ case (padded "1 0 0 0 / 1 0 0 0") (0 ∷ 1 ∷ 0 ∷ [])
    -- Refusal 9: a pick that is no element
    ∷ case (padded "1 0 1 0 / 0 0 0 0 / 0 8 0 0") (9 ∷ 2 ∷ 0 ∷ [])
    -- Refusal 9: a choice line of a move that there is not
    ∷ case (padded "1 0 1 0 / 0 0 0 0 / 1 6 0 0") (9 ∷ 2 ∷ 0 ∷ [])
    -- Refusal 9: a choice line whose move is below that of the line before
    ∷ case (padded "2 0 2 0 / 0 0 0 0 / 1 0 0 0 / 1 6 0 0 / 0 6 0 0") (9 ∷ 4 ∷ 0 ∷ [])
    -- Refusal 9: the third field of a choice line is not 0
    ∷ case (padded "1 0 1 0 / 0 0 0 0 / 0 6 1 0") (9 ∷ 2 ∷ 0 ∷ [])
    -- Refusal 9: the fourth field of a choice line is not 0
    ∷ case (padded "1 0 1 0 / 0 0 0 0 / 0 6 0 1") (9 ∷ 2 ∷ 0 ∷ [])
    -- Refusal 9: 257 choice lines
    ∷ case (padded "1 0 257 0") (9 ∷ 0 ∷ 0 ∷ [])
    -- Refusal 9: the fourth field of the header is not 0
    ∷ case (padded "1 0 0 1 / 0 0 0 0") (9 ∷ 0 ∷ 0 ∷ [])
    -- Refusal 1 before 9: the choice line is missing, and the agent is none of the book
    ∷ case (padded "1 0 1 0 / 5 0 0 0") (1 ∷ 2 ∷ 1 ∷ [])
    -- Refusal 1 before 9: a line is surplus, and the agent is none of the book
    ∷ case (padded "1 0 1 0 / 5 0 0 0 / 0 6 0 0 / 0 6 0 0") (1 ∷ 3 ∷ 1 ∷ [])
    -- Refusal 9: the pair line at fault comes before the choice line at fault
    ∷ case (padded "2 1 1 0 / 0 0 0 0 / 1 0 0 0 / 1 1 0 0 / 0 8 0 0") (9 ∷ 3 ∷ 0 ∷ [])
    -- Refusal 9 before 10: a choice line is at fault, and two moves of one agent are unordered
    ∷ case (padded "2 0 1 0 / 0 0 0 0 / 0 0 0 0 / 0 8 0 0") (9 ∷ 3 ∷ 0 ∷ [])
    ∷ []
