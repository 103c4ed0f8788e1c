-- The answers and the label tallies of whole inputs (SPECIFICATION 4.11, 10.2), as a table under the lemma of Quoted. proofs/Tallies shows
-- by computation that the table is right.
use Rattle.std.specs.Prelude.{List, [], ◌∷◌, ◌++◌, ℕ}
use Rattle.text.specs.Words.{Answer}
use Rattle.text.specs.Words.{Checked, good, refused}
use Rattle.text.specs.Quoted.{padded, Case, case}
use Rattle.book.specs.Book.{Book}
use Rattle.engine.specs.declared.Tally.{Tally}
use Rattle.engine.specs.Operators.{quoted_numbers}
use Rattle.order.specs.Log.{Log}
use Rattle.order.specs.Run.{run_log}
use Rattle.report.specs.Report.{lines_written, check_input, input_tally}
use Rattle.report.specs.Cases.{book}
use Rattle.report.specs.Examples.{log, changed, book_with, four, unordered, both_released}

-- ---- what is asked

-- the answer to an input, by its checks: `rental` prints it first
abbrev pub answer_checked : Checked (Book × Log) → Answer
answer_checked (refused n p q) = record { number = n; p = p; q = q }
answer_checked (good x) = (run_log x.0 x.1).answer

-- an answer and a tally as numbers_of numbers: number, p and q, then the labels issued and those returned
abbrev pub numbers_of : Answer → Tally → List ℕ
numbers_of a t = a.number ∷ a.p ∷ a.q ∷ t.issued ∷ t.returned ∷ []

-- the answer to an input, and its label tally
abbrev pub answer_and_tally : List ℕ → List ℕ
answer_and_tally text = numbers_of (answer_checked (check_input text)) (input_tally text)

-- ---- books and logs

-- a log of one move of agent 0
abbrev pub one_move : List ℕ
one_move = padded "1 0 0 0 / 0 0 0 0"

-- a log of one move of agent 0 and one of agent 1 after it
abbrev pub one_after_other : List ℕ
one_after_other = padded "2 1 0 0 / 0 0 0 0 / 1 0 0 0 / 0 1 0 0"

-- import v0 into U beside import v0 into U, nodes 1 and 3; U is function 1; C contents lines follow
abbrev pub imports_two : ℕ → List ℕ
imports_two C =
    padded "8 6 2 5" ++ (lines_written (four 1 C 0 0 ∷ []) ++ padded "1 3 0 0 / 1 3 0 0 / 20 0 0 0 / 26 0 1 0 / 20 0 0 0 / 26 0 1 2 / 22 1 3 0 / 4 3 0 0")

-- agents 0 and 1 import v0 into U; U is function 1
abbrev pub both_import : List ℕ
both_import = padded "8 6 2 2 / 2 2 0 0 / 1 3 0 0 / 1 3 0 0 / 20 0 0 0 / 26 0 1 0 / 1 3 0 0 / 1 4 0 0 / 0 6 0 2 / 0 7 0 2"

-- agent 0 releases all of U, agent 1 imports v0 into U; U is function 1 and has 6, the only label
abbrev pub to_and_fro : List ℕ
to_and_fro = padded "7 6 2 5 / 2 1 0 0 / 1 3 0 0 / 1 3 0 0 / 2 0 0 0 / 27 0 0 0 / 25 0 1 1 / 20 0 0 0 / 26 0 1 3 / 2 3 0 0 / 4 4 0 0 / 1 6 0 2"

-- agent 0 imports v0 into U, agent 1 imports v0 into U and does U(v0) := false; U is function 1, and 6 and 7 are on the roll
abbrev pub import_clashes : List ℕ
import_clashes =
    padded
    "8 6 2 7 / 2 2 0 0 / 1 3 0 0 / 1 3 0 0 / 20 0 0 0 / 26 0 1 0 / 2 0 0 0 / 5 1 2 0 / 1 1 0 0 / 21 3 4 0 / 26 0 1 5 / 1 3 0 0 / 6 4 0 0 / 0 6 0 2 / 0 7 0 2"

-- import v0 into U and choose v1 in V do skip, nodes 2 and 1; U and V are functions 1 and 2, and V has 4
abbrev pub imports_then_chooses : List ℕ
imports_then_chooses =
    padded "8 6 3 3 / 1 2 0 0 / 1 3 0 0 / 1 3 0 0 / 1 3 0 0 / 20 0 0 0 / 28 1 2 0 / 26 0 1 1 / 2 3 0 0 / 0 7 0 2 / 2 4 0 2"

-- ---- the table

-- inputs with their answers and tallies
unfoldable pub tallies : List (Case (List ℕ))
tallies =
    -- Case (a): agent 0 imports, then agent 1 adds
    case (book ++ log) (quoted_numbers "0 0 0 / 1 0")
    -- Case (b), refusal 17: the tally of all moves
    ∷ case (book ++ unordered) (quoted_numbers "17 0 1 / 1 0")
    -- Case (c): no moves
    ∷ case (book ++ padded "0 0 0 0") (quoted_numbers "0 0 0 / 0 0")
    -- Case (d), refusal 13: the second move has no label, and the first counts
    ∷ case (book ++ padded "2 1 0 0 / 0 0 0 0 / 0 0 0 0 / 0 1 0 0") (quoted_numbers "13 1 4 / 1 0")
    -- Case (l): a release of 6
    ∷ case
    (padded
    "8 6 3 3 / 1 3 0 0 / 1 3 0 0 / 1 3 0 0 / 1 2 0 0 / 2 0 0 0 / 27 0 0 0 / 25 0 1 1 / 2 3 0 0 / 0 7 0 2 / 1 6 0 2 / 2 6 0 4 / 1 0 0 0 / 0 0 0 0")
    (quoted_numbers "0 0 0 / 0 1")
    -- a move with two imports
    ∷ case (imports_two 2 ++ (padded "0 6 0 2 / 0 7 0 2" ++ one_move)) (quoted_numbers "0 0 0 / 2 0")
    -- Refusal 13: a move whose second import has no label
    ∷ case (imports_two 1 ++ (padded "0 7 0 2" ++ one_move)) (quoted_numbers "13 0 3 / 0 0")
    -- two moves with an import each
    ∷ case (both_import ++ one_after_other) (quoted_numbers "0 0 0 / 2 0")
    -- Refusal 17: two unordered moves with an import each, which both count
    ∷ case (both_import ++ unordered) (quoted_numbers "17 0 1 / 2 0")
    -- an import for each element of V, which has 3 and 4: for all v0 in V import v1 into U do skip
    ∷ case
    (padded
    "8 6 3 3 / 1 4 0 0 / 1 3 0 0 / 1 3 0 0 / 1 3 0 0 / 20 0 0 0 / 26 1 1 0 / 25 0 2 1 / 2 3 0 0 / 0 6 0 2 / 0 7 0 2 / 2 3 0 2 / 2 4 0 2"
    ++ one_move)
    (quoted_numbers "0 0 0 / 2 0")
    -- an import into U of a label that is put into V too: import v0 into U do V(v0) := true
    ∷ case
    (padded
    "8 6 3 5 / 1 1 0 0 / 1 3 0 0 / 1 3 0 0 / 1 3 0 0 / 2 0 0 0 / 5 2 0 0 / 1 2 0 0 / 21 1 2 0 / 26 0 1 3 / 4 3 0 0 / 0 7 0 2" ++ one_move)
    (quoted_numbers "0 0 0 / 1 0")
    -- no import: U(6) is set to true, where s is 6
    ∷ case
    (padded "8 6 3 4 / 1 1 0 0 / 1 3 0 0 / 1 3 0 0 / 0 2 0 0 / 4 2 0 0 / 5 1 0 0 / 1 2 0 0 / 21 1 2 0 / 3 3 0 0 / 2 0 0 6" ++ one_move)
    (quoted_numbers "0 0 0 / 0 0")
    -- one label released twice by one move: release s beside release s
    ∷ case
    (padded "8 6 2 5 / 1 1 0 0 / 1 3 0 0 / 0 2 0 0 / 4 1 0 0 / 27 0 0 0 / 4 1 0 0 / 27 2 0 0 / 22 1 3 0 / 4 3 0 0 / 1 0 0 6" ++ one_move)
    (quoted_numbers "0 0 0 / 0 1")
    -- two labels released by one move: release s beside release t
    ∷ case
    (padded
    "8 6 3 5 / 1 2 0 0 / 1 3 0 0 / 0 2 0 0 / 0 2 0 0 / 4 1 0 0 / 27 0 0 0 / 4 2 0 0 / 27 2 0 0 / 22 1 3 0 / 4 3 0 0 / 1 0 0 6 / 2 0 0 7" ++ one_move)
    (quoted_numbers "0 0 0 / 0 2")
    -- a release of 6, which is an argument in U, f and g and held by s, f and g: all are cleared
    ∷ case
    (padded
    "7 6 5 2 / 1 7 0 0 / 1 3 0 0 / 0 2 0 0 / 1 3 0 0 / 1 2 0 0 / 2 2 0 0 / 4 1 0 0 / 27 0 0 0 / 1 3 0 0 / 1 0 0 6 / 2 6 0 2 / 3 3 0 6 / 3 6 0 4 / 4 3 6 4 / 4 6 4 3 / 4 6 6 6"
    ++ one_move)
    (quoted_numbers "0 0 0 / 0 1")
    -- a move that imports one label and releases another: import v0 into U do release s
    ∷ case
    (padded "8 6 3 3 / 1 2 0 0 / 1 3 0 0 / 1 3 0 0 / 0 2 0 0 / 4 2 0 0 / 27 0 0 0 / 26 0 1 1 / 2 3 0 0 / 0 7 0 2 / 2 0 0 6" ++ one_move)
    (quoted_numbers "0 0 0 / 1 1")
    -- the only label is released, imported again, and released again, each by a move
    ∷ case (to_and_fro ++ padded "3 2 0 0 / 0 0 0 0 / 1 0 0 0 / 0 0 0 0 / 0 1 0 0 / 1 2 0 0") (quoted_numbers "0 0 0 / 1 2")
    -- Refusal 17: two unordered releases that both clear own(7), and both count
    ∷ case (both_released 3 ++ (padded "1 0 0 7 / 2 0 0 6 / 3 7 0 6" ++ unordered)) (quoted_numbers "17 0 1 / 0 2")
    -- Refusal 11: a relation is set to a number after an import: import v0 into U do U(v0) := 0
    ∷ case
    (padded "8 6 2 5 / 1 1 0 0 / 1 3 0 0 / 1 3 0 0 / 2 0 0 0 / 5 1 0 0 / 1 3 0 0 / 21 1 2 0 / 26 0 1 3 / 4 3 0 0 / 0 7 0 2" ++ one_move)
    (quoted_numbers "11 0 3 / 0 0")
    -- Refusal 12: a move releases the label that it imports, which is on the roll before it: import v0 into U do release v0
    ∷ case
    (padded "8 6 2 3 / 1 1 0 0 / 1 3 0 0 / 1 3 0 0 / 2 0 0 0 / 27 0 0 0 / 26 0 1 1 / 2 3 0 0 / 0 7 0 2" ++ one_move)
    (quoted_numbers "12 0 1 / 0 0")
    -- Refusal 12: two releases of label 6, and the first counts
    ∷ case (both_released 2 ++ (padded "1 0 0 6 / 2 0 0 6" ++ unordered)) (quoted_numbers "12 1 3 / 0 1")
    -- Refusal 15: a move imports and clashes: the move before it counts, and its own import does not
    ∷ case (import_clashes ++ one_after_other) (quoted_numbers "15 1 15 / 1 0")
    -- Refusal 15: the first move imports and clashes
    ∷ case (import_clashes ++ padded "1 0 0 0 / 1 0 0 0") (quoted_numbers "15 0 14 / 0 0")
    -- Refusal 15: s is set to a label that the same move releases: s := t beside release t
    ∷ case
    (padded
    "8 6 3 6 / 1 1 0 0 / 1 3 0 0 / 0 2 0 0 / 0 2 0 0 / 4 1 0 0 / 4 2 0 0 / 21 0 1 0 / 4 2 0 0 / 27 3 0 0 / 22 2 4 0 / 5 3 0 0 / 2 0 0 6" ++ one_move)
    (quoted_numbers "15 0 8 / 0 0")
    -- accepted: an import, and the pick is in the universe
    ∷ case (imports_then_chooses ++ padded "1 0 1 0 / 0 0 0 0 / 0 4 0 0") (quoted_numbers "0 0 0 / 1 0")
    -- Refusal 18: an import, and the pick is not in the universe
    ∷ case (imports_then_chooses ++ padded "1 0 1 0 / 0 0 0 0 / 0 3 0 0") (quoted_numbers "18 0 1 / 0 0")
    -- Refusal 19: an import, and no pick
    ∷ case (imports_then_chooses ++ one_move) (quoted_numbers "19 0 1 / 0 0")
    -- Refusal 19, at the root: an import, and a pick is left over
    ∷ case (imports_then_chooses ++ padded "1 0 2 0 / 0 0 0 0 / 0 4 0 0 / 0 4 0 0") (quoted_numbers "19 0 2 / 0 0")
    -- Refusal 1: a surplus line
    ∷ case (book ++ (log ++ log)) (quoted_numbers "1 4 1 / 0 0")
    -- Refusal 2: L is over 2,048
    ∷ case
    (padded "1025 6 2 2 / 1 1 0 0 / 1 3 0 0 / 1 3 0 0 / 20 0 0 0 / 26 0 1 0 / 1 3 0 0 / 0 6 0 2" ++ one_move)
    (quoted_numbers "2 2050 0 / 0 0")
    -- Refusal 3: E is over 10,000
    ∷ case (book_with 0 "10001 6 3 13") (quoted_numbers "3 0 0 / 0 0")
    -- Refusal 9: no such agent
    ∷ case (book ++ changed log 2 (padded "2 0 0 0")) (quoted_numbers "9 2 0 / 0 0")
    -- Refusal 10: two moves of one agent are unordered
    ∷ case (book ++ padded "2 0 0 0 / 0 0 0 0 / 0 0 0 0") (quoted_numbers "10 0 1 / 0 0")
    ∷ []

-- what stands past the end of the table
abbrev pub no_tally : Case (List ℕ)
no_tally = case [] []
