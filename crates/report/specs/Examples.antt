-- What `rental` prints: one example and more for each refusal but 16, which is never given, for moves that change nothing, choices and retirements, and the
-- limits (SPECIFICATION 4.6, 4.10, 5.2, 8.1, 11.1), as tables under the lemma of Quoted. proofs/Examples shows by computation that they are right.
use Rattle.std.specs.Prelude.{List, [], ◌∷◌, ◌++◌, ℕ, suc, ◌*◌, ◌/◌, ◌%◌, take, drop, replicate}
use Prim.Native.String.{String}
use Rattle.text.specs.declared.Line.{Line}
use Rattle.text.specs.Words.{table}
use Rattle.text.specs.Text.{line_length}
use Rattle.text.specs.Quoted.{bytes, padded, Case, case}
use Rattle.report.specs.Report.{lines_written}
use Rattle.report.specs.Cases.{book}

-- the log of case (a)
abbrev pub log : List ℕ
log = padded "2 1 0 0 / 0 0 0 0 / 1 0 0 0 / 0 1 0 0"

-- a text with line i replaced, which may be by no line or by several
abbrev pub changed : List ℕ → ℕ → List ℕ → List ℕ
changed text i new = take (line_length * i) text ++ (new ++ drop (line_length * suc i) text)

-- the specification's book with line i replaced, and its log
abbrev pub book_with : ℕ → String → List ℕ
book_with i new = changed book i (padded new) ++ log

-- a line from its four numbers
abbrev pub four : ℕ → ℕ → ℕ → ℕ → Line
four a b c d = record { a = a; b = b; c = c; d = d }

-- the contents lines of a universe that has 16 elements
abbrev pub sixteen : List ℕ
sixteen = lines_written (table (λ i. four 1 i 0 2) 16)

-- a book whose rule sets a binary function at each pair of 16 elements, and a log of one move: 256 instructions
unfoldable pub squares : List ℕ
squares =
    padded "17 17 3 7 / 1 16 0 0 / 1 3 0 0 / 1 3 0 0 / 2 2 0 0 / 2 0 0 0 / 2 1 0 0 / 6 2 0 1 / 1 3 0 0 / 21 2 3 0 / 25 1 1 4 / 25 0 1 5 / 6 3 0 0"
    ++ (sixteen ++ padded "1 0 0 0 / 0 0 0 0")

-- a book whose rule sets a binary function at each pair of 16 elements, and one location more, and a log of one move: 257 instructions
unfoldable pub squares_and_one : List ℕ
squares_and_one =
    padded
    "17 17 4 11 / 1 16 0 0 / 1 3 0 0 / 1 3 0 0 / 2 2 0 0 / 0 2 0 0 / 2 0 0 0 / 2 1 0 0 / 6 2 0 1 / 1 3 0 0 / 21 2 3 0 / 25 1 1 4 / 25 0 1 5 / 4 3 0 0 / 1 3 0 0 / 21 7 8 0 / 22 6 9 0 / 10 3 0 0"
    ++ (sixteen ++ padded "1 0 0 0 / 0 0 0 0")

-- what is printed for the 256 instructions: the universe, and the function at each pair
abbrev pub squares_end : List ℕ
squares_end = lines_written (four 0 0 0 272 ∷ (table (λ i. four 1 i 0 2) 16 ++ table (λ i. four 2 (i / 16) (i % 16) 3) 256))

-- a book with a counter, and a log of n + 1 moves that each add one to it, each after the one before
unfoldable pub counted : ℕ → List ℕ
counted n =
    padded "80 80 2 5 / 1 1 0 0 / 1 3 0 0 / 0 2 0 0 / 4 1 0 0 / 4 1 0 0 / 1 4 0 0 / 11 1 2 0 / 21 0 3 0 / 4 3 0 0 / 1 0 0 3"
    ++ (lines_written (four (suc n) n 0 0 ∷ [])
    ++ (lines_written (replicate (suc n) (four 0 0 0 0)) ++ lines_written (table (λ i. four i (suc i) 0 0) n)))

-- inputs with what is printed for them
unfoldable pub examples : List (Case (List ℕ))
examples =
    -- Refusal 1: a leading zero
    case (bytes "     8    07     3    13\n" ++ drop line_length (book ++ log)) (padded "1 0 0 0")
    -- Refusal 1: a blank field
    ∷ case (bytes "     8           3    13\n" ++ drop line_length (book ++ log)) (padded "1 0 0 0")
    -- Refusal 1: a tab
    ∷ case (bytes "     8\t    6     3    13\n" ++ drop line_length (book ++ log)) (padded "1 0 0 0")
    -- Refusal 1: a line cut short
    ∷ case (take 520 (book ++ log)) (padded "1 20 0 0")
    -- Refusal 1: no line at all
    ∷ case [] (padded "1 0 0 0")
    -- Refusal 1: the log is missing
    ∷ case book (padded "1 0 1 0")
    -- Refusal 1: a surplus line
    ∷ case (book ++ (log ++ log)) (padded "1 4 1 0")
    -- Refusal 1 before 3: the second header line is missing, and the first is out of bounds
    ∷ case (padded "3 4 1 1") (padded "1 1 0 0")
    -- Refusal 2: L is over 2,048
    ∷ case (padded "1025 6 2 1 / 1 0 0 0 / 1 3 0 0 / 1 2 0 0 / 20 0 0 0 / 0 3 0 0 / 0 0 0 0") (padded "2 2050 0 0")
    -- Refusal 3: E is over 10,000
    ∷ case (book_with 0 "10001 6 3 13") (padded "3 0 0 0")
    -- Refusal 3: P is over E
    ∷ case (book_with 0 "8 9 3 13") (padded "3 1 0 0")
    -- Refusal 3: a field without a use is not 0
    ∷ case (book_with 1 "2 3 1 0") (padded "3 6 0 0")
    -- Refusal 3: L is over 65,536
    ∷ case (padded "300 6 2 1 / 1 0 0 0 / 1 3 0 0 / 2 2 0 0 / 20 0 0 0 / 0 3 0 0 / 0 0 0 0") (padded "3 8 0 0")
    -- Refusal 4: arity 3
    ∷ case (book_with 3 "3 3 0 0") (padded "4 1 0 0")
    -- Refusal 4: Reserve is no relation
    ∷ case (book_with 2 "1 2 0 0") (padded "4 0 0 0")
    -- Refusal 5: there is no kind 14
    ∷ case (book_with 5 "14 0 0 0") (padded "5 0 0 0")
    -- Refusal 5: a node names Reserve
    ∷ case (book_with 6 "5 0 0 0") (padded "5 1 0 0")
    -- Refusal 5: a field without a use is not 0
    ∷ case (book_with 5 "2 0 0 1") (padded "5 0 0 0")
    -- Refusal 6: a variable is not bound
    ∷ case (padded "8 6 1 2 / 1 0 0 0 / 1 3 0 0 / 2 0 0 0 / 27 0 0 0 / 1 3 0 0 / 0 0 0 0") (padded "6 0 0 0")
    -- Refusal 6: a node is used twice
    ∷ case (book_with 8 "21 1 1 0") (padded "6 1 0 0")
    -- Refusal 6: a variable is bound again
    ∷ case
    (padded "8 6 2 6 / 1 0 0 0 / 1 3 0 0 / 1 3 0 0 / 2 0 0 0 / 5 1 0 0 / 1 1 0 0 / 21 1 2 0 / 25 0 1 3 / 25 0 1 4 / 5 3 0 0 / 0 0 0 0")
    (padded "6 4 0 0")
    -- Refusal 6: a third forall
    ∷ case
    (padded "8 6 2 6 / 1 0 0 0 / 1 3 0 0 / 1 3 0 0 / 20 0 0 0 / 25 0 1 0 / 25 1 1 1 / 25 2 1 2 / 20 0 0 0 / 22 3 4 0 / 5 3 0 0 / 0 0 0 0")
    (padded "6 1 0 0")
    -- Refusal 6: depth 33
    ∷ case
    (padded "8 6 1 33 / 1 0 0 0 / 1 3 0 0 / 1 0 0 0" ++ (lines_written (table (λ i. four 8 i 0 0) 31) ++ padded "27 31 0 0 / 32 3 0 0 / 0 0 0 0"))
    (padded "6 0 0 0")
    -- accepted: depth 32
    ∷ case
    (padded "8 6 1 32 / 1 0 0 0 / 1 3 0 0 / 1 0 0 0" ++ (lines_written (table (λ i. four 8 i 0 0) 30) ++ padded "27 30 0 0 / 31 3 0 0 / 0 0 0 0"))
    (padded "0 0 0 0")
    -- Refusal 7: an agent's element is a label
    ∷ case (book_with 19 "12 6 0 0") (padded "7 1 0 0")
    -- Refusal 7: the agents' elements do not ascend
    ∷ case (book_with 19 "12 4 0 0") (padded "7 1 0 0")
    -- Refusal 8: a contents line states the default
    ∷ case (book_with 22 "2 6 0 0") (padded "8 22 0 0")
    -- Refusal 8: a label on the roll is an argument
    ∷ case (book_with 22 "2 7 0 4") (padded "8 22 0 0")
    -- Refusal 8: a label on the roll is a value
    ∷ case (book_with 22 "2 6 0 7") (padded "8 22 0 0")
    -- Refusal 8: a static function holds a label
    ∷ case (padded "8 6 2 1 / 1 1 0 0 / 1 3 0 0 / 1 0 0 0 / 20 0 0 0 / 0 3 0 0 / 1 3 0 6 / 0 0 0 0") (padded "8 6 0 0")
    -- Refusal 8: two contents lines of one location
    ∷ case (book_with 21 "0 7 0 2") (padded "8 21 0 0")
    -- Refusal 9: a pair 1 1
    ∷ case (book ++ changed log 3 (padded "1 1 0 0")) (padded "9 3 0 0")
    -- Refusal 9: no such agent
    ∷ case (book ++ changed log 2 (padded "2 0 0 0")) (padded "9 2 0 0")
    -- Refusal 9 before 1: 65 moves, and the lines that the header calls for are missing
    ∷ case (book ++ padded "65 0 0 0") (padded "9 0 0 0")
    -- Refusal 10: two moves of one agent are unordered
    ∷ case (book ++ padded "2 0 0 0 / 0 0 0 0 / 0 0 0 0") (padded "10 0 1 0")
    -- Refusal 11: a relation is set to a number
    ∷ case (padded "8 6 2 4 / 1 0 0 0 / 1 3 0 0 / 1 3 0 0 / 1 5 0 0 / 5 1 0 0 / 1 3 0 0 / 21 1 2 0 / 3 3 0 0 / 1 0 0 0 / 0 0 0 0") (padded "11 0 3 0")
    -- Refusal 12: a permanent element is released
    ∷ case (padded "8 6 1 2 / 1 0 0 0 / 1 3 0 0 / 1 0 0 0 / 27 0 0 0 / 1 3 0 0 / 1 0 0 0 / 0 0 0 0") (padded "12 0 1 0")
    -- Refusal 13: the third import of a move, where two labels are free
    ∷ case
    (padded
    "8 6 2 6 / 1 2 0 0 / 1 3 0 0 / 1 3 0 0 / 20 0 0 0 / 26 0 1 0 / 26 1 1 1 / 26 2 1 2 / 20 0 0 0 / 22 3 4 0 / 5 3 0 0 / 0 6 0 2 / 0 7 0 2 / 1 0 0 0 / 0 0 0 0")
    (padded "13 0 1 0")
    -- Refusal 15: one location is set to two values
    ∷ case
    (padded
    "8 6 2 7 / 1 0 0 0 / 1 3 0 0 / 0 2 0 0 / 4 1 0 0 / 1 3 0 0 / 21 0 1 0 / 4 1 0 0 / 1 4 0 0 / 21 3 4 0 / 22 2 5 0 / 6 3 0 0 / 1 0 0 0 / 0 0 0 0")
    (padded "15 0 8 0")
    -- Refusal 15: a location is set to a label that the same move releases
    ∷ case
    (padded
    "8 6 3 6 / 1 1 0 0 / 1 3 0 0 / 0 2 0 0 / 0 2 0 0 / 4 2 0 0 / 4 1 0 0 / 21 0 1 0 / 4 1 0 0 / 27 3 0 0 / 22 2 4 0 / 5 3 0 0 / 1 0 0 6 / 1 0 0 0 / 0 0 0 0")
    (padded "15 0 9 0")
    -- Refusal 17: unordered moves touch
    ∷ case (book ++ padded "2 0 0 0 / 0 0 0 0 / 1 0 0 0") (padded "17 0 1 0")
    -- accepted: a rule that does nothing (SPECIFICATION 4.10)
    ∷ case (padded "8 6 1 1 / 1 0 0 0 / 1 3 0 0 / 20 0 0 0 / 0 3 0 0 / 1 0 0 0 / 0 0 0 0") (padded "0 0 0 0")
    -- Refusal 17: two unordered moves do s := 3, where s is 3 already
    ∷ case
    (padded
    "8 6 2 6 / 2 1 0 0 / 1 3 0 0 / 0 2 0 0 / 4 1 0 0 / 1 3 0 0 / 21 0 1 0 / 4 1 0 0 / 1 3 0 0 / 21 3 4 0 / 2 3 0 0 / 5 4 0 0 / 1 0 0 3 / 2 0 0 0 / 0 0 0 0 / 1 0 0 0")
    (padded "17 0 1 0")
    -- accepted: a release beside a move that does nothing
    ∷ case
    (padded "8 6 2 3 / 2 1 0 0 / 1 3 0 0 / 0 2 0 0 / 4 1 0 0 / 27 0 0 0 / 20 0 0 0 / 1 3 0 0 / 2 4 0 0 / 1 0 0 6 / 2 0 0 0 / 0 0 0 0 / 1 0 0 0")
    (padded "0 0 0 1 / 0 6 0 2")
    -- accepted: a release beside s := s
    ∷ case
    (padded
    "8 6 3 5 / 2 1 0 0 / 1 3 0 0 / 0 2 0 0 / 0 2 0 0 / 4 1 0 0 / 27 0 0 0 / 4 2 0 0 / 4 2 0 0 / 21 2 3 0 / 1 3 0 0 / 4 4 0 0 / 1 0 0 6 / 2 0 0 0 / 0 0 0 0 / 1 0 0 0")
    (padded "0 0 0 1 / 0 6 0 2")
    -- Refusal 9: 65 moves
    ∷ case (counted 64) (padded "9 0 0 0")
    ∷ []

-- ---- choices (change F-2)

-- choose v0 in U do s := v0, node 3; U is function 1, s is function 2
abbrev pub chooses : List ℕ
chooses =
    padded
    "8 6 3 4 / 1 3 0 0 / 1 3 0 0 / 1 3 0 0 / 0 2 0 0 / 4 2 0 0 / 2 0 0 0 / 21 0 1 0 / 28 0 1 2 / 3 4 0 0 / 0 7 0 2 / 1 3 0 2 / 1 6 0 2"

-- choose v0 in U do s := v0, node 3; U is function 1 and empty, s is function 2
abbrev pub chooses_of_none : List ℕ
chooses_of_none = padded "8 6 3 4 / 1 0 0 0 / 1 3 0 0 / 1 3 0 0 / 0 2 0 0 / 4 2 0 0 / 2 0 0 0 / 21 0 1 0 / 28 0 1 2 / 3 4 0 0"

-- choose v0 in U do choose v1 in U do (s := v0 beside t := v1), nodes 8 and 7
abbrev pub chooses_twice : List ℕ
chooses_twice =
    padded
    "8 6 4 9 / 1 2 0 0 / 1 3 0 0 / 1 3 0 0 / 0 2 0 0 / 0 2 0 0 / 4 2 0 0 / 2 0 0 0 / 21 0 1 0 / 4 3 0 0 / 2 1 0 0 / 21 3 4 0 / 22 2 5 0 / 28 1 1 6 / 28 0 1 7 / 8 4 0 0 / 1 3 0 2 / 1 6 0 2"

-- for all v0 in U choose v1 in U do f(v0) := v1; the choose is node 4, the forall node 5
abbrev pub chooses_for_all : List ℕ
chooses_for_all =
    padded "8 6 3 6 / 1 2 0 0 / 1 3 0 0 / 1 3 0 0 / 1 2 0 0 / 2 0 0 0 / 5 2 0 0 / 2 1 0 0 / 21 1 2 0 / 28 1 1 3 / 25 0 1 4 / 5 4 0 0 / 1 3 0 2 / 1 6 0 2"

-- s := 3 beside s := 4, node 6
abbrev pub clashing : List ℕ
clashing = padded "8 6 2 7 / 1 0 0 0 / 1 3 0 0 / 0 2 0 0 / 4 1 0 0 / 1 3 0 0 / 21 0 1 0 / 4 1 0 0 / 1 4 0 0 / 21 3 4 0 / 22 2 5 0 / 6 4 0 0"

-- agent 0 chooses from U, which has 3, 4 and 6, and sets s; agent 1 takes 4 out of U
abbrev pub beside_four : List ℕ
beside_four =
    padded
    "8 6 3 8 / 2 3 0 0 / 1 3 0 0 / 1 3 0 0 / 0 2 0 0 / 4 2 0 0 / 2 0 0 0 / 21 0 1 0 / 28 0 1 2 / 1 4 0 0 / 5 1 4 0 / 1 1 0 0 / 21 5 6 0 / 3 3 0 0 / 7 4 0 0 / 1 3 0 2 / 1 4 0 2 / 1 6 0 2"

-- agent 0 chooses from U, which has 3, 4 and 6, and sets s; agent 1 takes 3 out of U
abbrev pub beside_three : List ℕ
beside_three =
    padded
    "8 6 3 8 / 2 3 0 0 / 1 3 0 0 / 1 3 0 0 / 0 2 0 0 / 4 2 0 0 / 2 0 0 0 / 21 0 1 0 / 28 0 1 2 / 1 3 0 0 / 5 1 4 0 / 1 1 0 0 / 21 5 6 0 / 3 3 0 0 / 7 4 0 0 / 1 3 0 2 / 1 4 0 2 / 1 6 0 2"

-- inputs with choices, with what is printed for them
unfoldable pub choices : List (Case (List ℕ))
choices =
    -- accepted: the pick is in the universe
    case (chooses ++ padded "1 0 1 0 / 0 0 0 0 / 0 6 0 0") (padded "0 0 0 4 / 0 7 0 2 / 1 3 0 2 / 1 6 0 2 / 2 0 0 6")
    -- Refusal 18: the pick is a label on the roll
    ∷ case (chooses ++ padded "1 0 1 0 / 0 0 0 0 / 0 7 0 0") (padded "18 0 3 0")
    -- Refusal 18: the pick is not in the universe
    ∷ case (chooses ++ padded "1 0 1 0 / 0 0 0 0 / 0 4 0 0") (padded "18 0 3 0")
    -- Refusal 19: no pick
    ∷ case (chooses ++ padded "1 0 0 0 / 0 0 0 0") (padded "19 0 3 0")
    -- Refusal 19: no pick, and the universe is empty
    ∷ case (chooses_of_none ++ padded "1 0 0 0 / 0 0 0 0") (padded "19 0 3 0")
    -- Refusal 18: a pick, and the universe is empty
    ∷ case (chooses_of_none ++ padded "1 0 1 0 / 0 0 0 0 / 0 6 0 0") (padded "18 0 3 0")
    -- Refusal 19, at the root: a pick is left over
    ∷ case (chooses ++ padded "1 0 2 0 / 0 0 0 0 / 0 6 0 0 / 0 6 0 0") (padded "19 0 3 0")
    -- Refusal 15: one location is set to two values, and there is no pick
    ∷ case (clashing ++ padded "1 0 0 0 / 0 0 0 0") (padded "15 0 8 0")
    -- Refusal 19 before 15: one location is set to two values, and a pick is left over
    ∷ case (clashing ++ padded "1 0 1 0 / 0 0 0 0 / 0 0 0 0") (padded "19 0 6 0")
    -- Refusal 19: a pick for a rule that does nothing
    ∷ case (padded "8 6 1 1 / 1 0 0 0 / 1 3 0 0 / 20 0 0 0 / 0 3 0 0 / 1 0 1 0 / 0 0 0 0 / 0 3 0 0") (padded "19 0 0 0")
    -- Refusal 11 before 19: a relation is set to a number, and a pick is left over
    ∷ case (padded "8 6 2 4 / 1 0 0 0 / 1 3 0 0 / 1 3 0 0 / 1 5 0 0 / 5 1 0 0 / 1 3 0 0 / 21 1 2 0 / 3 3 0 0 / 1 0 1 0 / 0 0 0 0 / 0 3 0 0")
    (padded "11 0 3 0")
    -- accepted: the outer choose uses the first pick, the inner one the second
    ∷ case (chooses_twice ++ padded "1 0 2 0 / 0 0 0 0 / 0 6 0 0 / 0 3 0 0") (padded "0 0 0 4 / 1 3 0 2 / 1 6 0 2 / 2 0 0 6 / 3 0 0 3")
    -- Refusal 19: the inner choose lacks a pick
    ∷ case (chooses_twice ++ padded "1 0 1 0 / 0 0 0 0 / 0 6 0 0") (padded "19 0 7 0")
    -- Refusal 18: the pick of the inner choose is not in the universe
    ∷ case (chooses_twice ++ padded "1 0 2 0 / 0 0 0 0 / 0 6 0 0 / 0 4 0 0") (padded "18 0 7 0")
    -- Refusal 18 before 19: the pick of the outer choose is not in the universe, and the inner one lacks a pick
    ∷ case (chooses_twice ++ padded "1 0 1 0 / 0 0 0 0 / 0 4 0 0") (padded "18 0 8 0")
    -- accepted: a choose in a forall uses one pick for each element
    ∷ case (chooses_for_all ++ padded "1 0 2 0 / 0 0 0 0 / 0 6 0 0 / 0 3 0 0") (padded "0 0 0 4 / 1 3 0 2 / 1 6 0 2 / 2 3 0 6 / 2 6 0 3")
    -- Refusal 19: a choose in a forall lacks a pick for the second element
    ∷ case (chooses_for_all ++ padded "1 0 1 0 / 0 0 0 0 / 0 6 0 0") (padded "19 0 4 0")
    -- accepted: each move has its own picks
    ∷ case (chooses ++ padded "2 1 2 0 / 0 0 0 0 / 0 0 0 0 / 0 1 0 0 / 0 6 0 0 / 1 3 0 0") (padded "0 0 0 4 / 0 7 0 2 / 1 3 0 2 / 1 6 0 2 / 2 0 0 3")
    -- Refusal 9: a pick that is no element
    ∷ case (chooses ++ padded "1 0 1 0 / 0 0 0 0 / 0 8 0 0") (padded "9 2 0 0")
    -- Refusal 9: a choice line of a move that there is not
    ∷ case (chooses ++ padded "1 0 1 0 / 0 0 0 0 / 1 6 0 0") (padded "9 2 0 0")
    -- Refusal 9: a choice line whose move is below that of the line before
    ∷ case (chooses ++ padded "2 1 2 0 / 0 0 0 0 / 0 0 0 0 / 0 1 0 0 / 1 6 0 0 / 0 6 0 0") (padded "9 5 0 0")
    -- Refusal 9: the third field of a choice line is not 0
    ∷ case (chooses ++ padded "1 0 1 0 / 0 0 0 0 / 0 6 1 0") (padded "9 2 0 0")
    -- Refusal 9: the fourth field of a choice line is not 0
    ∷ case (chooses ++ padded "1 0 1 0 / 0 0 0 0 / 0 6 0 1") (padded "9 2 0 0")
    -- Refusal 9: 257 choice lines
    ∷ case (chooses ++ padded "1 0 257 0") (padded "9 0 0 0")
    -- Refusal 1: 256 choice lines fit, and the lines are missing
    ∷ case (chooses ++ padded "1 0 256 0") (padded "1 1 1 0")
    -- Refusal 9: the fourth field of the header is not 0
    ∷ case (chooses ++ padded "1 0 0 1 / 0 0 0 0") (padded "9 0 0 0")
    -- accepted: unordered, agent 1 writes the universe at another element than the one picked
    ∷ case (beside_four ++ padded "2 0 1 0 / 0 0 0 0 / 1 0 0 0 / 0 3 0 0") (padded "0 0 0 3 / 1 3 0 2 / 1 6 0 2 / 2 0 0 3")
    -- Refusal 17: unordered, agent 1 writes the universe at the element picked
    ∷ case (beside_three ++ padded "2 0 1 0 / 0 0 0 0 / 1 0 0 0 / 0 3 0 0") (padded "17 0 1 0")
    -- Refusal 18: agent 1, listed first, has taken the pick out of the universe
    ∷ case (beside_three ++ padded "2 0 1 0 / 1 0 0 0 / 0 0 0 0 / 1 3 0 0") (padded "18 1 3 0")
    -- Refusal 6: depth 33, with a choose
    ∷ case
    (padded "8 6 2 33 / 1 0 0 0 / 1 3 0 0 / 1 3 0 0 / 1 0 0 0" ++ (lines_written (table (λ i. four 8 i 0 0) 30) ++ padded "27 30 0 0 / 28 0 1 31 / 32 3 0 0 / 0 0 0 0"))
    (padded "6 0 0 0")
    -- accepted: depth 32, with a choose
    ∷ case
    (padded "8 6 2 32 / 1 0 0 0 / 1 3 0 0 / 1 3 0 0 / 1 0 0 0" ++ (lines_written (table (λ i. four 8 i 0 0) 29) ++ padded "27 29 0 0 / 28 0 1 30 / 31 3 0 0 / 0 0 0 0"))
    (padded "0 0 0 0")
    ∷ []

-- ---- retirements (change F-3)

-- a log of two moves of two agents, unordered
abbrev pub unordered : List ℕ
unordered = padded "2 0 0 0 / 0 0 0 0 / 1 0 0 0"

-- agent 0 does t := 3, agent 1 releases s; t and s are functions 1 and 2
abbrev pub number_put : List ℕ
number_put = padded "8 6 3 5 / 2 2 0 0 / 1 3 0 0 / 0 2 0 0 / 0 2 0 0 / 4 1 0 0 / 1 3 0 0 / 21 0 1 0 / 4 2 0 0 / 27 3 0 0 / 2 3 0 0 / 4 4 0 0"

-- agent 0 does t := t, agent 1 releases s; t and s are functions 1 and 2
abbrev pub label_kept : List ℕ
label_kept = padded "8 6 3 5 / 2 2 0 0 / 1 3 0 0 / 0 2 0 0 / 0 2 0 0 / 4 1 0 0 / 4 1 0 0 / 21 0 1 0 / 4 2 0 0 / 27 3 0 0 / 2 3 0 0 / 4 4 0 0"

-- agent 0 does t := u, agent 1 releases s; t, s and u are functions 1, 2 and 3
abbrev pub label_put : List ℕ
label_put =
    padded "8 6 4 5 / 2 3 0 0 / 1 3 0 0 / 0 2 0 0 / 0 2 0 0 / 0 2 0 0 / 4 1 0 0 / 4 3 0 0 / 21 0 1 0 / 4 2 0 0 / 27 3 0 0 / 2 3 0 0 / 4 4 0 0"

-- agent 0 releases t, agent 1 releases s; t and s are functions 1 and 2, own is function 3, of one argument; C contents lines follow
abbrev pub both_released : ℕ → List ℕ
both_released C =
    padded "8 6 4 4"
    ++ (lines_written (four 2 C 0 0 ∷ []) ++ padded "1 3 0 0 / 0 2 0 0 / 0 2 0 0 / 1 2 0 0 / 4 1 0 0 / 27 0 0 0 / 4 2 0 0 / 27 2 0 0 / 1 3 0 0 / 3 4 0 0")

-- inputs with releases, with what is printed for them
unfoldable pub retirements : List (Case (List ℕ))
retirements =
    -- Refusal 17: t := 3, where t holds the label that is released
    case (number_put ++ (padded "1 0 0 6 / 2 0 0 6" ++ unordered)) (padded "17 0 1 0")
    -- accepted: t := 3, where t holds another label
    ∷ case (number_put ++ (padded "1 0 0 7 / 2 0 0 6" ++ unordered)) (padded "0 0 0 2 / 0 6 0 2 / 1 0 0 3")
    -- Refusal 17: t := t, where t holds the label that is released: the release writes t
    ∷ case (label_kept ++ (padded "1 0 0 6 / 2 0 0 6" ++ unordered)) (padded "17 0 1 0")
    -- accepted: t := t, where t holds another label
    ∷ case (label_kept ++ (padded "1 0 0 7 / 2 0 0 6" ++ unordered)) (padded "0 0 0 2 / 0 6 0 2 / 1 0 0 7")
    -- Refusal 17: t := u, where t holds the label that is released and gets another
    ∷ case (label_put ++ (padded "1 0 0 6 / 2 0 0 6 / 3 0 0 7" ++ unordered)) (padded "17 0 1 0")
    -- accepted: t := u, where t holds another label and keeps it
    ∷ case (label_put ++ (padded "1 0 0 7 / 2 0 0 6 / 3 0 0 7" ++ unordered)) (padded "0 0 0 3 / 0 6 0 2 / 1 0 0 7 / 3 0 0 7")
    -- Refusal 17: releases of 7 and 6, where own(7) is 6 and both clear it
    ∷ case (both_released 3 ++ (padded "1 0 0 7 / 2 0 0 6 / 3 7 0 6" ++ unordered)) (padded "17 0 1 0")
    -- accepted: releases of 7 and 6, where own has no value
    ∷ case (both_released 2 ++ (padded "1 0 0 7 / 2 0 0 6" ++ unordered)) (padded "0 0 0 2 / 0 6 0 2 / 0 7 0 2")
    -- Refusal 12: two releases of label 6: the second finds s cleared
    ∷ case (both_released 2 ++ (padded "1 0 0 6 / 2 0 0 6" ++ unordered)) (padded "12 1 3 0")
    ∷ []

-- inputs at the limits, with what is printed for them
unfoldable pub limits : List (Case (List ℕ))
limits =
    -- accepted: 256 instructions
    case squares squares_end
    -- Refusal 14: 257 instructions
    ∷ case squares_and_one (padded "14 0 9 0")
    -- accepted: 64 moves
    ∷ case (counted 63) (padded "0 0 0 1 / 1 0 0 67")
    ∷ []

-- what stands past the end of a table
abbrev pub no_example : Case (List ℕ)
no_example = case [] []
