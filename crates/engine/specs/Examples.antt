-- Single moves and what they leave and read, as a table under the lemma of Quoted: what is easily misread (SPECIFICATION 5.8), and refusals 11 to 15, 18
-- and 19. proofs/Examples shows by computation that the table is right.
use Rattle.std.specs.Prelude.{List, [], ◌∷◌, ◌++◌, ℕ, length, replicate, if◌then◌else◌}
use Rattle.text.specs.Words.{table, Checked, good, refused}
use Rattle.text.specs.Quoted.{padded, Case, case}
use Rattle.book.specs.Book.{Book}
use Rattle.book.specs.Check.{check_book}
use Rattle.book.specs.Examples.{triple}
use Rattle.engine.specs.Move.{values_at, idle, Input, input, Moved, fires, move_refused, move, reads}
use Rattle.engine.specs.Single.{Stepped, step_call}

-- A question is about a book, contents, and agent 0 with no picks or another input: what the single-move entry answers and leaves; what the move reads;
-- whether it is idle, and how many values it gives each location
pub data Question : Type 0 where
  leaves : List ℕ → List ℕ → Question
  reads_in : List ℕ → List ℕ → Question
  gives_in : List ℕ → List ℕ → Question
  leaves_by : Input → List ℕ → List ℕ → Question
  reads_by : Input → List ℕ → List ℕ → Question

-- the answer of a call, then the contents that it leaves
abbrev pub shown : Stepped → List ℕ
shown s = triple s.answer ++ s.contents

-- what the move with this input reads; nothing if the book is refused
abbrev pub read_by : Input → List ℕ → Checked Book → List ℕ
read_by i c (good b) = reads b.program c i
read_by i c (refused n p q) = []

-- of a move that fires: 1 if it is idle, else 0, then how many values each location is given
abbrev pub weighed : List ℕ → Moved → List ℕ
weighed c (fires f) = (if idle c f.updates then 1 else 0) ∷ table (λ l. length (values_at f.updates l)) (length f.updates)
weighed c (move_refused n q) = []

-- whether agent 0's move is idle, and how many values it gives each location; nothing if the book is refused
abbrev pub given_by : List ℕ → Checked Book → List ℕ
given_by c (good b) = weighed c (move b.program c (input 0 []))
given_by c (refused n p q) = []

-- the answer to a question, by the definitions
abbrev pub asked : Question → List ℕ
asked (leaves book c) = shown (step_call book c (input 0 []) 256)
asked (reads_in book c) = read_by (input 0 []) c (check_book book)
asked (gives_in book c) = given_by c (check_book book)
asked (leaves_by i book c) = shown (step_call book c i 256)
asked (reads_by i book c) = read_by i c (check_book book)

-- s := t beside t := s; s and t are functions 1 and 2, of no argument, at locations 6 and 7
abbrev pub swap_book : List ℕ
swap_book =
    padded
    "6 6 3 7 / 1 0 0 0 / 1 3 0 0 / 0 2 0 0 / 0 2 0 0 / 4 1 0 0 / 4 2 0 0 / 21 0 1 0 / 4 2 0 0 / 4 1 0 0 / 21 3 4 0 / 22 2 5 0 / 6 3 0 0"

-- if s is 4 then t := 3; s and t are functions 1 and 2, of no argument, at locations 6 and 7
abbrev pub guard_book : List ℕ
guard_book =
    padded
    "6 6 3 8 / 1 0 0 0 / 1 3 0 0 / 0 2 0 0 / 0 2 0 0 / 4 1 0 0 / 1 4 0 0 / 7 0 1 0 / 4 2 0 0 / 1 3 0 0 / 21 3 4 0 / 20 0 0 0 / 23 2 5 6 / 7 3 0 0"

-- for all v in function 1 release v; function 1 is a universe at locations 6 to 11, function 2 no relation, at 12 to 17. Labels are 4 and 5
abbrev pub release_book : List ℕ
release_book = padded "6 4 3 3 / 1 0 0 0 / 1 3 0 0 / 1 3 0 0 / 1 2 0 0 / 2 0 0 0 / 27 0 0 0 / 25 0 1 1 / 2 3 0 0"

-- t := u; t and u are functions 1 and 2, of no argument, at locations 6 and 7. Labels are 4 and 5
abbrev pub put_book : List ℕ
put_book = padded "6 4 3 3 / 1 0 0 0 / 1 3 0 0 / 0 2 0 0 / 0 2 0 0 / 4 1 0 0 / 4 2 0 0 / 21 0 1 0 / 2 3 0 0"

-- release t beside t := 3; t is function 1, of no argument, at location 6. Labels are 4 and 5
abbrev pub release_put_book : List ℕ
release_put_book = padded "6 4 2 6 / 1 0 0 0 / 1 3 0 0 / 0 2 0 0 / 4 1 0 0 / 27 0 0 0 / 4 1 0 0 / 1 3 0 0 / 21 2 3 0 / 22 1 4 0 / 5 3 0 0"

-- choose v0 in U do s := v0, node 3; U is function 1, dynamic, at locations 8 to 15, and s is location 16. Labels are 6 and 7
abbrev pub choose_book : List ℕ
choose_book = padded "8 6 3 4 / 1 0 0 0 / 1 3 0 0 / 1 3 0 0 / 0 2 0 0 / 4 2 0 0 / 2 0 0 0 / 21 0 1 0 / 28 0 1 2 / 3 4 0 0"

-- choose v0 in U do s := v0, node 3; U is function 1, static, at locations 8 to 15, and s is location 16. Labels are 6 and 7
abbrev pub static_book : List ℕ
static_book = padded "8 6 3 4 / 1 0 0 0 / 1 3 0 0 / 1 1 0 0 / 0 2 0 0 / 4 2 0 0 / 2 0 0 0 / 21 0 1 0 / 28 0 1 2 / 3 4 0 0"

-- s := 3 beside s := 4, node 6; s is location 8
abbrev pub clash_book : List ℕ
clash_book = padded "8 6 2 7 / 1 0 0 0 / 1 3 0 0 / 0 2 0 0 / 4 1 0 0 / 1 3 0 0 / 21 0 1 0 / 4 1 0 0 / 1 4 0 0 / 21 3 4 0 / 22 2 5 0 / 6 4 0 0"

-- contents in which label 7 is on the roll, U has 3 and 6, and s is given
abbrev pub chosen : ℕ → List ℕ
chosen s = replicate 7 1 ++ (2 ∷ 1 ∷ 1 ∷ 1 ∷ 2 ∷ 1 ∷ 1 ∷ 2 ∷ 1 ∷ s ∷ [])

-- contents in which the roll is empty, U has 3, and s is undef
abbrev pub chosen_static : List ℕ
chosen_static = replicate 8 1 ++ (1 ∷ 1 ∷ 1 ∷ 2 ∷ 1 ∷ 1 ∷ 1 ∷ 1 ∷ 0 ∷ [])

-- six times false: Reserve of six elements with an empty roll, or an empty universe
abbrev pub none : List ℕ
none = replicate 6 1

-- moves with their answers
unfoldable pub examples : List (Case Question)
examples =
    -- s := t beside t := s swaps
    case (leaves swap_book (none ++ (3 ∷ 4 ∷ []))) (0 ∷ 0 ∷ 0 ∷ none ++ (4 ∷ 3 ∷ []))
    -- the guard s is read, though it is not 4; t, in the branch not taken, is not
    ∷ case (reads_in guard_book (none ++ (3 ∷ 0 ∷ []))) (6 ∷ [])
    -- accepted: a move without instructions changes nothing and fires
    ∷ case (leaves guard_book (none ++ (3 ∷ 0 ∷ []))) (0 ∷ 0 ∷ 0 ∷ none ++ (3 ∷ 0 ∷ []))
    -- accepted: s := t beside t := s, where both are 3, changes nothing and fires
    ∷ case (leaves swap_book (none ++ (3 ∷ 3 ∷ []))) (0 ∷ 0 ∷ 0 ∷ none ++ (3 ∷ 3 ∷ []))
    -- a move without instructions is idle, and gives no location a value
    ∷ case (gives_in guard_book (none ++ (3 ∷ 0 ∷ []))) (1 ∷ replicate 8 0)
    -- s := t beside t := s, where both are 3, is idle, and gives both a value
    ∷ case (gives_in swap_book (none ++ (3 ∷ 3 ∷ []))) (1 ∷ replicate 6 0 ++ (1 ∷ 1 ∷ []))
    -- s := t beside t := s, where they differ, is not idle, and gives both a value
    ∷ case (gives_in swap_book (none ++ (3 ∷ 4 ∷ []))) (0 ∷ replicate 6 0 ++ (1 ∷ 1 ∷ []))
    -- a release of 4 clears arguments and values: U(4) is true, f(4) has a value, and f(3) is 4
    ∷ case (leaves release_book (none ++ ((1 ∷ 1 ∷ 1 ∷ 1 ∷ 2 ∷ 1 ∷ []) ++ (0 ∷ 0 ∷ 0 ∷ 4 ∷ 3 ∷ 0 ∷ []))))
    (0 ∷ 0 ∷ 0 ∷ (1 ∷ 1 ∷ 1 ∷ 1 ∷ 2 ∷ 1 ∷ []) ++ (none ++ replicate 6 0))
    -- what a release of 4 reads (SPECIFICATION 5.2): the universe; Reserve at 4, for refusal 12; each location that it gives a value; Reserve at 4, which
    -- location 15 held
    ∷ case (reads_in release_book (none ++ ((1 ∷ 1 ∷ 1 ∷ 1 ∷ 2 ∷ 1 ∷ []) ++ (0 ∷ 0 ∷ 0 ∷ 4 ∷ 3 ∷ 0 ∷ []))))
    (6 ∷ 7 ∷ 8 ∷ 9 ∷ 10 ∷ 11 ∷ 4 ∷ (4 ∷ 10 ∷ 15 ∷ 16 ∷ []) ++ (4 ∷ []))
    -- what a release of 4 reads where location 16 held the other label: also Reserve at 5
    ∷ case (reads_in release_book (none ++ ((1 ∷ 1 ∷ 1 ∷ 1 ∷ 2 ∷ 1 ∷ []) ++ (0 ∷ 0 ∷ 0 ∷ 0 ∷ 5 ∷ 0 ∷ []))))
    (6 ∷ 7 ∷ 8 ∷ 9 ∷ 10 ∷ 11 ∷ 4 ∷ (4 ∷ 10 ∷ 16 ∷ []) ++ (5 ∷ []))
    -- Refusal 15: t is released and set to 3
    ∷ case (leaves release_put_book (none ++ (4 ∷ []))) (15 ∷ 0 ∷ 6 ∷ none ++ (4 ∷ []))
    -- a release that is refused by 15 reads what its walk reads: t, and Reserve at 4
    ∷ case (reads_in release_put_book (none ++ (4 ∷ []))) (6 ∷ 4 ∷ [])
    -- t := u, where t held label 4 and u is a number, reads u, and Reserve at 4
    ∷ case (reads_in put_book (none ++ (4 ∷ 3 ∷ []))) (7 ∷ 4 ∷ [])
    -- t := u, where t held label 4 and u is another label, reads u, and Reserve at 4
    ∷ case (reads_in put_book (none ++ (4 ∷ 5 ∷ []))) (7 ∷ 4 ∷ [])
    -- t := u, where both are label 4, reads u alone: t keeps its label
    ∷ case (reads_in put_book (none ++ (4 ∷ 4 ∷ []))) (7 ∷ [])
    -- t := u, where t held a number, reads u alone
    ∷ case (reads_in put_book (none ++ (3 ∷ 4 ∷ []))) (7 ∷ [])
    -- Refusal 12: a permanent element is released
    ∷ case (leaves release_book (none ++ ((2 ∷ 1 ∷ 1 ∷ 1 ∷ 1 ∷ 1 ∷ []) ++ replicate 6 0))) (12 ∷ 0 ∷ 1 ∷ none ++ ((2 ∷ 1 ∷ 1 ∷ 1 ∷ 1 ∷ 1 ∷ []) ++ replicate 6 0))
    -- Refusal 8: a lent table with a trace of a label on the roll
    ∷ case (leaves release_book ((1 ∷ 1 ∷ 1 ∷ 1 ∷ 2 ∷ 1 ∷ []) ++ (none ++ (0 ∷ 0 ∷ 0 ∷ 4 ∷ 0 ∷ 0 ∷ []))))
    (8 ∷ 15 ∷ 0 ∷ (1 ∷ 1 ∷ 1 ∷ 1 ∷ 2 ∷ 1 ∷ []) ++ (none ++ (0 ∷ 0 ∷ 0 ∷ 4 ∷ 0 ∷ 0 ∷ [])))
    -- Refusal 2: a lent table that is too short
    ∷ case (leaves release_book none) (2 ∷ 18 ∷ 0 ∷ none)
    -- accepted: the pick is in the universe
    ∷ case (leaves_by (input 0 (6 ∷ [])) choose_book (chosen 0)) (0 ∷ 0 ∷ 0 ∷ chosen 6)
    -- Refusal 18: the pick is a label on the roll
    ∷ case (leaves_by (input 0 (7 ∷ [])) choose_book (chosen 0)) (18 ∷ 0 ∷ 3 ∷ chosen 0)
    -- Refusal 18: the pick is not in the universe
    ∷ case (leaves_by (input 0 (4 ∷ [])) choose_book (chosen 0)) (18 ∷ 0 ∷ 3 ∷ chosen 0)
    -- Refusal 19: no pick
    ∷ case (leaves_by (input 0 []) choose_book (chosen 0)) (19 ∷ 0 ∷ 3 ∷ chosen 0)
    -- Refusal 19: no pick, and the universe is empty
    ∷ case (leaves_by (input 0 []) choose_book (replicate 16 1 ++ (0 ∷ []))) (19 ∷ 0 ∷ 3 ∷ replicate 16 1 ++ (0 ∷ []))
    -- Refusal 18: a pick, and the universe is empty
    ∷ case (leaves_by (input 0 (6 ∷ [])) choose_book (replicate 16 1 ++ (0 ∷ []))) (18 ∷ 0 ∷ 3 ∷ replicate 16 1 ++ (0 ∷ []))
    -- Refusal 19, at the root: one pick too many
    ∷ case (leaves_by (input 0 (6 ∷ 6 ∷ [])) choose_book (chosen 0)) (19 ∷ 0 ∷ 3 ∷ chosen 0)
    -- a choose reads its universe at the pick and nowhere else
    ∷ case (reads_by (input 0 (6 ∷ [])) choose_book (chosen 0)) (14 ∷ [])
    -- a choose that is refused by 18 reads its universe at the pick and nowhere else
    ∷ case (reads_by (input 0 (4 ∷ [])) choose_book (chosen 0)) (12 ∷ [])
    -- a choose without a pick reads nothing
    ∷ case (reads_by (input 0 []) choose_book (chosen 0)) []
    -- a choose in a static universe reads nothing
    ∷ case (reads_by (input 0 (3 ∷ [])) static_book chosen_static) []
    -- accepted: a pick in a static universe
    ∷ case (leaves_by (input 0 (3 ∷ [])) static_book chosen_static) (0 ∷ 0 ∷ 0 ∷ replicate 8 1 ++ (1 ∷ 1 ∷ 1 ∷ 2 ∷ 1 ∷ 1 ∷ 1 ∷ 1 ∷ 3 ∷ []))
    -- Refusal 9: the least pick that is no element, by its index + 1
    ∷ case (leaves_by (input 0 (6 ∷ 8 ∷ 9 ∷ [])) choose_book (chosen 0)) (9 ∷ 2 ∷ 0 ∷ chosen 0)
    -- Refusal 9 for the agent before refusal 9 for a pick
    ∷ case (leaves_by (input 1 (8 ∷ [])) choose_book (chosen 0)) (9 ∷ 0 ∷ 0 ∷ chosen 0)
    -- Refusal 9 for a pick before refusal 2
    ∷ case (leaves_by (input 0 (8 ∷ [])) choose_book []) (9 ∷ 1 ∷ 0 ∷ [])
    -- Refusal 15: s is set to 3 and to 4
    ∷ case (leaves_by (input 0 []) clash_book (replicate 8 1 ++ (0 ∷ []))) (15 ∷ 0 ∷ 8 ∷ replicate 8 1 ++ (0 ∷ []))
    -- Refusal 19 before 15: a pick is left over, and s is set to 3 and to 4
    ∷ case (leaves_by (input 0 (0 ∷ [])) clash_book (replicate 8 1 ++ (0 ∷ []))) (19 ∷ 0 ∷ 6 ∷ replicate 8 1 ++ (0 ∷ []))
    -- Refusal 19: a pick for a rule without a choose is left over
    ∷ case (leaves_by (input 0 (3 ∷ [])) guard_book (none ++ (3 ∷ 0 ∷ []))) (19 ∷ 0 ∷ 7 ∷ none ++ (3 ∷ 0 ∷ []))
    ∷ []

-- what stands past the end of a table of questions
abbrev pub no_example : Case Question
no_example = case (leaves [] []) []
