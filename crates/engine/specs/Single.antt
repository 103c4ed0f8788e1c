-- The single-move entry: a book, a contents table, an agent and its picks (SPECIFICATION 9.2).
use Rattle.std.specs.Prelude.{Option, None, Some}
use Rattle.std.specs.Prelude.{Bool, not, List, [], ◌++◌, ℕ, suc, min, ltb, leb, length, get_or, take, drop}
use Rattle.text.specs.Words.{Answer}
use Rattle.text.specs.Words.{least, Checked, good, refused, ◌>>=◌, ◌>>◌, none_at, must}
use Rattle.text.specs.Refusals.{lent_short, contents_table, instructions_table, contents_rule, log_line}
use Rattle.book.specs.Book.{Program, L}
use Rattle.book.specs.Contents.{bad_value}
use Rattle.book.specs.Check.{check_book}
use Rattle.engine.specs.declared.Instruction.{Instruction}
use Rattle.engine.specs.Rule.{most_instructions}
use Rattle.engine.specs.Move.{Input, Moved, fires, move_refused, walked, made_by, move, fire}

-- a table whose first records are `new`, and the others as they were
abbrev pub over_first : List ℕ → List ℕ → List ℕ
over_first new old = new ++ drop (length new) old

-- Refusal 9 at place 0: there is no such agent
unfoldable pub check_agent : Program → ℕ → Checked (Unit {0})
check_agent B k = must (ltb k (length B.agents)) log_line 0 0

-- The greatest place of a pick. Nothing bounds how many picks there are, and the one number that C gets has 24 bits for a place: all entries answer
-- alike, with no more than those hold
abbrev pub most_place : ℕ
most_place = 16777215

-- the place of pick j: its index + 1, or the greatest place
abbrev pub pick_place : ℕ → ℕ
pick_place j = min (suc j) most_place

-- Refusal 9 at the place of the pick found, if one is found
abbrev pub no_pick_at : Option ℕ → Checked (Unit {0})
no_pick_at None = good tt
no_pick_at (Some j) = refused log_line (pick_place j) 0

-- pick j of the list is no element
abbrev pub bad_pick : Program → List ℕ → ℕ → Bool
bad_pick B ys j = not (ltb (get_or ys j 0) B.E)

-- Refusal 9 at the least pick that is no element
unfoldable pub check_picks : Program → List ℕ → Checked (Unit {0})
check_picks B ys = no_pick_at (least (bad_pick B ys) (length ys))

-- Refusal 2, where there are so many locations: contents c and n instruction records are lent
abbrev pub check_step_lengths : ℕ → List ℕ → ℕ → Checked (Unit {0})
check_step_lengths locations c n = do
  must (leb locations (length c)) lent_short locations contents_table
  must (leb most_instructions n) lent_short most_instructions instructions_table

-- Refusal 2 of a single-move call on the book B
unfoldable pub check_lent_step : Program → List ℕ → ℕ → Checked (Unit {0})
check_lent_step B c n = check_step_lengths (L B) c n

-- Refusal 8 of a lent table: the least location at fault
unfoldable pub check_contents : Program → List ℕ → Checked (Unit {0})
check_contents B c = none_at contents_rule 0 0 (least (bad_value B c) (L B))

-- the checks of a single-move call, in their order; its program if they pass
unfoldable pub check_step : List ℕ → List ℕ → Input → ℕ → Checked Program
check_step book c i n = do
  b ← check_book book
  let B = b.program
  check_agent B i.agent
  check_picks B i.picks
  check_lent_step B c n
  check_contents B (take (L B) c)
  good B

-- What a single-move call leaves: its answer, the contents table, and the instructions of the move if its walk meets none of refusals 11 to 14, 18 and 19, so
-- that a clash can be looked into; none if the call is refused before the move. The specification leaves the instructions free after the move (SPECIFICATION 9.5)
pub record Stepped : Type 0 where
  pub answer : Answer
  pub contents : List ℕ
  pub instructions : List Instruction

-- what a call leaves of the table c, whose first records d are the contents that the move is made on; its walk gave the instructions is
abbrev pub stepped : List ℕ → List ℕ → List Instruction → Moved → Stepped
stepped c d is (fires f) = record { answer = record { number = 0; p = 0; q = 0 }; contents = over_first (fire f.updates d) c; instructions = is }
stepped c d is (move_refused n q) = record { answer = record { number = n; p = 0; q = q }; contents = c; instructions = is }

-- what a call that passes its checks leaves: the move made on the first L records of the table c
abbrev pub step_move : Program → List ℕ → Input → Stepped
step_move B c i =
    let d = take (L B) c in
    stepped c d (made_by (walked B d i)) (move B d i)

-- what a call leaves, by its checks; one that is refused leaves the table as it was
abbrev pub step_answer : List ℕ → Input → Checked Program → Stepped
step_answer c i (refused n p q) = record { answer = record { number = n; p = p; q = q }; contents = c; instructions = [] }
step_answer c i (good B) = step_move B c i

-- the single-move entry: a book's text, a contents table, an input, and how many instruction records are lent
unfoldable pub step_call : List ℕ → List ℕ → Input → ℕ → Stepped
step_call book c i n = step_answer c i (check_step book c i n)
