-- The instructions that a log's run gives, as one list for each move that is walked, in turn.
use Rattle.std.specs.Prelude.{List, [], ◌∷◌, ℕ, zero, suc, length}
use Rattle.text.specs.Words.{Checked, good, refused}
use Rattle.book.specs.Book.{Program, Book, start}
use Rattle.engine.specs.declared.Instruction.{Instruction}
use Rattle.engine.specs.Move.{walked, made_by}
use Rattle.order.specs.Log.{Log, move_at}
use Rattle.order.specs.Run.{RunOutcome, ran, halted, run}
use Rattle.order.specs.Call.{lengths, check_all}
use Rattle.engine.specs.Tables.{Tables}

-- the lists of the moves from i on, rest being those after i: move i is walked unless a move before it was refused
abbrev pub lists_after : Program → Log → ℕ → List (List Instruction) → RunOutcome → List (List Instruction)
lists_after B g i rest (ran s) = made_by (walked B s.contents (move_at g i)) ∷ rest
lists_after B g i rest (halted n p q s) = []

-- the lists of the n moves from i on, in a run from the contents c
unfoldable pub lists_from : Program → Log → List ℕ → ℕ → ℕ → List (List Instruction)
lists_from B g c zero i = []
lists_from B g c (suc n) i = lists_after B g i (lists_from B g c n (suc i)) (run B g c i)

-- the lists of a call: none if it is refused before the first move
abbrev pub lists_of : Checked (Book × Log) → List (List Instruction)
lists_of (refused n p q) = []
lists_of (good x) = lists_from x.0.program x.1 (start x.0) (length x.1.moves) 0

-- the lists of a log call
unfoldable pub call_lists : List ℕ → List ℕ → Tables → ℕ → List (List Instruction)
call_lists book log t n = lists_of (check_all book log (lengths t n))
