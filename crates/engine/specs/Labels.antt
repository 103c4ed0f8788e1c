-- The label tally: how many labels instructions issue and return, and how many labels are on the roll (SPECIFICATION 4.11).
use Rattle.std.specs.Prelude.{Bool, false, not, ◌&&◌, List, [], ◌∷◌, ℕ, zero, suc, ◌+◌, eqb, ltb, get_or}
use Rattle.text.specs.declared.Reason.{Reason}
use Rattle.text.specs.Words.{Answer, told, one_if, has}
use Rattle.book.specs.Book.{Program, true_element, reserve}
use Rattle.engine.specs.declared.Instruction.{Instruction}
use Rattle.engine.specs.declared.Instruction.TheVariants.{Update, Release}
use Rattle.engine.specs.declared.Tally.{Tally}
use Rattle.engine.specs.declared.TalliedResult.{TalliedResult}
use Rattle.engine.specs.Move.{Fired, released}

-- ---- the tally of a move

-- An instruction issues a label: it is an update at one of Reserve's locations, which are the first E. No node names Reserve, so only imports make such
-- updates, and each import makes one.
abbrev pub issues : Program → Instruction → Bool
issues B (Update l v) = ltb l B.E
issues B (Release x) = false

-- how many labels instructions issue
unfoldable pub issued : Program → List Instruction → ℕ
issued B [] = 0
issued B (i ∷ is) = one_if (issues B i) + issued B is

-- how many different numbers a list has
unfoldable pub distinct : List ℕ → ℕ
distinct [] = 0
distinct (x ∷ xs) = one_if (not (has xs x)) + distinct xs

-- how many labels instructions return: each label once, however often they release it
unfoldable pub returned : List Instruction → ℕ
returned is = distinct (released is)

-- the tally of so many labels issued and so many returned
abbrev pub tally_of : ℕ → ℕ → Tally
tally_of i r = record { issued = i; returned = r }

-- the tally of no move
abbrev pub no_labels : Tally
no_labels = tally_of 0 0

-- two tallies added up
abbrev pub added : Tally → Tally → Tally
added s t = tally_of (s.issued + t.issued) (s.returned + t.returned)

-- the tally of one move that fires
abbrev pub move_tally : Program → Fired → Tally
move_tally B f = tally_of (issued B f.instructions) (returned f.instructions)

-- the tally of moves that fire
unfoldable pub tally : Program → List Fired → Tally
tally B [] = no_labels
tally B (f ∷ fs) = added (move_tally B f) (tally B fs)

-- ---- the roll

-- how many of the places below n pass the test
unfoldable pub count_below : (ℕ → Bool) → ℕ → ℕ
count_below test zero = 0
count_below test (suc n) = count_below test n + one_if (test n)

-- Reserve holds x in the contents c
abbrev pub in_reserve : List ℕ → ℕ → Bool
in_reserve c x = eqb (get_or c (reserve x) 0) true_element

-- how many labels Reserve holds in the contents c
unfoldable pub roll_count : Program → List ℕ → ℕ
roll_count B c = count_below (in_reserve c) B.E

-- how many labels leave the roll from the contents c to the contents d: on it in c, and not in d
unfoldable pub labels_leaving : Program → List ℕ → List ℕ → ℕ
labels_leaving B c d = count_below (λ x. in_reserve c x && not (in_reserve d x)) B.E

-- ---- an answer with a tally

-- an answer, and the tally of the moves that have fired
pub record TalliedAnswer : Type 0 where
  pub answer : Answer
  pub tally : Tally

-- the answer and the tally that the code's result tells
abbrev pub tallied : TalliedResult Reason → TalliedAnswer
tallied r = record { answer = told r.answer; tally = r.tally }
