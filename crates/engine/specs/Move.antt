-- A move: the updates that its instructions give, refusal 15, the contents that it leaves, what it reads and what it writes
-- (SPECIFICATION 4.7 to 4.10, 5; idle after "Equivalence Is In The Eye Of The Beholder", 2.5).
use Rattle.std.specs.Prelude.{Option, None, Some}
use Rattle.std.specs.Prelude.{Bool, true, false, ◌&&◌, ◌||◌, not, List, [], ◌∷◌, ◌++◌, ℕ, zero, suc, eqb, leb, length, get_or, if◌then◌else◌}
use Rattle.text.specs.Words.{has, table, some_below, least}
use Rattle.text.specs.Refusals.{clash}
use Rattle.book.specs.Book.{true_element, Program, L, dynamic_at, default_at, concerns, reserve}
use Rattle.engine.specs.declared.Instruction.{Instruction}
use Rattle.engine.specs.declared.Instruction.TheVariants.{Update, Release}
use Rattle.engine.specs.Reader.{value_in, locations_read}
use Rattle.engine.specs.Rule.{Walked, walking, refused_at, agent_walk}

-- ---- updates: the values that instructions give each location

-- a release of x clears location l, which holds v before the move: it is dynamic, and has x as argument or holds x. Its traces, which are not at their
-- default or hold x, are such locations; so are those with x as argument that are at their default.
abbrev pub clears : Program → ℕ → ℕ → ℕ → Bool
clears B l v x = dynamic_at B l && concerns B l v x

-- The values that one instruction gives location l. A release of x gives Reserve(x) the value true, and every other location that it clears its default.
unfoldable pub given : Program → List ℕ → ℕ → Instruction → List ℕ
given B c l (Update k v) = if eqb k l then v ∷ [] else []
given B c l (Release x) =
    if eqb (reserve x) l then true_element ∷ []
    else if clears B l (get_or c l 0) x then default_at B l ∷ []
    else []

-- the values that all instructions give location l, in order
unfoldable pub values : Program → List ℕ → ℕ → List Instruction → List ℕ
values B c l [] = []
values B c l (i ∷ is) = given B c l i ++ values B c l is

-- the updates: for each location the values that it is given, none where it is not updated
unfoldable pub updates : Program → List ℕ → List Instruction → List (List ℕ)
updates B c is = table (λ l. values B c l is) (L B)

-- the values that updates give location l
abbrev pub values_at : List (List ℕ) → ℕ → List ℕ
values_at us l = get_or us l []

-- the label that an instruction releases, if it does, before the labels xs
abbrev pub label_of : Instruction → List ℕ → List ℕ
label_of (Update l v) xs = xs
label_of (Release x) xs = x ∷ xs

-- the labels that instructions release, in order
unfoldable pub released : List Instruction → List ℕ
released [] = []
released (i ∷ is) = label_of i (released is)

-- ---- Refusal 15: one location is given two values, or an update sets it to a label that the same move releases

-- the list has a value other than v
unfoldable pub other : ℕ → List ℕ → Bool
other v [] = false
other v (w ∷ ws) = not (eqb w v) || other v ws

-- the list has two different values
unfoldable pub two_values : List ℕ → Bool
two_values [] = false
two_values (v ∷ vs) = other v vs

-- the instruction is an update that sets location l to one of the labels xs
abbrev pub sets_label : List ℕ → ℕ → Instruction → Bool
sets_label xs l (Update k v) = eqb k l && has xs v
sets_label xs l (Release x) = false

-- some instruction is an update that sets location l to one of the labels xs
unfoldable pub set_to_label : List ℕ → ℕ → List Instruction → Bool
set_to_label xs l [] = false
set_to_label xs l (i ∷ is) = sets_label xs l i || set_to_label xs l is

-- location l clashes
unfoldable pub clashes : List Instruction → List (List ℕ) → ℕ → Bool
clashes is us l = two_values (values_at us l) || set_to_label (released is) l is

-- ---- idle: no location would change. Such a move fires like any other (SPECIFICATION 4.10)

-- no location would change
unfoldable pub idle : List ℕ → List (List ℕ) → Bool
idle c us = not (some_below (λ l. other (get_or c l 0) (values_at us l)) (length us))

-- ---- the contents after: the old ones with the updates. Where nothing clashes a location is given one value, however often

-- the value of a location that held v and is given these values
abbrev pub new_value : ℕ → List ℕ → ℕ
new_value v [] = v
new_value v (w ∷ ws) = w

-- the contents after updates, all made at once
unfoldable pub fire : List (List ℕ) → List ℕ → List ℕ
fire us [] = []
fire [] (v ∷ c) = v ∷ c
fire (ws ∷ us) (v ∷ c) = new_value v ws ∷ fire us c

-- ---- reads and writes

-- some value is given
abbrev pub is_some : List ℕ → Bool
is_some [] = false
is_some (w ∷ ws) = true

-- the updates write location l, changed or not
abbrev pub writes : List (List ℕ) → ℕ → Bool
writes us l = is_some (values_at us l)

-- the dynamic locations of a list
unfoldable pub dynamic_among : Program → List ℕ → List ℕ
dynamic_among B [] = []
dynamic_among B (l ∷ ls) = let r = dynamic_among B ls in if dynamic_at B l then l ∷ r else r

-- what f gives at each of the n numbers from i on, one list after the other
unfoldable pub append_from : (ℕ → List ℕ) → ℕ → ℕ → List ℕ
append_from f i zero = []
append_from f i (suc n) = f i ++ append_from f (suc i) n

-- Beside what its walk reads, a move that fires reads two things (SPECIFICATION 5.2): each location that a release gives a value, and Reserve at each label
-- that it takes out of a location.

-- the release of one of the labels xs gives location l a value
unfoldable pub release_gives : Program → List ℕ → List ℕ → ℕ → Bool
release_gives B c [] l = false
release_gives B c (x ∷ xs) l = is_some (given B c l (Release x)) || release_gives B c xs l

-- location l, if the release of one of the labels xs gives it a value, and so reads it
abbrev pub release_reads : Program → List ℕ → List ℕ → ℕ → List ℕ
release_reads B c xs l = if release_gives B c xs l then l ∷ [] else []

-- Reserve at the label v, if a location that held v gets another value w, a label or not. The elements from P on are labels.
abbrev pub taken_reads : ℕ → ℕ → ℕ → List ℕ
taken_reads P v w = if leb P v && not (eqb w v) then reserve v ∷ [] else []

-- Reserve at the label that location l held, if an update or a release gives l another value
abbrev pub changed_reads : Program → List ℕ → List (List ℕ) → ℕ → List ℕ
changed_reads B c us l = taken_reads B.P (get_or c l 0) (new_value (get_or c l 0) (values_at us l))

-- what firing reads beside what the walk reads
unfoldable pub extra_reads : Program → List ℕ → List Instruction → List (List ℕ) → List ℕ
extra_reads B c is us = append_from (release_reads B c (released is)) 0 (L B) ++ append_from (changed_reads B c us) 0 (L B)

-- ---- the move

-- a move's input: the agent, and the elements picked for its choices, in order
pub record Input : Type 0 where
  pub agent : ℕ
  pub picks : List ℕ

-- an input from its agent and its picks
abbrev pub input : ℕ → List ℕ → Input
input k ys = record { agent = k; picks = ys }

-- what a move that fires has: its instructions, its updates, and what it reads
pub record Fired : Type 0 where
  pub instructions : List Instruction
  pub updates : List (List ℕ)
  pub reads : List ℕ

-- a move fires, or is refused with its number and q
pub data Moved : Type 0 where
  fires : Fired → Moved
  move_refused : ℕ → ℕ → Moved

-- the move, unless a location clashes: then refusal 15 at it
abbrev pub unless_clash : Option ℕ → Moved → Moved
unless_clash None m = m
unless_clash (Some l) m = move_refused clash l

-- what the walk of a move comes to in the contents c: all terms are read in the contents before the move
abbrev pub walked : Program → List ℕ → Input → Walked
walked B c i = value_in c (agent_walk B i.agent i.picks)

-- the instructions of a walk that meets no refusal; none of one that meets a refusal, at a rule or for a pick left over
abbrev pub made_by : Walked → List Instruction
made_by (refused_at n q) = []
made_by (walking w) = w.made

-- the dynamic locations that the walk of a move reads in the contents c
abbrev pub walk_reads : Program → List ℕ → Input → List ℕ
walk_reads B c i = dynamic_among B (locations_read c (agent_walk B i.agent i.picks))

-- what a move that fires has, if its walk gave the instructions is and read ls
abbrev pub fired_of : Program → List ℕ → List ℕ → List Instruction → Fired
fired_of B c ls is =
    let us = updates B c is in
    record { instructions = is; updates = us; reads = ls ++ extra_reads B c is us }

-- Refusal 15, or the move fires
unfoldable pub fire_or_clash : Fired → Moved
fire_or_clash f = unless_clash (least (clashes f.instructions f.updates) (length f.updates)) (fires f)

-- a walk's refusal, one of refusals 11 to 14, 18 and 19, or else refusal 15, or the move fires
unfoldable pub settle : Program → List ℕ → List ℕ → Walked → Moved
settle B c ls (refused_at n q) = move_refused n q
settle B c ls (walking w) = fire_or_clash (fired_of B c ls w.made)

-- the move with this input in the contents c
unfoldable pub move : Program → List ℕ → Input → Moved
move B c i = settle B c (walk_reads B c i) (walked B c i)

-- what a move reads; one that is refused reads what its walk reads, ls
abbrev pub reads_of : List ℕ → Moved → List ℕ
reads_of ls (fires f) = f.reads
reads_of ls (move_refused n q) = ls

-- what the move with this input reads in the contents c
unfoldable pub reads : Program → List ℕ → Input → List ℕ
reads B c i = reads_of (walk_reads B c i) (move B c i)
