-- What is claimed of single moves, and proved in proofs/Claims: equal reads, the frame, the roll rule, idle moves, the label tally, refusals, what
-- imports and choices read, and that trees are whole (SPECIFICATION 2.8, 4, 5).
use Rattle.std.specs.Prelude.{Some}
use Rattle.std.specs.Prelude.{◌≡◌, ◌↔◌, ◌≢◌, true, false, List, [], ◌∷◌, ℕ, suc, ◌+◌, ◌-◌, ◌≤◌, ◌<◌, length, set}
use Rattle.text.specs.Words.{has, table_from, good}
use Rattle.text.specs.Refusals.{not_in_universe, pick_count}
use Rattle.book.specs.Book.{Program, L, dynamic_at, location, node_at, agent_at}
use Rattle.book.specs.Scopes.{most_depth}
use Rattle.book.specs.Sound.{Lawful, at, Sound}
use Rattle.engine.specs.Reader.{value_in, locations_read}
use Rattle.engine.specs.Rule.{Rule, choose, Walk, walking, refused_at, after, take_pick, refuse_if, lowest, not_member, walk, rule_shape, rule_tree, rule_at}
use Rattle.engine.specs.Move.{Input, Fired, fires, move_refused, idle, move, walked, reads, released, values_at, new_value, fire, writes}
use Rattle.engine.specs.Move as move
use Rattle.engine.specs.Labels.{move_tally, roll_count, labels_leaving}
use Rattle.engine.specs.Single.{check_step, step_call}

-- ---- equal reads

-- two contents of a book with equal static functions
pub record SameStatic (B : Program) (c d : List ℕ) : Type 0 where
  pub long : length c ≡ L B
  pub as_long : length d ≡ L B
  pub static : (l : ℕ) → l < L B → dynamic_at B l ≡ false → at c l ≡ at d l

-- both contents hold each of these labels at the same locations
abbrev pub SameHolders : List ℕ → List ℕ → List ℕ → Type 0
SameHolders c d xs = (x l : ℕ) → has xs x ≡ true → (at c l ≡ x) ↔ (at d l ≡ x)

-- Two contents c and d with equal static functions, and a move with its picks. If d agrees with c on what the move reads in c, the walk gives the same
-- instructions in d if it meets none of refusals 11 to 14, 18 and 19 in c. If it meets one, it meets the same in d, if both agree on Reserve throughout,
-- which is the first E locations. For a release to give the same updates, both must also hold its label at the same locations (SPECIFICATION 5.7).
pub record EqualReads (B : Program) (c d : List ℕ) (i : Input) : Type 0 where
  pub instructions : (w : Walk) → walked B c i ≡ walking w → ((l : ℕ) → has (reads B c i) l ≡ true → at c l ≡ at d l) → walked B d i ≡ walking w
  pub refusal : (n q : ℕ) → walked B c i ≡ refused_at n q → ((l : ℕ) → B.E ≤ l → has (reads B c i) l ≡ true → at c l ≡ at d l)
      → ((x : ℕ) → x < B.E → at c x ≡ at d x) → walked B d i ≡ refused_at n q
  pub updates : (w : Walk) → walked B c i ≡ walking w → ((l : ℕ) → has (reads B c i) l ≡ true → at c l ≡ at d l)
      → SameHolders c d (released w.made) → (walked B d i ≡ walking w) × (move.updates B d w.made ≡ move.updates B c w.made)

-- ---- what a move that fires leaves

-- what a move that fires from the contents c leaves
pub record Leaves (B : Program) (c : List ℕ) (f : Fired) : Type 0 where
  -- the old contents with the move's updates and no others, and no location is given two values
  pub long : length (fire f.updates c) ≡ L B
  pub frame : (l : ℕ) → at (fire f.updates c) l ≡ new_value (at c l) (values_at f.updates l)
  pub single : (l v : ℕ) → has (values_at f.updates l) v ≡ true → at (fire f.updates c) l ≡ v
  -- static locations are never written
  pub static : (l : ℕ) → dynamic_at B l ≡ false → writes f.updates l ≡ false
  -- the contents after the move are sound: values below E, Boolean relations, the static rule and the roll rule
  pub sound : Sound B (fire f.updates c)

-- the tally of a move that fires from the contents c says what becomes of the roll (SPECIFICATION 4.11)
pub record RollAfter (B : Program) (c : List ℕ) (f : Fired) : Type 0 where
  -- as many labels are issued as leave the roll, and as many are returned as come to it
  pub issued : (move_tally B f).issued ≡ labels_leaving B c (fire f.updates c)
  pub returned : (move_tally B f).returned ≡ labels_leaving B (fire f.updates c) c
  -- so the roll holds what it held before, less the labels issued and with those returned
  pub balance : roll_count B (fire f.updates c) + (move_tally B f).issued ≡ roll_count B c + (move_tally B f).returned

-- ---- the claims

-- each move has equal reads on contents with equal static functions
abbrev pub MovesReadEqual : Type 0
MovesReadEqual = (B : Program) (c d : List ℕ) (i : Input) → SameStatic B c d → EqualReads B c d i

-- a move that fires does the same, reads included, on other contents that agree on what it reads and writes and hold the released labels at the same locations
abbrev pub MovesFireEqual : Type 0
MovesFireEqual = (B : Program) (c d : List ℕ) (i : Input) (f : Fired) → SameStatic B c d → move B c i ≡ fires f → SameHolders c d (released f.instructions)
    → ((l : ℕ) → has f.reads l ≡ true → at c l ≡ at d l) → ((l : ℕ) → writes f.updates l ≡ true → at c l ≡ at d l) → move B d i ≡ fires f

-- each move that fires from sound contents leaves what it should
abbrev pub MovesLeave : Type 0
MovesLeave = (B : Program) → Lawful B → (c : List ℕ) → Sound B c → (i : Input) (f : Fired) → move B c i ≡ fires f → Leaves B c f

-- a move that fires is idle exactly when the contents after it are those before
abbrev pub IdleMovesLeave : Type 0
IdleMovesLeave = (B : Program) → Lawful B → (c : List ℕ) → Sound B c → (i : Input) (f : Fired) → move B c i ≡ fires f
    → (idle c f.updates ≡ true) ↔ (fire f.updates c ≡ c)

-- each move that fires from sound contents has the tally that it should
abbrev pub MovesTally : Type 0
MovesTally = (B : Program) → Lawful B → (c : List ℕ) → Sound B c → (i : Input) (f : Fired) → move B c i ≡ fires f → RollAfter B c f

-- n is a refusal inside a move: one of refusals 11 to 15, 18 and 19
abbrev pub Inside : ℕ → Type 0
Inside n = (11 ≤ n) × (n ≤ 19) × (n ≢ 16) × (n ≢ 17)

-- a move is refused only by a refusal inside a move
abbrev pub MovesRefuse : Type 0
MovesRefuse = (B : Program) (c : List ℕ) (i : Input) (n q : ℕ) → move B c i ≡ move_refused n q → Inside n

-- no single-move call gets refusal 16
abbrev pub StepsAnswer : Type 0
StepsAnswer = (book c : List ℕ) (i : Input) (n : ℕ) → (step_call book c i n).answer.number ≢ 16

-- an import that searches from label x on and takes y has read Reserve from x to y, and nothing else
abbrev pub ImportsRead : Type 0
ImportsRead = (c : List ℕ) (x n y : ℕ) → value_in c (lowest x n) ≡ Some y → locations_read c (lowest x n) ≡ table_from (λ l. l) x (suc y - x)

-- a choose with an element as its next pick reads its universe there, before refusal 18 is checked, and nothing else of its own
abbrev pub ChoicesRead : Type 0
ChoicesRead = (B : Program) (c : List ℕ) (me n x u : ℕ) (r : Rule) (vs : List ℕ) (w : Walk) (y : ℕ) (ys : List ℕ) → w.left ≡ y ∷ ys → y < B.E
    → locations_read c (walk B me (choose n x u r) vs w)
    ≡ location B u y 0 ∷ locations_read c (after (refuse_if (not_member (at c (location B u y 0))) not_in_universe n (take_pick ys w)) (walk B me r (set vs x y)))

-- a choose with no pick left meets refusal 19 at its node, whatever its universe has, and reads nothing
abbrev pub ChoicesLack : Type 0
ChoicesLack = (B : Program) (c : List ℕ) (me n x u : ℕ) (r : Rule) (vs : List ℕ) (w : Walk) → w.left ≡ []
    → (value_in c (walk B me (choose n x u r) vs w) ≡ refused_at pick_count n) × (locations_read c (walk B me (choose n x u r) vs w) ≡ [])

-- a walk that meets no refusal has used all its picks
abbrev pub PicksTaken : Type 0
PicksTaken = (B : Program) (c : List ℕ) (i : Input) (w : Walk) → walked B c i ≡ walking w → w.left ≡ []

-- each pick of a single move that passes its checks is an element: so refusal 18 is only about the universe
abbrev pub PicksAreElements : Type 0
PicksAreElements = (book c : List ℕ) (i : Input) (n : ℕ) (B : Program) → check_step book c i n ≡ good B → (y : ℕ) → has i.picks y ≡ true → y < B.E

-- to build trees deeper than 32 nodes changes no agent's rule: the bound of 32 never ends a walk or an evaluation
abbrev pub TreesWhole : Type 0
TreesWhole = (B : Program) → Lawful B → (k d : ℕ) → k < length B.agents → (
    let n = (agent_at B k).root in rule_tree (node_at B) (most_depth + d) (rule_shape (node_at B n)) n (node_at B n) ≡ rule_at (node_at B) n
    )
