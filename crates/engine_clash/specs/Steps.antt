-- Updates alone, as the numbers that stand for them: those that share a slot, and the least clash so far.
use Rattle.std.specs.Prelude.{◌≡◌, ◌||◌, List, ℕ, ◌-◌, ◌/◌, ◌%◌, ◌<◌, ◌≤◌, eqb, leb, length, get_or, if◌then◌else◌}

-- from this number on a number stands for a release
abbrev pub releases : ℕ
releases = 281474976710656

-- the location of the update that a number stands for
abbrev pub location_of : ℕ → ℕ
location_of c = c / 65536

-- the slot of the update that a number stands for, one of 512
abbrev pub slot_of : ℕ → ℕ
slot_of c = location_of c % 512

-- p, counted from 1, is the last of the first j numbers of a list that have the key of c; 0 if none has it
pub record Last (key : ℕ → ℕ) (list : List ℕ) (c j p : ℕ) : Type 0 where
  pub low : p ≤ j
  pub same : 0 < p → key (get_or list (p - 1) 0) ≡ key c
  pub skips : (k : ℕ) → p ≤ k → k < j → key (get_or list k 0) ≡ key c → ⊥

-- prior has for each of the first j numbers of a list, counted from 1, the last one before it with its slot
abbrev pub Linked : List ℕ → List ℕ → ℕ → Type 0
Linked list prior j = (i : ℕ) → i < j → Last slot_of list (get_or list i 0) i (get_or prior i 0)

-- from p down, prior has the numbers of a list that have the slot of c
pub record Chain (list prior : List ℕ) (c p : ℕ) : Type 0 where
  pub inside : (p ≤ length list) × (p ≤ 256)
  pub links : Linked list prior p
  pub same : 0 < p → slot_of (get_or list (p - 1) 0) ≡ slot_of c

-- the location of the update c, if it is less than b and number i of the list, counted from 1, gives it another value; else b
abbrev pub least_with_update : List ℕ → ℕ → ℕ → ℕ → ℕ
least_with_update list i c b =
    if eqb i 0 then b
    else if eqb (get_or list (i - 1) 0) c || leb b (location_of c) then b
    else location_of c
