-- What the program of a book that passes its checks has, and what all contents of a run have, the roll rule with it (SPECIFICATION 2.5).
use Rattle.std.specs.Prelude.{◌≡◌, ◌≢◌, true, false, List, [], ◌∷◌, ℕ, ◌+◌, ◌≤◌, ◌<◌, length, get_or}
use Rattle.text.specs.Words.{has}
use Rattle.book.specs.declared.Function.{Function}
use Rattle.book.specs.Book.{Program, L, size, true_element, boolean, function_at, node_at, agent_at, relation_at, dynamic_at, default_at, arguments_at}
use Rattle.book.specs.Sum.{Strided}
use Rattle.book.specs.Kinds.{is_rule}
use Rattle.book.specs.Lines.{bad_node}
use Rattle.book.specs.Use.{bad_use}
use Rattle.book.specs.Scopes.{bad_scope}

-- the functions have their locations one after the other, from location n on
abbrev pub Laid : ℕ → ℕ → List Function → Type 0
Laid E n [] = Unit {0}
Laid E n (f ∷ fs) = (f.first ≡ n) × Laid E (n + size E f.arity) fs

-- ---- what checks 3 to 7 show of a book's program

-- the program has what checks 3 to 7 of a book show
pub record Lawful (B : Program) : Type 0 where
  pub low : 4 ≤ B.P
  pub high : B.P ≤ B.E
  pub elements : B.E ≤ 10000
  pub some : 0 < length B.functions
  pub locations : L B ≤ 65536
  pub laid : Laid B.E 0 B.functions
  pub arities : (f : ℕ) → (function_at B f).arity ≤ 2
  pub strides : Strided B
  pub reserve : function_at B 0 ≡ record { first = 0; arity = 1; kind = 3; stride = 1 }
  pub nodes : (n : ℕ) → n < length B.nodes → bad_node B n ≡ false
  pub uses : (n : ℕ) → n < length B.nodes → bad_use B n ≡ false
  pub scopes : (n : ℕ) → n < length B.nodes → bad_scope B n ≡ false
  pub roots : (k : ℕ) → k < length B.agents → ((agent_at B k).root < length B.nodes) × (is_rule (node_at B (agent_at B k).root).kind ≡ true)
  pub agents : (k : ℕ) → (agent_at B k).element < B.P

-- ---- what contents have

-- the value at a location
abbrev pub at : List ℕ → ℕ → ℕ
at c l = get_or c l 0

-- location l has x as argument
abbrev pub Argument : Program → ℕ → ℕ → Type 0
Argument B x l = has (arguments_at B l) x ≡ true

-- x is on the roll, the specification's word for Reserve
abbrev pub OnRoll : Program → List ℕ → ℕ → Type 0
OnRoll B c x = (x < B.E) × (at c x ≡ true_element)

-- Contents are sound: every location has a value, a relation only true or false; static functions are non-default only at permanent arguments, with permanent
-- values; and the roll rule: Reserve holds for labels only, a label on the roll has the default at every other location with it as argument, and no location
-- holds it. (Such a location not at its default, or one that holds the label, is what the specification calls a trace.)
pub record Sound (B : Program) (c : List ℕ) : Type 0 where
  pub long : length c ≡ L B
  pub small : (l : ℕ) → at c l < B.E
  pub booleans : (l : ℕ) → l < L B → relation_at B l ≡ true → boolean (at c l) ≡ true
  pub fixed_values : (l : ℕ) → l < L B → dynamic_at B l ≡ false → (at c l < B.P)
  pub fixed_arguments : (l x : ℕ) → l < L B → dynamic_at B l ≡ false → B.P ≤ x → Argument B x l → at c l ≡ default_at B l
  pub labels : (x : ℕ) → OnRoll B c x → B.P ≤ x
  pub arguments : (x l : ℕ) → OnRoll B c x → l < L B → l ≢ x → Argument B x l → at c l ≡ default_at B l
  pub values : (x l : ℕ) → OnRoll B c x → l < L B → at c l ≢ x
