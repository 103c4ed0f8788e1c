-- Marks: each location has the set of the moves that read it, and the set of those that write it, a move being one bit of a number (SPECIFICATION 5.6).
-- A bit is put in at a list of locations, as what is read has it, or wherever a test passes, as what is written has it. The two are one where the test is
-- to be in the list (`marked_is_where`, engine_fire/proofs/Marks).
use Rattle.std.specs.Prelude.{◌≡◌, ◌⊎◌, Bool, true, false, ◌&&◌, List, [], ◌∷◌, ℕ, ◌<◌, ltb, length, get_or, set, if◌then◌else◌}
use Rattle.std.specs.Int.Bits.{bit_or}
use Rattle.text.specs.Words.{by_place}
use Rattle.book.specs.declared.Function.{Function}
use Rattle.book.specs.Book.{Program, dynamic, dynamic_at, function_at, node_at, location}
use Rattle.book.specs.Sum.{Strided, sum}
use Rattle.engine.specs.Reader.{Reader, value_in, locations_read}
use Rattle.engine.specs.Move.{dynamic_among}

-- the mark m with this bit put in, if the test passes
abbrev pub mark : ℕ → Bool → ℕ → ℕ
mark bit true m = bit_or m bit
mark bit false m = m

-- the marks m with this bit put in at location l; past their end nothing is put
abbrev pub mark_one : ℕ → ℕ → List ℕ → List ℕ
mark_one bit l m = set m l (mark bit true (get_or m l 0))

-- the marks m with this bit put in at each of these locations
unfoldable pub marked : ℕ → List ℕ → List ℕ → List ℕ
marked bit [] m = m
marked bit (l ∷ ls) m = marked bit ls (mark_one bit l m)

-- the marks m with this bit put in wherever the test passes
abbrev pub marked_where : ℕ → (ℕ → Bool) → List ℕ → List ℕ
marked_where bit test m = by_place (λ l v. mark bit (test l) v) 0 m

-- the marks m with this bit put in at location l, if it is dynamic
abbrev pub marked_if_dynamic : Program → ℕ → ℕ → List ℕ → List ℕ
marked_if_dynamic B bit l m = if dynamic_at B l then mark_one bit l m else m

-- location l, which is f's at x and y, is dynamic; at elements the function's kind says so
abbrev pub dynamic_of : Program → Function → ℕ → ℕ → ℕ → Bool
dynamic_of B f x y l = if ltb x B.E && ltb y B.E then dynamic f else dynamic_at B l

-- f is a function of the program, of arity r
abbrev pub Has : Program → ℕ → ℕ → Type 0
Has B f r = (f < length B.functions) × ((function_at B f).arity ≡ r)

-- the kinds of rules whose b is a universe: forall, import and choose
abbrev pub InUniverse : ℕ → Type 0
InUniverse k = (k ≡ 25) ⊎ (k ≡ 26) ⊎ (k ≡ 28)

-- What the engine relies on in a program: each function's locations lie where its row says, and the first E, which are Reserve's, are dynamic; each function
-- has its stride, and terms and universes name functions with as many arguments, so that a location is a sum. Every lawful book has this (`placed`,
-- proofs/Leaves).
pub record Placed (B : Program) : Type 0 where
  pub own : (f x y : ℕ) → f < length B.functions → x < B.E → y < B.E → dynamic_at B (location B f x y) ≡ dynamic (function_at B f)
  pub roll : (x : ℕ) → x < B.E → dynamic_at B x ≡ true
  pub strides : Strided B
  pub none : (n : ℕ) → (node_at B n).kind ≡ 4 → Has B (node_at B n).a 0
  pub one : (n : ℕ) → (node_at B n).kind ≡ 5 → Has B (node_at B n).a 1
  pub two : (n : ℕ) → (node_at B n).kind ≡ 6 → Has B (node_at B n).a 2
  pub universe : (n : ℕ) → InUniverse (node_at B n).kind → Has B (node_at B n).b 1
  -- a location fits in the word that an instruction has for it
  pub small : (f x y : ℕ) → x < 65536 → y < 65536 → sum (function_at B f) x y < 4294967296

-- In a program that the engine can rely on: location l is function f's sum at x and y, and if these are elements the function's kind says whether it is
-- dynamic
abbrev pub SumAt : Program → ℕ → ℕ → ℕ → ℕ → Type 0
SumAt B f x y l = Placed B → (sum (function_at B f) x y ≡ l) × (x < B.E → y < B.E → dynamic_at B l ≡ dynamic (function_at B f))

-- In a program that the engine can rely on: on the contents c the computation w gives a, and the marks m become n: each dynamic location that it reads has
-- the bit.
pub record Runs {A : Type 0} (B : Program) (c : List ℕ) (bit : ℕ) (w : Reader A) (a : A) (m n : List ℕ) : Type 0 where
  pub value : Placed B → a ≡ value_in c w
  pub marks : Placed B → n ≡ marked bit (dynamic_among B (locations_read c w)) m
