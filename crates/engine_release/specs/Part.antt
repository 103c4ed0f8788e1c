-- A label x cleared from a function's part: every location of the part that a release of x clears gets its default. And what clearing reads.
use Rattle.std.specs.Prelude.{◌&&◌, List, [], ◌∷◌, ℕ, ◌+◌, ltb, length, get_or, if◌then◌else◌}
use Rattle.text.specs.Words.{by_place}
use Rattle.book.specs.declared.Function.{Function}
use Rattle.book.specs.Book.{default}
use Rattle.engine.specs.Move.{append_from, taken_reads}
use Rattle.engine_instruction.specs.Given.{clears_in}
use Rattle.engine_term.specs.Marks.{marked_where}

-- what location i of f, holding v, has after x is cleared
abbrev pub value_cleared_in : Function → ℕ → ℕ → ℕ → ℕ
value_cleared_in f x i v = if clears_in f i v x then default f else v

-- the part after x is cleared from it
abbrev pub part_cleared : Function → ℕ → List ℕ → List ℕ
part_cleared f x part = by_place (value_cleared_in f x) 0 part

-- the writer marks of the part after x is cleared from it
abbrev pub part_marked : ℕ → Function → ℕ → List ℕ → List ℕ → List ℕ
part_marked bit f x part ms = marked_where bit (λ i. ltb i (length part) && clears_in f i (get_or part i 0) x) ms

-- ---- what clearing reads

-- what clearing location l reads, which holds v and gets d: l itself, and Reserve at v if v is a label other than d
abbrev pub cleared_reads : ℕ → ℕ → ℕ → ℕ → List ℕ
cleared_reads P d l v = l ∷ taken_reads P v d

-- what clearing x reads at location i of f, holding v, where f's part starts at location `first`
abbrev pub reads_in : ℕ → Function → ℕ → ℕ → ℕ → ℕ → List ℕ
reads_in P f x first i v = if clears_in f i v x then cleared_reads P (default f) (first + i) v else []

-- what clearing x reads in the whole part
abbrev pub part_reads : ℕ → Function → ℕ → ℕ → List ℕ → List ℕ
part_reads P f x first part = append_from (λ i. reads_in P f x first i (get_or part i 0)) 0 (length part)
