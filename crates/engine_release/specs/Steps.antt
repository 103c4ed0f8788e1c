-- A label x cleared, step by step: from a function's locations, from every function, for one instruction after the other; and what clearing reads.
use Rattle.std.specs.Prelude.{◌&&◌, List, [], ◌∷◌, ◌++◌, ℕ, ◌-◌, ltb, length, get_or, if◌then◌else◌}
use Rattle.text.specs.Words.{by_place}
use Rattle.book.specs.declared.Function.{Function}
use Rattle.book.specs.Book.{Program, default, place, default_at}
use Rattle.book_parts.specs.Part.{between}
use Rattle.engine.specs.declared.Instruction.{Instruction}
use Rattle.engine.specs.declared.Instruction.TheVariants.{Update, Release}
use Rattle.engine.specs.Move.{append_from}
use Rattle.engine_instruction.specs.Given.{clears_in, clears_at}
use Rattle.engine_release.specs.Part.{value_cleared_in, cleared_reads}
use Rattle.engine_term.specs.Marks.{marked_where}

-- the contents c after x is cleared from function f, whose locations go from `first` up to `end`
abbrev pub function_cleared : Function → ℕ → ℕ → ℕ → List ℕ → List ℕ
function_cleared f x first end c = by_place (λ l v. if between first end l then value_cleared_in f x (l - first) v else v) 0 c

-- the writer marks ms after x is cleared from function f
abbrev pub function_marked : ℕ → Function → ℕ → ℕ → ℕ → List ℕ → List ℕ → List ℕ
function_marked bit f x first end c ms =
    marked_where bit (λ l. between first end l && (ltb l (length c) && clears_in f (l - first) (get_or c l 0) x)) ms

-- what clearing x from function f reads
abbrev pub function_reads : ℕ → Function → ℕ → ℕ → ℕ → List ℕ → List ℕ
function_reads P f x first end c =
    append_from (λ l. if ltb l (length c) && clears_in f (l - first) (get_or c l 0) x then cleared_reads P (default f) l (get_or c l 0) else []) first
    (end - first)

-- what location l, holding v, has after x is cleared
abbrev pub value_cleared : Program → ℕ → ℕ → ℕ → ℕ
value_cleared B x l v = value_cleared_in (place B l).function x (place B l).index v

-- the contents c after x is cleared
abbrev pub label_cleared : Program → ℕ → List ℕ → List ℕ
label_cleared B x c = by_place (value_cleared B x) 0 c

-- the writer marks ms after x is cleared from c
abbrev pub label_marked : ℕ → Program → ℕ → List ℕ → List ℕ → List ℕ
label_marked bit B x c ms = marked_where bit (λ l. ltb l (length c) && clears_at B l (get_or c l 0) x) ms

-- what clearing x from c reads
abbrev pub label_reads : Program → ℕ → List ℕ → List ℕ
label_reads B x c =
    append_from (λ l. if clears_at B l (get_or c l 0) x then cleared_reads B.P (default_at B l) l (get_or c l 0) else []) 0 (length c)

-- the contents c after the label that an instruction releases is cleared
abbrev pub instruction_cleared : Program → Instruction → List ℕ → List ℕ
instruction_cleared B (Update l v) c = c
instruction_cleared B (Release x) c = label_cleared B x c

-- the writer marks ms after the label that an instruction releases is cleared
abbrev pub instruction_marked : ℕ → Program → Instruction → List ℕ → List ℕ → List ℕ
instruction_marked bit B (Update l v) c ms = ms
instruction_marked bit B (Release x) c ms = label_marked bit B x c ms

-- what clearing the label that an instruction releases reads
abbrev pub instruction_reads : Program → Instruction → List ℕ → List ℕ
instruction_reads B (Update l v) c = []
instruction_reads B (Release x) c = label_reads B x c

-- the contents c after all labels that the instructions release are cleared, one after the other
unfoldable pub all_cleared : Program → List Instruction → List ℕ → List ℕ
all_cleared B [] c = c
all_cleared B (i ∷ is) c = all_cleared B is (instruction_cleared B i c)

-- the writer marks ms after all labels that the instructions release are cleared
unfoldable pub all_marked : ℕ → Program → List Instruction → List ℕ → List ℕ → List ℕ
all_marked bit B [] c ms = ms
all_marked bit B (i ∷ is) c ms = all_marked bit B is (instruction_cleared B i c) (instruction_marked bit B i c ms)

-- what clearing all labels that the instructions release reads
unfoldable pub all_reads : Program → List Instruction → List ℕ → List ℕ
all_reads B [] c = []
all_reads B (i ∷ is) c = instruction_reads B i c ++ all_reads B is (instruction_cleared B i c)
