-- What firing does, step by step: each instruction's own value put, what firing reads, and the labels that it issues and returns.
use Rattle.std.specs.Prelude.{Bool, ◌&&◌, not, List, [], ◌∷◌, ◌++◌, ℕ, ◌+◌, min, eqb, ltb, length, get_or, set, if◌then◌else◌}
use Rattle.text.specs.Words.{one_if}
use Rattle.book.specs.Book.{Program, L, true_element}
use Rattle.book_parts.specs.declared.Part.{Part}
use Rattle.book_parts.specs.Part.{between, part_of}
use Rattle.engine.specs.declared.Instruction.{Instruction}
use Rattle.engine.specs.declared.Tally.{Tally}
use Rattle.engine.specs.Labels.{tally_of}
use Rattle.engine.specs.Move.{taken_reads}
use Rattle.engine_instruction.specs.Given.{own, gets}
use Rattle.engine_release.specs.Steps.{all_cleared, all_reads}
use Rattle.engine_term.specs.Marks.{mark}

-- the part that l is in; the part held from the last location is tried first
abbrev pub part_after : Program → Part → ℕ → Part
part_after B held l = if between held.first held.end l then held else part_of B l

-- the contents c with each instruction's own value put; n is how many locations the book has
unfoldable pub puts : ℕ → List Instruction → List ℕ → List ℕ
puts n [] c = c
puts n (i ∷ is) c = puts n is (if ltb (own i) n then set c (own i) (gets i) else c)

-- the writer marks ms with the bit at each instruction's own location; n is how many of the book's locations the contents have
unfoldable pub put_marked : ℕ → ℕ → List Instruction → List ℕ → List ℕ
put_marked bit n [] ms = ms
put_marked bit n (i ∷ is) ms = put_marked bit n is (set ms (own i) (mark bit (ltb (own i) n) (get_or ms (own i) 0)))

-- what putting the instructions' own values reads: each may take a label out of its location. n is how many locations the book has
unfoldable pub put_reads : ℕ → ℕ → List Instruction → List ℕ → List ℕ
put_reads P n [] c = []
put_reads P n (i ∷ is) c =
    (if ltb (own i) (min n (length c)) then taken_reads P (get_or c (own i) 0) (gets i) else [])
    ++ put_reads P n is (if ltb (own i) n then set c (own i) (gets i) else c)

-- what firing reads: first the released labels are cleared, then each own value is put
abbrev pub fire_reads : Program → List Instruction → List ℕ → List ℕ
fire_reads B is c = all_reads B is c ++ put_reads B.P (L B) is (all_cleared B is c)

-- ---- labels. Of an accepted book, sound contents and a move that fires these are the move's tally (`fire_tally_is`, proofs/Tallies).

-- location l, which gets w, is one of Reserve's, and a label is issued
abbrev pub issues_at : ℕ → ℕ → ℕ → Bool
issues_at E l w = ltb l E && not (eqb w true_element)

-- location l, which holds v and gets w, is one of Reserve's, and a label is returned
abbrev pub returns_at : ℕ → ℕ → ℕ → ℕ → Bool
returns_at E l w v = ltb l E && (eqb w true_element && not (eqb v true_element))

-- how many labels are issued as the instructions' own values are put
unfoldable pub put_issued : ℕ → List Instruction → ℕ
put_issued E [] = 0
put_issued E (i ∷ is) = one_if (issues_at E (own i) (gets i)) + put_issued E is

-- how many labels are returned as the instructions' own values are put into the contents c; n is how many locations the book has
unfoldable pub put_returned : ℕ → ℕ → List Instruction → List ℕ → ℕ
put_returned E n [] c = 0
put_returned E n (i ∷ is) c =
    one_if (returns_at E (own i) (gets i) (get_or c (own i) 0))
    + put_returned E n is (if ltb (own i) n then set c (own i) (gets i) else c)

-- the labels issued and returned as the instructions' own values are put into the contents c
abbrev pub put_tally : Program → List Instruction → List ℕ → Tally
put_tally B is c = tally_of (put_issued B.E is) (put_returned B.E (L B) is c)

-- the labels issued and returned by firing these instructions in the contents c
abbrev pub fire_tally : Program → List Instruction → List ℕ → Tally
fire_tally B is c = put_tally B is (all_cleared B is c)
