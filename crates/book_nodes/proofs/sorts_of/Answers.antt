-- `sorts_of` meets its contract: the table, read row by row, is the table of the definition.
use Rattle.std.proofs.Common.{◌≡◌, ℕ, zero, suc, ◌+◌, ◌*◌, ◌≤◌, List, [], ◌∷◌, refl, sym, arith}
use Rattle.std.proofs.Math.ListN.{get_or, get_or-eq_default}
use Rattle.book.specs.Kinds.{sort, sort_table}
use Rattle.book_nodes.specs.declared.Sort.{Sort}
use Rattle.book_nodes.specs.declared.Sort.TheVariants.{NoKind}
use Rattle.book_nodes.specs.declared.TheConstants.{SORTS}
use Rattle.book_nodes.specs.Sorts.{sort_number}
use Rattle.book_nodes.proofs.sorts_of.Goals as goal

abbrev none : Sort × Sort × Sort
none = (NoKind, NoKind, NoKind)

-- the numbers of the rows
unfoldable numbers : List (Sort × Sort × Sort) → List ℕ
numbers [] = []
numbers (r ∷ t) = sort_number r.0 ∷ sort_number r.1 ∷ sort_number r.2 ∷ numbers t

numbered : (t : List (Sort × Sort × Sort)) (k : ℕ)
    → (sort_number (get_or t k none).0 ≡ get_or (numbers t) (k * 3 + 0) 0)
    × (sort_number (get_or t k none).1 ≡ get_or (numbers t) (k * 3 + 1) 0)
    × (sort_number (get_or t k none).2 ≡ get_or (numbers t) (k * 3 + 2) 0)
unfolding numbers
numbered [] k = (refl, refl, refl)
numbered (r ∷ t) zero = (refl, refl, refl)
numbered (r ∷ t) (suc k) =
    let three : (j : ℕ) → suc k * 3 + j ≡ suc (suc (suc (k * 3 + j))) = λ j. omega arith in
    rw (three 0, three 1, three 2) (numbered t k)

pub returns-then-kind-lt29 : goal.returns-then-kind-lt29
unfolding sort numbers
returns-then-kind-lt29 c = numbered SORTS c.args.kind

pub returns-else-kind-lt29 : goal.returns-else-kind-lt29
unfolding sort
returns-else-kind-lt29 c =
    let past : (i : ℕ) → 87 ≤ i → 0 ≡ get_or sort_table i 0 = λ i g. sym (get_or-eq_default sort_table 0 {n = i} g) in
    let k = c.args.kind in
    (past (k * 3 + 0) (omega arith), past (k * 3 + 1) (omega arith), past (k * 3 + 2) (omega arith))
