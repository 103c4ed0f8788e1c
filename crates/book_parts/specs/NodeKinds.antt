-- The numbers of the kinds of nodes (SPECIFICATION 2.7).
use Rattle.std.specs.Prelude.{ℕ, ◌≡◌, ◌<◌, ◌⊎◌}
use Rattle.book_parts.specs.declared.NodeKind.{NodeKind}
use Rattle.book_parts.specs.declared.NodeKind.TheVariants.{Other, Element, Variable, Agent, Function, FunctionOfOne, FunctionOfTwo, Equal, Not, And, Or, Plus, Minus, Less, Skip, Set, Both, If, Let, Forall, Import, Release, Choose}

-- the kind has the number k
abbrev pub HasNumber : NodeKind → ℕ → Type 0
HasNumber Element k = k ≡ 1
HasNumber Variable k = k ≡ 2
HasNumber Agent k = k ≡ 3
HasNumber Function k = k ≡ 4
HasNumber FunctionOfOne k = k ≡ 5
HasNumber FunctionOfTwo k = k ≡ 6
HasNumber Equal k = k ≡ 7
HasNumber Not k = k ≡ 8
HasNumber And k = k ≡ 9
HasNumber Or k = k ≡ 10
HasNumber Plus k = k ≡ 11
HasNumber Minus k = k ≡ 12
HasNumber Less k = k ≡ 13
HasNumber Skip k = k ≡ 20
HasNumber Set k = k ≡ 21
HasNumber Both k = k ≡ 22
HasNumber If k = k ≡ 23
HasNumber Let k = k ≡ 24
HasNumber Forall k = k ≡ 25
HasNumber Import k = k ≡ 26
HasNumber Release k = k ≡ 27
HasNumber Choose k = k ≡ 28
HasNumber Other k = (k < 1) ⊎ ((13 < k) × (k < 20)) ⊎ (28 < k)
