-- What an import reads: Reserve from the first label not yet tried to the one taken, and at a move's first import from P on.
use Rattle.std.specs.Prelude.{Some}
use Rattle.std.specs.Prelude.{if◌then◌else◌}
use mathlib.Core.Path.{◌≡◌, refl, ap, ◌∙◌}
use mathlib.Core.Bool.{Bool, true, false}
use mathlib.Core.List.{List, [], ◌∷◌, ◌++◌}
use Prim.Native.Nat.{ℕ, zero, suc, ◌+◌, ◌-◌, ◌≤◌, ◌<◌}
use native.Mathlib.Omega.{arith}
use lib.Dec.{eqb}
use lib.ListN.{set}
use Rattle.text.specs.Words.{table_from}
use Rattle.book.specs.Book.{Program, true_element, agent_at, node_at}
use Rattle.book.specs.Sound.{at}
use Rattle.engine.specs.Reader.{done, value_in, locations_read, ◌>>=◌}
use Rattle.engine.specs.Rule.{Rule, import, Walk, ◌then◌, lowest, import_of, all_taken, walk, agent_walk, rule_at, no_variables}
use Rattle.engine.proofs.Reader.{reads_bind}

found_here : (x y : ℕ) → Some x ≡ Some y → x ≡ y
found_here x y e = cc

-- a search from x that finds y reads Reserve from x to y, one by one
pub lowest_reads : (c : List ℕ) (x n y : ℕ) → value_in c (lowest x n) ≡ Some y → (x ≤ y) × (y < x + n) × (locations_read c (lowest x n) ≡ table_from (λ l. l) x (suc y - x))
unfolding lowest value_in locations_read ◌>>=◌ table_from
lowest_reads c x zero y e = let z : ◌≡◌ {A = ℕ} 0 1 = cc in absurd (omega arith)
lowest_reads c x (suc n) y e = go (eqb (at c x) true_element) e (lowest_reads c (suc x) n y)
  where
    go : (b : Bool) → value_in c (if b then done (Some x) else lowest (suc x) n) ≡ Some y
        → (value_in c (lowest (suc x) n) ≡ Some y → (suc x ≤ y) × (y < suc x + n) × (locations_read c (lowest (suc x) n) ≡ table_from (λ l. l) (suc x) (suc y - suc x)))
        → (x ≤ y) × (y < x + suc n) × (x ∷ locations_read c (if b then done (Some x) else lowest (suc x) n) ≡ table_from (λ l. l) x (suc y - x))
    go true e r =
        let z : x ≡ y = found_here x y e in
        let k : suc y - x ≡ 1 = omega arith in
        (omega arith, omega arith, rw k)
    go false e r =
        let t = r e in
        let h : suc x ≤ y = t.0 in
        let k : suc y - x ≡ suc (suc y - suc x) = omega arith in
        (omega arith, omega (arith, t.1), rw k (ap (λ (s : List ℕ). x ∷ s) t.2))

-- an import that finds y reads Reserve from `next` to y, and then goes on with `next` past y
pub import_reads : (B : Program) (c : List ℕ) (me n x u : ℕ) (r : Rule) (vs : List ℕ) (w : Walk) (y : ℕ) → value_in c (lowest w.next (B.E - w.next)) ≡ Some y
    → locations_read c (walk B me (import n x u r) vs w)
    ≡ table_from (λ l. l) w.next (suc y - w.next) ++ locations_read c (import_of B n u w (λ z. walk B me r (set vs x z)) (Some y))
unfolding walk
import_reads B c me n x u r vs w y e =
    reads_bind c (lowest w.next (B.E - w.next)) (λ o. import_of B n u w (λ z. walk B me r (set vs x z)) o)
    ∙ rw (e, (lowest_reads c w.next (B.E - w.next) y e).2)

-- a move starts with no label tried, so its first import searches from P on; and with all its picks, none of which may be left at the end
pub first_label : (B : Program) (k : ℕ) (ys : List ℕ)
    → agent_walk B k ys
    ≡ (walk B (agent_at B k).element (rule_at (node_at B) (agent_at B k).root) no_variables (record { made = []; next = B.P; left = ys })
    >>= λ o. done (o then λ w. all_taken (agent_at B k).root w.left w))
unfolding agent_walk
first_label B k ys = refl
