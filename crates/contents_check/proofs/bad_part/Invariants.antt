-- `bad_part` meets its contract.
use Prim.Native.Nat.{◌-◌, ◌≤◌}
use Rattle.book.specs.Book.{Program}
use Rattle.contents_check.specs.Part.{Part}
use Rattle.contents_check.proofs.Scan.{Passed}
use Rattle.contents_check.proofs.bad_part.Given as goal

abbrev pub invariant-loop-l : goal.invariant-loop-l
invariant-loop-l l =
    (l.first ≤ l.l) × (l.l ≤ l.end) × ((B : Program) (k : Part B l.e l.p l.f l.first l.end) → Passed B l.contents l.e l.p l.f l.first l.end k l.l)

abbrev pub decreases-loop-l : goal.decreases-loop-l
decreases-loop-l l = l.end - l.l
