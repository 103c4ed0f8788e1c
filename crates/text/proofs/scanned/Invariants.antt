-- The columns left, from the state so far, are scanned as all of them from the start.
use Rattle.std.proofs.Common.{◌≡◌, drop}
use Rattle.text.specs.Scan.{scan}
use Rattle.text.specs.declared.Scan.TheVariants.{Blank}
use Rattle.text.proofs.scanned.Given as goal

abbrev pub invariant-loop-b : goal.invariant-loop-b
invariant-loop-b l = scan l.s (drop l.b-index l.b-items) ≡ scan Blank l.b-items
