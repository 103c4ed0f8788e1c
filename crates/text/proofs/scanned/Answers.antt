-- `scanned` meets its contract.
use Rattle.std.proofs.Common.{◌≡◌, ◌∙◌, sym, ap, ◌+◌, ◌-◌, take, drop, arith}
use Rattle.text.specs.Scan.{ends_well}
use Rattle.text.proofs.Fields.{scan_step, scan_end, scan_field}
use Rattle.text.proofs.scanned.Goals as goal

pub loop-b-preserved : goal.loop-b-preserved
loop-b-preserved c = rw c.scan_byte-s.ensures (sym (scan_step _ _ _ c.loop-b-test.true) ∙ c.loop-b.invariant)

pub returns : goal.returns
returns c =
    let a = c.args in
    let six : a.at + 6 - a.at ≡ 6 = omega arith in
    c.scan_ends.ensures ∙ ap ends_well (sym (scan_end _ _ _ c.loop-b-test.false) ∙ c.loop-b.invariant) ∙ rw six (scan_field (take 6 (drop a.at a.text.now)))
