-- `bad_part` meets its contract.
use Prim.Native.Nat.{◌+◌}
use native.Mathlib.Omega.{arith}
use Rattle.contents_check.proofs.Scan.{scan_start, scan_skip, scan_pass, scan_stop, scan_end}
use Rattle.contents_check.proofs.bad_part.Goals as goal

pub loop-l-init : goal.loop-l-init
loop-l-init c =
    let a = c.args in
    let v = c.faultless_value-v in
    let h = c.skip_value-l.ensures in (
      h.from,
      h.to,
      λ B k. scan_skip B a.contents.now a.e a.p a.f a.first a.end k a.first (omega arith) (scan_start B a.contents.now a.e a.p a.f a.first a.end k) v.result c.skip_value-l.result v.ensures h,
    )

pub returns-then-is_bad-clause-value : goal.returns-then-is_bad-clause-value
returns-then-is_bad-clause-value c =
    let a = c.args in
    let l = c.loop-l in
    let j = c.is_bad in
    λ B k. scan_stop B a.contents.now a.e a.p a.f a.first a.end k l.l l.invariant.0 (l.invariant.2 B k) j.result c.loop-l-test.true (j.ensures B) c.if-is_bad.true

pub loop-l-preserved : goal.loop-l-preserved
loop-l-preserved c =
    let a = c.args in
    let l = c.loop-l in
    let j = c.is_bad in
    let v = c.faultless_value-v in
    let h = c.skip_value-l-in-loop-l.ensures in (
      omega (arith, l.invariant.0, h.from),
      h.to,
      λ B k. scan_skip B a.contents.now a.e a.p a.f a.first a.end k (l.l + 1) (omega (arith, l.invariant.0)) (scan_pass B a.contents.now a.e a.p a.f a.first a.end k l.l l.invariant.0 (l.invariant.2 B k) j.result c.loop-l-test.true (j.ensures B) c.if-is_bad.false) v.result c.skip_value-l-in-loop-l.result v.ensures h,
    )

pub returns-clause-value : goal.returns-clause-value
returns-clause-value c =
    let a = c.args in
    let l = c.loop-l in
    λ B k. scan_end B a.contents.now a.e a.p a.f a.first a.end k l.l l.invariant.0 (l.invariant.2 B k) c.loop-l-test.false
