-- `is_misplaced` meets its contract.
-- a forall is a binder
use mathlib.Core.Path.{◌≡◌, sym, ap, ◌∙◌}
use mathlib.Core.Bool.{false, or-false, false≢true}
use Prim.Native.Nat.{ℕ}
use native.Mathlib.Omega.{arith}
use lib.Dec.{eqb}
use borrow.Author.Tests.{eq-eqb, ne_eqb, lt-leb}
use Rattle.book.specs.Kinds.{is_binder}
use Rattle.book.specs.Scopes.{misplaced}
use Rattle.book_scopes.proofs.is_misplaced.Goals as goal

no_forall : (k : ℕ) → is_binder k ≡ false → eqb k 25 ≡ false
no_forall k e = ne_eqb k 25 (λ q. false≢true (sym e ∙ ap is_binder q))

pub returns-then-y-eq2 : goal.returns-then-y-eq2
unfolding misplaced
returns-then-y-eq2 c =
    let k = c.args.y.kind in
    simp (eq-eqb k 2 (omega arith), lt-leb 24 k (omega arith), ne_eqb k 28 (λ e. omega arith), ne_eqb k 25 (λ e. omega arith), or-false, c.is_bound.ensures)

pub returns-then-is_binder : goal.returns-then-is_binder
unfolding misplaced
returns-then-is_binder c =
    let k = c.args.y.kind in
    let e = sym c.is_binder.ensures ∙ c.if-is_binder.true in
    simp (ne_eqb k 2 (λ e. omega arith), e, c.is_bound-then-is_binder.ensures)

pub returns : goal.returns
unfolding misplaced
returns c =
    let k = c.args.y.kind in
    let e = sym c.is_binder.ensures ∙ c.if-is_binder.false in
    simp (ne_eqb k 2 (λ e. omega arith), e, no_forall k e, or-false)
