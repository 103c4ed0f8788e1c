-- `check_contents` meets its contract.
use Rattle.std.specs.Prelude.{Option}
use mathlib.Core.Path.{◌≡◌, ◌∙◌, ap, sym}
use mathlib.Core.List.{List}
use Prim.Native.Nat.{ℕ, min}
use native.Mathlib.Omega.{arith}
use lib.ListN.{length, take}
use Rattle.text.specs.Words.{answer_of, none_at}
use Rattle.book.specs.Image.{word}
use Rattle.book.specs.Image.{low_program}
use Rattle.engine.specs.Single.{check_contents}
use Rattle.engine_step.proofs.Checks.{taken}
use Rattle.engine_step.proofs.check_contents.Goals as goal

pub returns : goal.returns
unfolding check_contents
returns c =
    λ strides.
    let a = c.args in
    let n = c.min-n.result in
    let e : n ≡ min (word a.image.now 6) (length a.contents.now) = omega (arith, c.min-n.ensures, c.locations.ensures) in
    c.none_at.ensures
    ∙ ap (λ (x : Option ℕ). answer_of (none_at 8 0 0 x)) (c.bad_value-found.ensures strides)
    ∙ ap (λ (x : List ℕ). answer_of (check_contents (low_program a.image.now) x)) (taken _ n a.contents.now e)
