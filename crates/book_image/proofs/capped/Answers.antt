-- `capped` meets its contract.
use native.Mathlib.Omega.{arith}
use Rattle.book_image.proofs.Bounds.{min_capped}
use Rattle.book_image.proofs.capped.Goals as goal

pub returns : goal.returns
returns c = (
  simp (c.min.ensures, c.min-2.ensures, c.min-3.ensures, c.min-4.ensures, c.min-5.ensures, c.min-6.ensures, min_capped),
  record { elements = omega arith; permanent = omega arith; functions = omega arith; nodes = omega arith; agents = omega arith; contents = omega arith },
)
