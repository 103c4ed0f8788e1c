-- `stride` meets its contract.
use Rattle.book.proofs.Sum.{stride_low, stride_high}
use native.Mathlib.Omega.{arith}
use mathlib.Core.Path.{sym}
use Rattle.book_image.proofs.stride.Goals as goal

pub returns-then-arity-lt2 : goal.returns-then-arity-lt2
returns-then-arity-lt2 c = sym (stride_low c.args.e c.args.arity c.if-arity-lt2.true)

pub returns-else-arity-lt2 : goal.returns-else-arity-lt2
returns-else-arity-lt2 c = sym (stride_high c.args.e c.args.arity (omega arith))
