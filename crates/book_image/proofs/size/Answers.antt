-- `size` meets its contract.
use Rattle.book.proofs.Image.{below}
use borrow.Author.Tests.{eq-eqb, ne_eqb}
use Rattle.book_image.proofs.size.Goals as goal

pub returns-then-arity-eq0 : goal.returns-then-arity-eq0
returns-then-arity-eq0 c = rw (eq-eqb _ _ c.if-arity-eq0.true)

pub returns-then-arity-eq1 : goal.returns-then-arity-eq1
returns-then-arity-eq1 c = rw (ne_eqb _ _ c.if-arity-eq0.false, eq-eqb _ _ c.if-arity-eq1.true)

pub overflow_mul-result : goal.overflow_mul-result
overflow_mul-result c = let a = c.ranges in record { fits = below 16 a.e.fits a.e.fits }

pub returns : goal.returns
returns c = rw (ne_eqb _ _ c.if-arity-eq0.false, ne_eqb _ _ c.if-arity-eq1.false)
