-- `last_two` meets its contract.
use Rattle.text.proofs.Fields.{after_blank, two_digits, no_digits}
use borrow.Author.Tests.{ne_eqb}
use Rattle.text.proofs.last_two.Goals as goal

pub returns-then-e-eq32 : goal.returns-then-e-eq32
returns-then-e-eq32 c = let e = c.if-e-eq32.true in rw e (after_blank c.last_column.ensures)

pub returns-then-is_leading_digit-is_digit : goal.returns-then-is_leading_digit-is_digit
returns-then-is_leading_digit-is_digit c = let a = c.args in two_digits a.e a.f (ne_eqb _ _ c.if-e-eq32.false) (rw (← c.is_leading_digit.ensures, ← c.is_digit.ensures) c.if-is_leading_digit-is_digit.true)

pub returns-else-is_leading_digit-is_digit : goal.returns-else-is_leading_digit-is_digit
returns-else-is_leading_digit-is_digit c = let a = c.args in no_digits a.e a.f (ne_eqb _ _ c.if-e-eq32.false) (rw (← c.is_leading_digit.ensures, ← c.is_digit.ensures) c.if-is_leading_digit-is_digit.false)
