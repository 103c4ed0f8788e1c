-- `last_three` meets its contract.
use Rattle.text.proofs.Fields.{after_blank, three_digits, no_three}
use borrow.Author.Tests.{ne_eqb}
use Rattle.text.proofs.last_three.Goals as goal

pub returns-then-d-eq32 : goal.returns-then-d-eq32
returns-then-d-eq32 c = let e = c.if-d-eq32.true in rw e (after_blank c.last_two.ensures)

pub returns-then-is_leading_digit-is_digit : goal.returns-then-is_leading_digit-is_digit
returns-then-is_leading_digit-is_digit c = let a = c.args in three_digits a.d a.e a.f (ne_eqb _ _ c.if-d-eq32.false) (rw (← c.is_leading_digit.ensures, ← c.is_digit.ensures, ← c.is_digit-else-d-eq32.ensures) c.if-is_leading_digit-is_digit.true)

pub returns-else-is_leading_digit-is_digit : goal.returns-else-is_leading_digit-is_digit
returns-else-is_leading_digit-is_digit c = let a = c.args in no_three a.d a.e a.f (ne_eqb _ _ c.if-d-eq32.false) (rw (← c.is_leading_digit.ensures, ← c.is_digit.ensures, ← c.is_digit-else-d-eq32.ensures) c.if-is_leading_digit-is_digit.false)
