-- `check_text` meets its contract.
-- after the lines are loaded; c.before .. are the states passed

-- no line of functions, nodes and agents is ill-formed
-- Refusal 1 on all lines that the header calls for
-- Refusals 4 to 7, and 3 for L
-- Refusal 1 on a surplus line
use native.Mathlib.Omega.{arith}
use Rattle.std.specs.Prelude.{Err}
use Rattle.book_check.proofs.Chain.{answered, stops, after, last, opened_refused, opened_text, present_numbered, surplus_numbered, program_numbered, rows_found, rows_taken, rows_refused, rows_passed, form_found, rule_found}
use Rattle.book_check.specs.ImageOf.{ImageOf, check_text}
use Rattle.book_load.proofs.Loaded.{laid_holds}
use Rattle.book_load.specs.Loaded.{HoldsLines}
use Rattle.book.specs.Check.{check_present, check_surplus, check_program, check_lines}
use Rattle.book.specs.Image.{HoldsText}
use Rattle.text.proofs.Checks.{refused_on, passing, refusing, refused_alike}
use Rattle.text.specs.Words.{told, none_at, answer_of}
use Rattle.text.specs.Words.{told, Answer}
use mathlib.Core.Path.{◌≡◌, sym, ap, ◌∙◌}
use Rattle.book_check.proofs.check_text.Goals as goal
use Rattle.book_check.proofs.check_text.Goals.{After-must-surplus, After-none_at-form}

taken_zero : (c : After-none_at-form) → (answer_of (none_at 1 0 0 c.load.result)).number ≡ 0
taken_zero c = ap (λ (a : Answer). a.number) (sym c.none_at-rows.ensures) ∙ (passing c.in_ok-rows.was)

rows_are : (c : After-none_at-form) → HoldsLines c.load.new.image c.args.h c.args.text.now
rows_are c = rows_taken c.args.h c.args.text.now c.args.image.now c.requires.0 c.load.result c.load.new.image c.check_program-program.ensures.1 c.load.ensures.1 (taken_zero c)

holds_are : (c : After-none_at-form) → HoldsText c.check_program-program.new.image c.args.h c.args.text.now
holds_are c = rw c.check_program-program.ensures.0 (laid_holds c.load.new.image c.args.h c.args.text.now c.requires.0 c.check_program-program.ensures.1 (rows_are c))

opened : (c : After-none_at-form) → ImageOf c.check_program-program.new.image (check_text c.args.h c.args.text.now)
opened c = rw c.check_program-program.ensures.0 (opened_text c.load.new.image c.args.h c.args.text.now c.requires.0 c.check_program-program.ensures.1 (rows_are c))

present : (c : After-none_at-form) → told c.none_at-form.result ≡ answer_of (check_present c.args.h c.args.text.now)
present c =
    answered 1 _ _ _ c.none_at-form.ensures (form_found c.check_program-program.new.image c.args.h c.args.text.now c.requires.0 (holds_are c) c.check_entries-contents.result c.check_entries-contents.ensures)
    ∙ ap answer_of
    (rows_passed c.args.h c.args.text.now c.requires.1 c.load.result (rows_found c.args.h c.args.text.now c.args.image.now c.requires.0 c.load.result c.load.ensures.0) (taken_zero c))

program : (c : After-none_at-form) → told c.check_program-program.result ≡ answer_of (check_program c.args.h c.args.text.now)
program c = c.check_program-program.ensures.2 c.args.h c.args.text.now c.requires.0 (rows_are c)

surplus : (c : After-must-surplus) → told c.must-surplus.result ≡ answer_of (check_surplus c.args.h c.args.text.now)
unfolding check_surplus
surplus c = c.must-surplus.ensures

pub returns-in_err-rows : goal.returns-in_err-rows
returns-in_err-rows c = let a = c.args in let m = a.image.now in let n = (refusing c.in_err-rows.was) in let e = refused_alike _ c.in_err-rows.was c.from_residual.ensures.1 ∙ stops (check_present c.args.h c.args.text.now) _ _ (c.none_at-rows.ensures ∙ ap answer_of (rows_refused c.args.h c.args.text.now c.requires.1 c.load.result (rows_found c.args.h c.args.text.now m c.requires.0 c.load.result c.load.ensures.0) (rw c.none_at-rows.ensures at n))) n in (e, opened_refused _ (check_text c.args.h c.args.text.now) _ e (refused_on _ _ c.from_residual.ensures.1))

pub returns-in_err-form : goal.returns-in_err-form
returns-in_err-form c = (refused_alike _ c.in_err-form.was c.from_residual-in_err-form.ensures.1 ∙ stops (check_present c.args.h c.args.text.now) _ _ (present (goal.at.returns-in_err-form c).After-none_at-form) (refusing c.in_err-form.was), opened (goal.at.returns-in_err-form c).After-none_at-form)

pub overflow_add-all : goal.overflow_add-all
overflow_add-all c = omega (arith, c.requires.0)

pub overflow_add-all-2 : goal.overflow_add-all-2
overflow_add-all-2 c = omega (arith, c.requires.0)

pub overflow_add-all-3 : goal.overflow_add-all-3
overflow_add-all-3 c = omega (arith, c.requires.0)

pub overflow_add-all-4 : goal.overflow_add-all-4
overflow_add-all-4 c = omega (arith, c.requires.0)

pub returns-in_err-surplus : goal.returns-in_err-surplus
returns-in_err-surplus c = (refused_alike _ c.in_err-surplus.was c.from_residual-in_err-surplus.ensures.1 ∙ after (check_present c.args.h c.args.text.now) _ _ _ (present_numbered c.args.h c.args.text.now) (present (goal.at.returns-in_err-surplus c).After-none_at-form) (passing c.in_ok-form.was) (stops (check_surplus c.args.h c.args.text.now) _ _ (surplus (goal.at.returns-in_err-surplus c).After-must-surplus) (refusing c.in_err-surplus.was)), opened (goal.at.returns-in_err-surplus c).After-none_at-form)

pub returns-in_err-program : goal.returns-in_err-program
unfolding check_lines
returns-in_err-program c = let refused : c.check_program-program.result ≡ Err c.in_err-program.field-0.0 = cc c.in_err-program.was in (refused_alike _ refused c.from_residual-in_err-program.ensures.1 ∙ after (check_present c.args.h c.args.text.now) _ _ _ (present_numbered c.args.h c.args.text.now) (present (goal.at.returns-in_err-program c).After-none_at-form) (passing c.in_ok-form.was) (after (check_surplus c.args.h c.args.text.now) _ _ _ (surplus_numbered c.args.h c.args.text.now) (surplus (goal.at.returns-in_err-program c).After-must-surplus) (passing c.in_ok-surplus.was) (stops (check_program c.args.h c.args.text.now) _ _ (program (goal.at.returns-in_err-program c).After-none_at-form) (refusing refused))), opened (goal.at.returns-in_err-program c).After-none_at-form)

pub returns : goal.returns
unfolding check_lines
returns c = let z = ap (λ (a : Answer). a.number) (sym c.none_at-form.ensures) ∙ (passing c.in_ok-form.was) in (after (check_present c.args.h c.args.text.now) _ _ _ (present_numbered c.args.h c.args.text.now) (present (goal.at.returns c).After-none_at-form) (passing c.in_ok-form.was) (after (check_surplus c.args.h c.args.text.now) _ _ _ (surplus_numbered c.args.h c.args.text.now) (surplus (goal.at.returns c).After-must-surplus) (passing c.in_ok-surplus.was) (after (check_program c.args.h c.args.text.now) _ _ _ (program_numbered c.args.h c.args.text.now) (program (goal.at.returns c).After-none_at-form) (omega (arith, passing c.in_ok-program.was)) (last _ _ _ (c.none_at.ensures ∙ ap answer_of (rule_found c.check_program-program.new.image c.args.h c.args.text.now c.requires.0 (holds_are (goal.at.returns c).After-none_at-form) c.check_entries-contents.result c.check_entries-contents.ensures z))))), opened (goal.at.returns c).After-none_at-form)
