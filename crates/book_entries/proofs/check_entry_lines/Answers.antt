-- `check_entry_lines` meets its contract.
use native.Mathlib.Omega.{arith}
use Rattle.book_entries.proofs.Pass.{entry_line, ill_formed, at_fault_from, all_sound}
use Rattle.book_entries.proofs.Roll.{tests_passed, bad_tests, roll_none, roll_step, low_none, low_step}
use Rattle.book_entries.specs.Pass.{bad_at}
use Rattle.book_entries.specs.Roll.{entries_from, roll_with}
use Rattle.book.specs.Sum.{Strided}
use Rattle.book.specs.Image.{program_in}
use Rattle.book.specs.Contents.{entry_fits, bad_entry}
use Rattle.book.specs.Lines.{entry_of}
use Rattle.book.specs.Book.{function_at, entry_at}
use Rattle.book.specs.declared.Entry.{Entry}
use Rattle.text.proofs.Fields.{parsed_none, parsed_some}
use Rattle.text.proofs.Words.{least_pass, least_stop, least_end}
use Rattle.text.specs.Text.{bad_line}
use borrow.Author.Tests.{not-false}
use lib.Dec.{leb}
use Prim.Native.Nat.{◌-◌, ◌+◌}
use mathlib.Core.List.{List}
use mathlib.Core.Bool.{true, not, ◌&&◌}
use mathlib.Core.Path.{◌≡◌, refl, sym, ap, ◌∙◌}
use Rattle.book_entries.proofs.check_entry_lines.Goals as goal
use Rattle.book_entries.proofs.check_entry_lines.Goals.{After-from-x, After-no_trace, After-add_to_roll}

-- the entry of the line that the loop reads
there :
    (c : After-from-x) →
    entry_at (entries_from c.args.text.now c.args.first (c.args.end - c.args.first)) (c.loop-i.i - c.args.first)
    ≡ c.from-x.result
there c =
    let a = c.args in
    let l = c.loop-i in
    entry_line a.text.now a.first a.end l.i (omega arith) c.loop-i-test.true
    ∙ sym (c.from-x.ensures ∙ ap entry_of ((parsed_some a.text.now l.i _ c.parse.ensures _ c.in-Some.is).1))

-- what the tests of the entry say
rest :
    (c : After-no_trace) → Strided (program_in c.args.image.now) →
    bad_entry (program_in c.args.image.now) (entries_from c.args.text.now c.args.first (c.args.end - c.args.first)) (c.loop-i.i - c.args.first)
    ≡ not (c.in_bounds.result && (c.entry_fits.result && leb c.loop-i.low c.location-place.result && c.no_trace.result))
rest c strided =
    let a = c.args in
    let l = c.loop-i in
    let es : List Entry = entries_from a.text.now a.first (a.end - a.first) in
    rw (
      c.no_trace.ensures,
      c.entry_fits.ensures,
      c.in_bounds.ensures,
      c.location-place.ensures,
      c.function_at-f.ensures,
      c.functions-n.ensures,
      c.elements-e.ensures,
      c.permanent-p.ensures,
      l.invariant.3 strided,
      l.invariant.2,
    )
    (bad_tests (program_in a.image.now) strided es (l.i - a.first) c.from-x.result (entry_line a.text.now a.first a.end l.i (omega arith) c.loop-i-test.true ∙ sym (c.from-x.ensures ∙ ap entry_of ((parsed_some a.text.now l.i _ c.parse.ensures _ c.in-Some.is).1))) a.roll.now c.requires)

-- ---- an entry that passed its tests: it is in bounds, and fits its function

tests : (c : After-add_to_roll) → (c.in_bounds.result ≡ true) × (c.entry_fits.result ≡ true)
tests c = tests_passed c.in_bounds.result c.entry_fits.result (leb c.loop-i.low c.location-place.result) c.no_trace.result c.if-not-in_bounds-entry_fits.false-raw

-- it fits its function
fitted :
    (c : After-add_to_roll) →
    entry_fits (program_in c.args.image.now).P c.from-x.result (function_at (program_in c.args.image.now) c.from-x.result.function) ≡ true
fitted c = sym (c.entry_fits.ensures ∙ rw (c.function_at-f.ensures, c.permanent-p.ensures)) ∙ (tests c).1

pub loop-i-init : goal.loop-i-init
loop-i-init c = let a = c.args in let z : a.first - a.first ≡ 0 = omega arith in (refl, λ strided. refl, rw z (roll_none (entries_from a.text.now a.first (a.end - a.first)) a.roll.now), λ strided. rw z (low_none (program_in a.image.now) (entries_from a.text.now a.first (a.end - a.first))))

pub returns-in_default : goal.returns-in_default
returns-in_default c = λ strided. let a = c.args in let l = c.loop-i in let w = parsed_none a.text.now l.i _ c.parse.ensures c.in_default.is in ill_formed (program_in a.image.now) a.text.now a.first a.end l.i (least_stop (bad_line a.text.now) a.end l.i c.loop-i-test.true (ap not w) l.invariant.0)

pub returns-then-not-in_bounds-entry_fits : goal.returns-then-not-in_bounds-entry_fits
returns-then-not-in_bounds-entry_fits c = λ strided. let a = c.args in let l = c.loop-i in at_fault_from (program_in a.image.now) a.text.now a.first a.end _ l.i c.fault_at.ensures l.invariant.0 (least_stop (bad_at (program_in a.image.now) a.text.now a.first (a.end - a.first)) a.end l.i c.loop-i-test.true (rest (goal.at.returns-then-not-in_bounds-entry_fits c).After-no_trace strided ∙ c.if-not-in_bounds-entry_fits.true-raw) (l.invariant.1 strided))

pub loop-i-preserved : goal.loop-i-preserved
loop-i-preserved c = let a = c.args in let l = c.loop-i in let x = c.from-x.result in let z : l.i + 1 - a.first ≡ l.i - a.first + 1 = omega arith in let w = parsed_some a.text.now l.i _ c.parse.ensures _ c.in-Some.is in (least_pass (bad_line a.text.now) a.end l.i c.loop-i-test.true (ap not w.0) l.invariant.0, λ strided. least_pass (bad_at (program_in a.image.now) a.text.now a.first (a.end - a.first)) a.end l.i c.loop-i-test.true (rest (goal.at.loop-i-preserved c).After-no_trace strided ∙ c.if-not-in_bounds-entry_fits.false-raw) (l.invariant.1 strided), rw z (c.add_to_roll.ensures ∙ ap (roll_with x) l.invariant.2 ∙ sym (roll_step (entries_from a.text.now a.first (a.end - a.first)) (l.i - a.first) a.roll.now x (there (goal.at.loop-i-preserved c).After-from-x))), λ strided. rw (z, c.location-place.ensures, c.function_at-f.ensures) (sym (low_step (program_in a.image.now) strided (entries_from a.text.now a.first (a.end - a.first)) (l.i - a.first) x (there (goal.at.loop-i-preserved c).After-from-x) (fitted (goal.at.loop-i-preserved c).After-add_to_roll))))

pub returns : goal.returns
returns c = λ strided. let a = c.args in let l = c.loop-i in all_sound (program_in a.image.now) a.text.now a.first a.end (least_end (bad_line a.text.now) a.end l.i c.loop-i-test.false l.invariant.0) (least_end (bad_at (program_in a.image.now) a.text.now a.first (a.end - a.first)) a.end l.i c.loop-i-test.false (l.invariant.1 strided))
