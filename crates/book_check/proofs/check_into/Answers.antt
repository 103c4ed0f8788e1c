-- `check_into` meets its contract.
use Rattle.std.specs.Prelude.{None}
use native.Mathlib.Omega.{arith}
use Rattle.book_check.proofs.Chain.{answered, stops, goes_on, after, opened_refused, opened_same, of_line, of_bounds, header, book_chain, lines_sound, header_room, bounds_passed}
use Rattle.book_check.specs.ImageOf.{check_text}
use Rattle.book.specs.Check.{check_book}
use Rattle.book.specs.declared.Header.{Header}
use Rattle.text.proofs.Fields.{parsed_none, parsed_some}
use Rattle.text.proofs.Checks.{refused_on, passing, refusing, refused_alike, none_numbered, must_numbered}
use Rattle.text.specs.Text.{line, bad_line, line_bytes, well_formed}
use Rattle.text.specs.Words.{Answer, told, least, must, answer_of}
use mathlib.Core.Bool.{true, false}
use mathlib.Core.List.{List}
use Prim.Native.Nat.{ℕ}
use mathlib.Core.Path.{◌≡◌, refl, sym, ap, ◌∙◌}
use Rattle.book_check.proofs.check_into.Goals as goal
use Rattle.book_check.proofs.check_into.Goals.{After-header_of, After-none_at-bounds}

header_is : (c : After-header_of) → c.header_of.result ≡ header c.args.book.now
header_is c =
    let a = parsed_some c.args.book.now 0 _ c.parse.ensures _ c.in-Some.is in
    let b = parsed_some c.args.book.now 1 _ c.parse-2.ensures _ c.in-Some-parse.is in
    c.header_of.ensures ∙ rw (a.1, b.1)

sound : (c : After-header_of) → least (bad_line c.args.book.now) 2 ≡ None
sound c =
    let text = c.args.book.now in
    lines_sound text (parsed_some text 0 _ c.parse.ensures _ c.in-Some.is).0 (parsed_some text 1 _ c.parse-2.ensures _ c.in-Some-parse.is).0

-- a line that is in form passes its check
formed : (text : List ℕ) (i : ℕ) → well_formed (line_bytes text i) ≡ true → ◌≡◌ {A = Answer} (record { number = 0; p = 0; q = 0 }) (answer_of (of_line text i))
unfolding must
formed text i e = rw e

-- a line that is not is refused
unformed : (text : List ℕ) (i : ℕ) → well_formed (line_bytes text i) ≡ false → ◌≡◌ {A = Answer} (record { number = 1; p = i; q = 0 }) (answer_of (of_line text i))
unfolding must
unformed text i e = rw e

bounds : (c : After-none_at-bounds) → told c.none_at-bounds.result ≡ answer_of (of_bounds c.args.book.now)
bounds c =
    let a = parsed_some c.args.book.now 0 _ c.parse.ensures _ c.in-Some.is in
    let b = parsed_some c.args.book.now 1 _ c.parse-2.ensures _ c.in-Some-parse.is in
    answered 3 _ _ _ c.none_at-bounds.ensures (c.bad_header.ensures ∙ rw (a.1, b.1))

pub returns-in_default : goal.returns-in_default
returns-in_default c =
    let text = c.args.book.now in
    let e = ap told c.refused.ensures ∙ stops (of_line text 0) _ _ (unformed text 0 (parsed_none text 0 _ c.parse.ensures c.in_default.is)) (λ z. omega (arith, z)) ∙ ap answer_of (book_chain text) in
    (e, opened_refused _ (check_book text) _ e (refusing c.refused.ensures))

pub returns-in_default-parse : goal.returns-in_default-parse
returns-in_default-parse c =
    let text = c.args.book.now in
    let k = parsed_some text 0 _ c.parse.ensures _ c.in-Some.is in
    let e = ap told c.refused-in_default-parse.ensures
    ∙ after (of_line text 0) _ _ _ (must_numbered _ _ _ _ (omega arith)) (formed text 0 k.0) refl
    (stops (of_line text 1) _ _ (unformed text 1 (parsed_none text 1 _ c.parse-2.ensures c.in_default-parse.is)) (λ z. omega (arith, z))) ∙ ap answer_of (book_chain text) in
    (e, opened_refused _ (check_book text) _ e (refusing c.refused-in_default-parse.ensures))

pub returns-in_err-bounds : goal.returns-in_err-bounds
returns-in_err-bounds c =
    let text = c.args.book.now in
    let k = parsed_some text 0 _ c.parse.ensures _ c.in-Some.is in
    let l = parsed_some text 1 _ c.parse-2.ensures _ c.in-Some-parse.is in
    let e = refused_alike _ c.in_err-bounds.was c.from_residual.ensures.1
    ∙ after (of_line text 0) _ _ _ (must_numbered _ _ _ _ (omega arith)) (formed text 0 k.0) refl
    (after (of_line text 1) _ _ _ (must_numbered _ _ _ _ (omega arith)) (formed text 1 l.0) refl
    (stops (of_bounds text) _ _ (bounds (goal.at.returns-in_err-bounds c).After-none_at-bounds) (refusing c.in_err-bounds.was))) ∙ ap answer_of (book_chain text) in
    (e, opened_refused _ (check_book text) _ e (refused_on _ _ c.from_residual.ensures.1))

pub check_text-requires : goal.check_text-requires
check_text-requires c =
    let s = sound (goal.at.check_text-requires c).After-header_of in (
      rw (header_is (goal.at.check_text-requires c).After-header_of)
          (header_room c.args.book.now s (bounds_passed _ _ (bounds (goal.at.check_text-requires c).After-none_at-bounds) (passing c.in_ok-bounds.was))),
      s,
    )

pub returns : goal.returns
returns c =
    let text = c.args.book.now in
    let k = parsed_some text 0 _ c.parse.ensures _ c.in-Some.is in
    let l = parsed_some text 1 _ c.parse-2.ensures _ c.in-Some-parse.is in
    let e = sym (book_chain text)
    ∙ goes_on (of_line text 0) _ _ (must_numbered _ _ _ _ (omega arith)) (formed text 0 k.0) refl
    ∙ goes_on (of_line text 1) _ _ (must_numbered _ _ _ _ (omega arith)) (formed text 1 l.0) refl
    ∙ goes_on (of_bounds text) _ _ (none_numbered _ _ _ _ (omega arith)) (bounds (goal.at.returns c).After-none_at-bounds) (passing c.in_ok-bounds.was)
    ∙ ap (λ (g : Header). check_text g text) (sym (header_is (goal.at.returns c).After-header_of)) in
    (c.check_text.ensures.0 ∙ ap answer_of (sym e), opened_same _ (check_book text) _ e c.check_text.ensures.1)
