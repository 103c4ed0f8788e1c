-- Where the book of an input ends, by the tests of its header; the checks of the input are those of its two parts.
use Rattle.std.specs.Option.{is_some}
use mathlib.Core.Bool.{true≢false, false≢true}
use Rattle.std.specs.Prelude.{Option, None, Some}
use Rattle.std.specs.Prelude.{if◌then◌else◌}
use mathlib.Core.Path.{◌≡◌, refl, sym, ◌∙◌}
use mathlib.Core.Bool.{Bool, true, false, ◌&&◌, not}
use mathlib.Core.List.{List}
use Prim.Native.Nat.{ℕ, ◌*◌, ◌≤◌, ◌<◌, min}
use native.Mathlib.Nat.{min-eq_left, min-eq_right}
use native.Mathlib.Omega.{arith}
use native.Mathlib.Decide.{dec_lt}
use lib.ListN.{length, take, drop, drop_of_length-le}
use lib.Seq.{take_all, take-length, drop-length}
use Rattle.text.specs.declared.Line.{Line}
use Rattle.text.specs.Words.{least_from, least, Checked, good, refused, ◌>>◌, none_at}
use Rattle.text.specs.Text.{line_bytes, well_formed, line, parsed}
use Rattle.text.proofs.Words.{and_cases}
use Rattle.text.proofs.Fields.{parsed_none, parsed_some}
use Rattle.book.specs.declared.Header.{Header}
use Rattle.book.specs.Lines.{header_of, bad_field, line_count}
use Rattle.book.specs.Check.{check_header}
use Rattle.order.specs.Call.{check_all}
use Rattle.report.specs.Report.{most_input, own_tables, check_input}
use Rattle.report.proofs.Split.{input_split, input_header, all_header}
use Rattle.report_print.specs.Split.{called_for, book_length}

-- ---- the header's tests

-- how long the book is, by the tests of its header: a and b say that its lines are in form, o is a field outside its bounds
by_tests :
    (a b : Bool) (o : Option ℕ) (n : ℕ) (h : Header) →
    called_for n (none_at 1 0 0 (if not a then Some 0 else (if not b then Some 1 else None)) >> (none_at 3 0 0 o >> good h))
    ≡ (if a && b then called_for n (none_at 3 0 0 o >> good h) else n)
unfolding none_at ◌>>◌
by_tests true true o n h = refl
by_tests true false o n h = refl
by_tests false b o n h = refl

bounds_refused : (o : Option ℕ) (n : ℕ) (h : Header) → is_some o ≡ true → n ≡ called_for n (none_at 3 0 0 o >> good h)
unfolding none_at ◌>>◌
bounds_refused None n h z = absurd (false≢true z)
bounds_refused (Some i) n h z = refl

bounds_passed : (o : Option ℕ) (n : ℕ) (h : Header) → is_some o ≡ false → min (25 * line_count h) n ≡ called_for n (none_at 3 0 0 o >> good h)
unfolding none_at ◌>>◌
bounds_passed None n h z = refl
bounds_passed (Some i) n h z = absurd (true≢false z)

module _ (text : List ℕ) where
  abbrev of_bounds : Line → Line → Checked Header
  of_bounds k l = none_at 3 0 0 (least (bad_field k l) 8) >> good (header_of k l)

  length_by_tests :
      book_length text
      ≡ (if well_formed (line_bytes text 0) && well_formed (line_bytes text 1) then called_for (length text) (of_bounds (line text 0) (line text 1)) else length text)
  unfolding book_length check_header least_from
  length_by_tests =
      by_tests (well_formed (line_bytes text 0)) (well_formed (line_bytes text 1)) (least (bad_field (line text 0) (line text 1)) 8) (length text)
      (header_of (line text 0) (line text 1))

  module _ (x y : Option Line) (ex : x ≡ parsed text 0) (ey : y ≡ parsed text 1) where
    -- if a header line is ill-formed, the whole input is the book
    pub length_no_first : x ≡ None → length text ≡ book_length text
    length_no_first n = sym (length_by_tests ∙ rw (parsed_none text 0 x ex n))

    pub length_no_second : y ≡ None → length text ≡ book_length text
    length_no_second n = sym (length_by_tests ∙ rw (parsed_none text 1 y ey n) (go (well_formed (line_bytes text 0))))
      where
        go : (b : Bool) → (if b && false then called_for (length text) (of_bounds (line text 0) (line text 1)) else length text) ≡ length text
        go true = refl
        go false = refl

    -- both header lines are in form
    module _ (k l : Line) (ek : x ≡ Some k) (el : y ≡ Some l) where
      length_formed : book_length text ≡ called_for (length text) (of_bounds k l)
      length_formed =
          let a = parsed_some text 0 x ex k ek in
          let b = parsed_some text 1 y ey l el in
          length_by_tests ∙ rw (a.0, b.0, a.1, b.1)

      module _ (o : Option ℕ) {b : Bool} (eo : o ≡ least (bad_field k l) 8) (eb : b ≡ is_some o) where
        pub length_unbounded : b ≡ true → length text ≡ book_length text
        length_unbounded z =
            bounds_refused (least (bad_field k l) 8) (length text) (header_of k l) (rw eo at (sym eb ∙ z)) ∙ sym length_formed

        pub length_bounded : b ≡ false → min (25 * line_count (header_of k l)) (length text) ≡ book_length text
        length_bounded z =
            bounds_passed (least (bad_field k l) 8) (length text) (header_of k l) (rw eo at (sym eb ∙ z)) ∙ sym length_formed

  -- ---- the checks of the two parts

  -- the checks of an input are those of the book and of the log that it is split into
  pub split_checked : length text ≤ most_input → check_input text ≡ check_all (take (book_length text) text) (drop (book_length text) text) own_tables
  unfolding book_length
  split_checked l = go (check_header text) refl
    where
      go :
          (x : Checked Header) → check_header text ≡ x →
          check_input text ≡ check_all (take (called_for (length text) x) text) (drop (called_for (length text) x) text) own_tables
      go (refused n p q) e =
          rw (take-length text) (input_header text n p q e l ∙ sym (all_header text (drop (length text) text) own_tables n p q e))
      go (good h) e = input_split text h e l ∙ parts (dec_lt (length text) (25 * line_count h))
        where
          parts :
              Dec (length text < 25 * line_count h) →
              check_all (take (25 * line_count h) text) (drop (25 * line_count h) text) own_tables
              ≡ check_all (take (min (25 * line_count h) (length text)) text) (drop (min (25 * line_count h) (length text)) text) own_tables
          parts (no k) = let e : min (25 * line_count h) (length text) ≡ 25 * line_count h = min-eq_left (omega arith) in rw e
          parts (yes k) =
              let e : min (25 * line_count h) (length text) ≡ length text = min-eq_right (omega arith) in
              let n : length text ≤ 25 * line_count h = omega arith in
              rw (e, take_all (25 * line_count h) text n, take-length text, drop_of_length-le text {i = 25 * line_count h} n, drop-length text)
