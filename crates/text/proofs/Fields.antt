-- The columns of a field, one by one: what the code's scan and pushes give is what the definitions say.
use Rattle.std.specs.Prelude.{Option, None, Some}
use Rattle.std.specs.Option.{is_some, unwrap_or}
use mathlib.Core.Bool.{true≢false, false≢true}
use Rattle.std.specs.Prelude.{if◌then◌else◌}
use mathlib.Core.Path.{◌≡◌, refl, sym, ◌∙◌, ap}
use mathlib.Core.Bool.{Bool, true, false, ◌&&◌, ◌||◌, not, and-true, and_assoc}
use mathlib.Core.List.{List, [], ◌∷◌, ◌++◌}
use Prim.Native.Nat.{ℕ, zero, suc, ◌+◌, ◌-◌, ◌*◌, ◌<◌, ◌≤◌}
use native.Mathlib.Nat.{mul_comm, min-le_right}
use native.Mathlib.Omega.{arith}
use lib.Dec.{eqb, leb, eqb-suc-zero}
use lib.ListN.{length, get_or, take, drop, length-take, length-drop, drop_of_length-le}
use lib.Seq.{length-take-le, take-take, drop-drop, drop-cons, get_or-take, get_or-drop, take-add}
use borrow.Author.Tests.{eqb-true, ne_eqb, leb-true}
use Rattle.text.specs.declared.Scan.{Scan}
use Rattle.text.specs.declared.Scan.TheVariants.{Blank, Zero, Digits, Bad}
use Rattle.text.specs.Text.{blank, zero_digit, digit, digits, field_ok, value_of, line_bytes, column, newline, well_formed, numbers_of, line, parsed}
use Rattle.text.specs.declared.Line.{Line}
use Rattle.text.proofs.Words.{and_cases}
use Rattle.text.specs.Scan.{step_of, scan, ends_well, four_blanks, no_number, Read}

-- ---- the form of a field

scan_bad : (cs : List ℕ) → ends_well (scan Bad cs) ≡ false
unfolding scan step_of
scan_bad [] = refl
scan_bad (c ∷ cs) = scan_bad cs

scan_digits : (cs : List ℕ) → ends_well (scan Digits cs) ≡ digits cs
unfolding scan step_of digits
scan_digits [] = refl
scan_digits (c ∷ cs) = go (digit c) (scan_digits cs) (scan_bad cs)
  where
    go : (d : Bool) → ends_well (scan Digits cs) ≡ digits cs → ends_well (scan Bad cs) ≡ false →
        ends_well (scan (if d then Digits else Bad) cs) ≡ (d && digits cs)
    go true p q = p
    go false p q = q

-- after a 0 nothing may stand
scan_zero : (cs : List ℕ) → ends_well (scan Zero cs) ≡ (digits cs && (eqb (length cs) 0 || not true))
unfolding scan step_of digits
scan_zero [] = refl
scan_zero (c ∷ cs) = scan_bad cs ∙ go (digit c && digits cs)
  where
    go : (d : Bool) → false ≡ (d && (eqb (suc (length cs)) 0 || not true))
    go true = rw (eqb-suc-zero (length cs))
    go false = refl

pub scan_field : (cs : List ℕ) → ends_well (scan Blank cs) ≡ field_ok cs
unfolding scan step_of field_ok
scan_field [] = refl
scan_field (c ∷ cs) = go (eqb c blank) (eqb c zero_digit) refl (digit c) refl (scan_field cs)
  where
    last : (x y : Bool) → x ≡ (true && x && (y || not false))
    last true true = refl
    last true false = refl
    last false y = refl

    go :
        (b z : Bool) → eqb c zero_digit ≡ z → (d : Bool) → digit c ≡ d → ends_well (scan Blank cs) ≡ field_ok cs →
        ends_well (scan (if b then Blank else if z then Zero else if d then Digits else Bad) cs)
        ≡ (if b then field_ok cs else d && digits cs && (eqb (length cs) 0 || not z))
    go true z e d f p = p
    go false true e d f p =
        let q : c ≡ zero_digit = eqb-true c zero_digit e in
        let t : d ≡ true = sym f ∙ rw q in
        rw t (scan_zero cs)
    go false false e true f p = scan_digits cs ∙ last (digits cs) (eqb (length cs) 0)
    go false false e false f p = scan_bad cs

-- ---- parts of a text

-- a part of the first n bytes is a part of the whole
pub part_of_front : (k m n : ℕ) (l : List ℕ) → k + m ≤ n → take m (drop k (take n l)) ≡ take m (drop k l)
part_of_front zero m n l h = take-take m n l (omega arith)
part_of_front (suc k) m zero l h = absurd (omega arith)
part_of_front (suc k) m (suc n) [] h = refl
part_of_front (suc k) m (suc n) (x ∷ xs) h = part_of_front k m n xs (omega arith)

-- field j of line i is the six bytes from byte 25 × i + 6 × j on
column_of : (text : List ℕ) (i j k : ℕ) → k ≡ 6 * j → k ≤ 18 → column j (line_bytes text i) ≡ take 6 (drop (i * 25 + k) text)
column_of text i j k e h =
    let n : 25 * i + 6 * j ≡ i * 25 + k = omega arith in
    part_of_front (6 * j) 6 25 (drop (25 * i) text) (omega arith) ∙ rw (drop-drop (6 * j) (25 * i) text, n)

-- if line i is whole, its fields are parts of the text
pub whole_line :
    (text : List ℕ) (i : ℕ) → i * 25 + 25 ≤ length text →
    well_formed (line_bytes text i)
    ≡ (field_ok (take 6 (drop (i * 25) text)) && field_ok (take 6 (drop (i * 25 + 6) text)) && field_ok (take 6 (drop (i * 25 + 12) text))
    && field_ok (take 6 (drop (i * 25 + 18) text))
    && eqb (get_or text (i * 25 + 24) 0) 10)
unfolding well_formed
whole_line text i h =
    let n : length (line_bytes text i) ≡ 25 = length-take-le 25 (drop (25 * i) text) (rw (length-drop (25 * i) text) (omega arith)) in
    let g : get_or (line_bytes text i) 24 0 ≡ get_or text (i * 25 + 24) 0 =
    get_or-take 25 (drop (25 * i) text) 24 0 (omega arith) ∙ get_or-drop (25 * i) text 24 0 ∙ ap (λ (k : ℕ). get_or text (k + 24) 0) (mul_comm 25 i) in
    rw (
      n,
      column_of text i 0 0 (omega arith) (omega arith),
      column_of text i 1 6 (omega arith) (omega arith),
      column_of text i 2 12 (omega arith) (omega arith),
      column_of text i 3 18 (omega arith) (omega arith),
      g,
    )
    (let z : i * 25 + 0 ≡ i * 25 = omega arith in rw z)

-- if line i is missing or cut short, it is not in form
pub cut_line : (text : List ℕ) (i : ℕ) → length text < i * 25 + 25 → well_formed (line_bytes text i) ≡ false
unfolding well_formed
cut_line text i h =
    let n : length (line_bytes text i) ≡ 25 → ⊥ = λ e. omega (arith, rw (length-take, length-drop) at e, min-le_right 25 (length text - 25 * i)) in
    rw (ne_eqb (length (line_bytes text i)) 25 n)

-- the numbers of line i are those of its four fields
pub line_of :
    (text : List ℕ) (i a b c d : ℕ) → a ≡ value_of 0 (take 6 (drop (i * 25) text)) → b ≡ value_of 0 (take 6 (drop (i * 25 + 6) text)) →
    c ≡ value_of 0 (take 6 (drop (i * 25 + 12) text)) → d ≡ value_of 0 (take 6 (drop (i * 25 + 18) text)) →
    ◌≡◌ {A = Line} (record { a = a; b = b; c = c; d = d }) (line text i)
unfolding numbers_of
line_of text i a b c d p q r s =
    let z : i * 25 + 0 ≡ i * 25 = omega arith in
    rw (
      column_of text i 0 0 (omega arith) (omega arith),
      column_of text i 1 6 (omega arith) (omega arith),
      column_of text i 2 12 (omega arith) (omega arith),
      column_of text i 3 18 (omega arith) (omega arith),
      z,
      p,
      q,
      r,
      s,
    )

-- ---- one column more

-- the scan of the columns from k on is one column scanned, and then the others
module _ (cs : List ℕ) where
  pub scan_step : (k : ℕ) (s : Scan) → k < length cs → scan s (drop k cs) ≡ scan (step_of s (get_or cs k 0)) (drop (k + 1) cs)
  unfolding scan
  scan_step k s h = let n : suc k ≡ k + 1 = omega arith in rw (drop-cons cs k 0 h, n)

  pub scan_end : (k : ℕ) (s : Scan) → length cs ≤ k → scan s (drop k cs) ≡ s
  unfolding scan
  scan_end k s h = rw (drop_of_length-le cs h)

value_append : (n : ℕ) (a b : List ℕ) → value_of n (a ++ b) ≡ value_of (value_of n a) b
unfolding value_of
value_append n [] b = refl
value_append n (x ∷ a) b = value_append (if eqb x blank then n else 10 * n + (x - zero_digit)) a b

module _ (text : List ℕ) (at : ℕ) where
  -- the number of the columns from k on is column k pushed, and then the `left` others
  value_step :
      (k left n m r : ℕ) → m ≡ value_of n (take 1 (drop (at + k) text)) → value_of m (take left (drop (at + (k + 1)) text)) ≡ r →
      value_of n (take (1 + left) (drop (at + k) text)) ≡ r
  value_step k left n m r p q =
      let e : (at + k) + 1 ≡ at + (k + 1) = omega arith in
      ap (value_of n) (take-add 1 left (drop (at + k) text)) ∙ value_append n (take 1 (drop (at + k) text)) (take left (drop 1 (drop (at + k) text)))
      ∙ rw (drop-drop 1 (at + k) text, e, ← p) q

  -- six columns pushed one after the other give the number of the field
  pub six :
      (a b c d e f : ℕ) → a ≡ value_of 0 (take 1 (drop at text)) → b ≡ value_of a (take 1 (drop (at + 1) text)) →
      c ≡ value_of b (take 1 (drop (at + 2) text)) → d ≡ value_of c (take 1 (drop (at + 3) text)) →
      e ≡ value_of d (take 1 (drop (at + 4) text)) → f ≡ value_of e (take 1 (drop (at + 5) text)) →
      f ≡ value_of 0 (take 6 (drop at text))
  six a b c d e f p q r s t u =
      let z : at + 0 ≡ at = omega arith in
      let h4 = value_step 4 1 d e f t (sym u) in
      let h3 = value_step 3 2 c d f s h4 in
      let h2 = value_step 2 3 b c f r h3 in
      let h1 = value_step 1 4 a b f q h2 in
      let h0 = value_step 0 5 0 a f (rw z p) h1 in
      sym (rw z at h0)

  -- one column pushed, as the code does it
  pub pushed :
      (n : ℕ) → at < length text →
      value_of n (take 1 (drop at text)) ≡ (if eqb (get_or text at 0) blank then n else 10 * n + (get_or text at 0 - zero_digit))
  unfolding value_of
  pushed n h = rw (drop-cons text at 0 h)

  pub ended : (n : ℕ) → length text ≤ at → value_of n (take 1 (drop at text)) ≡ n
  unfolding value_of
  ended n h = rw (drop_of_length-le text {i = at} h)

-- ---- a field of one digit or two

module _ (text : List ℕ) (at : ℕ) where
  -- the columns from j on are column j, and then the others
  column_step : (j k n : ℕ) → suc j ≡ n → j < length text → take (suc k) (drop j text) ≡ get_or text j 0 ∷ take k (drop n text)
  column_step j k n e h = rw (drop-cons text j 0 h, e)

  -- four columns as a list of bytes
  pub four :
      at + 4 ≤ length text →
      take 4 (drop at text) ≡ get_or text at 0 ∷ get_or text (at + 1) 0 ∷ get_or text (at + 2) 0 ∷ get_or text (at + 3) 0 ∷ []
  four h =
      column_step at 3 (at + 1) (omega arith) (omega arith)
      ∙ ap (λ (l : List ℕ). get_or text at 0 ∷ l)
      (column_step (at + 1) 2 (at + 2) (omega arith) (omega arith)
      ∙ ap (λ (l : List ℕ). get_or text (at + 1) 0 ∷ l)
      (column_step (at + 2) 1 (at + 3) (omega arith) (omega arith)
      ∙ ap (λ (l : List ℕ). get_or text (at + 2) 0 ∷ l) (column_step (at + 3) 0 (at + 4) (omega arith) (omega arith))))

  -- a field of four blanks is these and then its last two columns
  after : take 4 (drop at text) ≡ four_blanks → take 6 (drop at text) ≡ four_blanks ++ take 2 (drop (at + 4) text)
  after b = take-add 4 2 (drop at text) ∙ rw (b, drop-drop 4 at text)

  pub two_value :
      (e f : ℕ) → take 4 (drop at text) ≡ four_blanks → e ≡ value_of 0 (take 1 (drop (at + 4) text)) →
      f ≡ value_of e (take 1 (drop (at + 5) text)) → f ≡ value_of 0 (take 6 (drop at text))
  unfolding value_of
  two_value e f b p q = sym (ap (value_of 0) (after b) ∙ value_step text at 4 1 0 e f p (sym q))

-- ---- what the code reads of a field

pub in_form : (cs : List ℕ) (r : ℕ) → field_ok cs ≡ true → r ≡ value_of 0 cs → r < no_number → Read cs r
in_form cs r e v h = record { value = rw e v; form = rw (e, ne_eqb r no_number (λ z. omega arith)) }

pub out_of_form : (cs : List ℕ) → field_ok cs ≡ false → Read cs no_number
out_of_form cs e = record { value = rw e; form = rw e }

-- a blank before the columns changes neither their form nor their number
pub after_blank : {cs : List ℕ} {r : ℕ} → Read cs r → Read (blank ∷ cs) r
unfolding field_ok value_of
after_blank p = record { value = p.value; form = p.form }

pub digit_bounds : (c : ℕ) → digit c ≡ true → (48 ≤ c) × (c ≤ 57)
digit_bounds c e = let r = and_cases (leb 48 c) (leb c 57) e in (leb-true 48 c r.0, leb-true c 57 r.1)

no_blank : (c : ℕ) → digit c ≡ true → eqb c blank ≡ false
no_blank c e = ne_eqb c blank (λ z. omega (arith, digit_bounds c e))

-- a column that is a digit is read as its number
pub one_digit : (f : ℕ) → digit f ≡ true → Read (f ∷ []) (f - 48)
unfolding field_ok digits value_of
one_digit f e = in_form (f ∷ []) (f - 48) (rw (no_blank f e, e)) (rw (no_blank f e) (omega arith)) (omega (arith, digit_bounds f e))

pub no_digit : (f : ℕ) → digit f ≡ false → Read (f ∷ []) no_number
unfolding field_ok digits
no_digit f e = out_of_form (f ∷ []) (go (eqb f blank))
  where
    go : (b : Bool) → (if b then false else digit f && true && true) ≡ false
    go true = refl
    go false = rw e

-- where the first column is a digit but not 0 and the second a digit, both are from 48 to 57
pub led : (e f : ℕ) → ((digit e && not (eqb e zero_digit)) && digit f) ≡ true → (48 ≤ e) × (e ≤ 57) × (48 ≤ f) × (f ≤ 57)
led e f t =
    let s = and_cases (digit e && not (eqb e zero_digit)) (digit f) t in
    let de = digit_bounds e (and_cases (digit e) (not (eqb e zero_digit)) s.0).0 in
    let df = digit_bounds f s.1 in
    (de.0, de.1, df.0, df.1)

several : (c x : ℕ) (cs : List ℕ) → eqb c blank ≡ false → field_ok (c ∷ x ∷ cs) ≡ ((digit c && not (eqb c zero_digit)) && digits (x ∷ cs))
unfolding field_ok
several c x cs e = rw (e, eqb-suc-zero (length cs)) (go (digit c) (digits (x ∷ cs)) (not (eqb c zero_digit)))
  where
    go : (d s n : Bool) → (d && s && n) ≡ ((d && n) && s)
    go true true true = refl
    go true true false = refl
    go true false n = go2 n
      where
        go2 : (n : Bool) → false ≡ (n && false)
        go2 true = refl
        go2 false = refl
    go false s n = refl

module _ (e f : ℕ) (b : eqb e blank ≡ false) where
  pub two_digits : ((digit e && not (eqb e zero_digit)) && digit f) ≡ true → Read (e ∷ f ∷ []) (e * 10 + f - 528)
  unfolding digits value_of
  two_digits t =
      let s = and_cases (digit e && not (eqb e zero_digit)) (digit f) t in
      let w = led e f t in
      in_form (e ∷ f ∷ []) (e * 10 + f - 528) (several e f [] b ∙ rw (s.0, s.1)) (rw (b, no_blank f s.1) (omega arith)) (omega arith)

  pub no_digits : ((digit e && not (eqb e zero_digit)) && digit f) ≡ false → Read (e ∷ f ∷ []) no_number
  unfolding digits
  no_digits t = out_of_form (e ∷ f ∷ []) (several e f [] b ∙ rw (and-true (digit f)) t)

module _ (d e f : ℕ) (b : eqb d blank ≡ false) where
  pub three_digits : (((digit d && not (eqb d zero_digit)) && digit e) && digit f) ≡ true → Read (d ∷ e ∷ f ∷ []) (d * 100 + e * 10 + f - 5328)
  unfolding digits value_of
  three_digits t =
      let s = and_cases ((digit d && not (eqb d zero_digit)) && digit e) (digit f) t in
      let u = and_cases (digit d && not (eqb d zero_digit)) (digit e) s.0 in
      let w = led d e s.0 in
      let df = digit_bounds f s.1 in
      in_form (d ∷ e ∷ f ∷ []) (d * 100 + e * 10 + f - 5328) (several d e (f ∷ []) b ∙ rw (u.0, u.1, s.1))
      (rw (b, no_blank e u.1, no_blank f s.1) (omega arith)) (omega arith)

  pub no_three : (((digit d && not (eqb d zero_digit)) && digit e) && digit f) ≡ false → Read (d ∷ e ∷ f ∷ []) no_number
  unfolding digits
  no_three t = out_of_form (d ∷ e ∷ f ∷ []) (several d e (f ∷ []) b ∙ rw (and-true (digit f)) (sym (and_assoc (digit d && not (eqb d zero_digit)) (digit e) (digit f)) ∙ t))

-- ---- a field's columns, with blanks before

module _ (text : List ℕ) (at : ℕ) (h : at + 6 ≤ length text) where
  columns_are :
      take 6 (drop at text)
      ≡ get_or text at 0 ∷ get_or text (at + 1) 0 ∷ get_or text (at + 2) 0 ∷ get_or text (at + 3) 0 ∷ get_or text (at + 4) 0 ∷ get_or text (at + 5) 0 ∷ []
  columns_are =
      take-add 4 2 (drop at text)
      ∙ rw (four text at (omega arith), drop-drop 4 at text)
      (ap (λ (l : List ℕ). get_or text at 0 ∷ get_or text (at + 1) 0 ∷ get_or text (at + 2) 0 ∷ get_or text (at + 3) 0 ∷ l)
      (column_step text at (at + 4) 1 (at + 5) (omega arith) (omega arith)
      ∙ ap (λ (l : List ℕ). get_or text (at + 4) 0 ∷ l) (column_step text at (at + 5) 0 (at + 6) (omega arith) (omega arith))))

  pub four_before : (r : ℕ) → take 4 (drop at text) ≡ four_blanks → Read (get_or text (at + 4) 0 ∷ get_or text (at + 5) 0 ∷ []) r → Read (take 6 (drop at text)) r
  four_before r b p =
      rw (columns_are, ap (λ (l : List ℕ). get_or l 0 0) q, ap (λ (l : List ℕ). get_or l 1 0) q, ap (λ (l : List ℕ). get_or l 2 0) q, ap (λ (l : List ℕ). get_or l 3 0) q)
      (after_blank (after_blank (after_blank (after_blank p))))
    where
      q :
          ◌≡◌ {A = List ℕ} (get_or text at 0 ∷ get_or text (at + 1) 0 ∷ get_or text (at + 2) 0 ∷ get_or text (at + 3) 0 ∷ []) four_blanks
      q = sym (four text at (omega arith)) ∙ b

  pub three_before :
      (r : ℕ) → (get_or text at 0 ≡ 32) × (get_or text (at + 1) 0 ≡ 32) × (get_or text (at + 2) 0 ≡ 32) →
      Read (get_or text (at + 3) 0 ∷ get_or text (at + 4) 0 ∷ get_or text (at + 5) 0 ∷ []) r → Read (take 6 (drop at text)) r
  three_before r b p = rw (columns_are, b.0, b.1, b.2) (after_blank (after_blank (after_blank p)))

-- ---- a line's fields

module _ (text : List ℕ) (i a b c d : ℕ) (h : i * 25 + 25 ≤ length text) (ra : Read (take 6 (drop (i * 25) text)) a)
    (rb : Read (take 6 (drop (i * 25 + 6) text)) b) (rc : Read (take 6 (drop (i * 25 + 12) text)) c)
    (rd : Read (take 6 (drop (i * 25 + 18) text)) d) where
  abbrev all_read : Bool
  all_read =
      not (eqb a no_number) && not (eqb b no_number) && not (eqb c no_number) && not (eqb d no_number)
      && eqb (get_or text (i * 25 + 24) 0) newline

  form_read : well_formed (line_bytes text i) ≡ all_read
  form_read = whole_line text i h ∙ rw (ra.form, rb.form, rc.form, rd.form)

  pub line_read : all_read ≡ true → ◌≡◌ {A = Option Line} (Some (record { a = a; b = b; c = c; d = d })) (parsed text i)
  line_read t =
      let s4 = and_cases _ _ t in
      let s3 = and_cases _ _ s4.0 in
      let s2 = and_cases _ _ s3.0 in
      let s1 = and_cases _ _ s2.0 in
      rw (form_read ∙ t)
      (ap (λ (l : Line). the_parsed l) (line_of text i a b c d (value ra s1.0) (value rb s1.1) (value rc s2.1) (value rd s3.1)))
    where
      the_parsed : Line → Option Line
      the_parsed l = Some l

      value : {cs : List ℕ} {r : ℕ} → Read cs r → not (eqb r no_number) ≡ true → r ≡ value_of 0 cs
      value p t = p.value ∙ rw (p.form ∙ t)

  pub line_unread : all_read ≡ false → ◌≡◌ {A = Option Line} None (parsed text i)
  line_unread t = rw (form_read ∙ t)

module _ (text : List ℕ) (i : ℕ) (r : Option Line) (e : r ≡ parsed text i) where
  -- a line of which nothing is read is not in form
  pub parsed_none : r ≡ None → well_formed (line_bytes text i) ≡ false
  parsed_none n = go (well_formed (line_bytes text i)) (sym e ∙ n)
    where
      go : (t : Bool) → ◌≡◌ {A = Option Line} (if t then Some (line text i) else None) None → t ≡ false
      go true q = absurd (true≢false (ap (λ (x : Option Line). is_some x) q))
      go false q = refl

  -- a line that is read is in form, and says its numbers
  pub parsed_some : (l : Line) → r ≡ Some l → (well_formed (line_bytes text i) ≡ true) × (l ≡ line text i)
  parsed_some l n = go (well_formed (line_bytes text i)) (sym e ∙ n)
    where
      go : (t : Bool) → ◌≡◌ {A = Option Line} (if t then Some (line text i) else None) (Some l) → (t ≡ true) × (l ≡ line text i)
      go true q = (refl, sym (ap (λ (x : Option Line). unwrap_or x l) q))
      go false q = absurd (false≢true (ap (λ (x : Option Line). is_some x) q))
