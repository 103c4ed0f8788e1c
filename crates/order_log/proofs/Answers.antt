-- The check of a log from what its lines are: what it answers, and what it leaves of a log that passes.
use Rattle.std.proofs.lemmas.Result.{IfOk-weaker}
use Rattle.std.specs.Prelude.{Option, None, Some, Result, IfOk, if◌then◌else◌}
use mathlib.Core.Path.{◌≡◌, refl, sym, ap, subst, ◌∙◌}
use mathlib.Core.Logic.{◌≢◌}
use mathlib.Core.Bool.{Bool, true, false, not}
use mathlib.Core.List.{List}
use Prim.Native.Nat.{ℕ, ◌+◌, ◌*◌}
use native.Mathlib.Omega.{arith}
use lib.Dec.{leb}
use lib.ListN.{length}
use Rattle.text.specs.declared.Reason.{Reason}
use Rattle.text.specs.declared.Line.{Line}
use Rattle.text.specs.declared.Refusal.{Refusal}
use Rattle.text.specs.Words.{Answer}
use Rattle.text.specs.Words.{least_from, least, Checked, good, refused, ◌>>=◌, ◌>>◌, none_at, must, answer_of, told}
use Rattle.text.specs.Refusals.{ill_formed, log_text, log_line}
use Rattle.text.specs.Text.{line_length, well_formed, line_bytes, bad_line, line, parsed}
use Rattle.text.proofs.Words.{bind_good, then_good, none_good, found_good, test_good, good_same}
use Rattle.text.proofs.Fields.{parsed_none, parsed_some}
use Rattle.text.proofs.Checks.{Numbered, bind_stops, then_stops, then_goes_on}
use Rattle.order.specs.Log.{Log, log_header_ok, log_lines, log_of, check_log_header, check_log_text, check_log_lines, read_log}
use Rattle.order.specs.Table.{OrderTable}
use Rattle.text.specs.declared.LineFaults.{LineFaults}
use Rattle.order_lines.proofs.Places.{least_split}
use Rattle.order_log.specs.Read.{header_checked, lines_checked, LinesRead, LogIsRead}
use Rattle.order_log.proofs.Lines.{how_many}

-- ---- checks one after the other

module _ {A B : Type 0} where
  -- a check that ends with a value answers as it does without
  then_gives : (c : Checked A) (b : B) → answer_of (c >> good b) ≡ answer_of c
  unfolding ◌>>◌
  then_gives (good a) b = refl
  then_gives (refused n p q) b = refl

  -- if the first check is refused with answer a, that is the answer of both
  pub stops : (a : Answer) (c : Checked A) (d : Checked B) → a ≡ answer_of c → a.number ≢ 0 → a ≡ answer_of (c >> d)
  stops a c d e n = e ∙ sym (then_stops c d (rw e at n))

  -- if the first check passes, the answer of the second is that of both
  pub goes : (a : Answer) (c : Checked A) (d : Checked B) (r : Answer) → Numbered c → a ≡ answer_of c → a.number ≡ 0 → r ≡ answer_of d → r ≡ answer_of (c >> d)
  goes a c d r k e z f = f ∙ ap answer_of (sym (then_goes_on c d k (ap (λ (x : Answer). x.number) (sym e) ∙ z)))

-- checks may be grouped the other way
module _ {A : Type 0} (g : A) (l : Checked (Unit {0})) where
  regroup : (c d : Checked (Unit {0})) → answer_of ((c >> d) >> (l >> good g)) ≡ answer_of (c >> (d >> l))
  unfolding ◌>>◌
  regroup (good a) (good b) = then_gives l g
  regroup (good a) (refused n p q) = refl
  regroup (refused n p q) d = refl

-- a last check that only matters where nothing was found before it may be exchanged
last_part : (n q : ℕ) (o : Option ℕ) (d l m : Checked (Unit {0})) → (o ≡ None → l ≡ m) → answer_of (none_at n 0 q o >> (d >> l)) ≡ answer_of (none_at n 0 q o >> (d >> m))
unfolding ◌>>◌ none_at
last_part n q None d l m f = rw (f refl)
last_part n q (Some p) d l m f = refl

-- ---- the header

one_pass : (b : Bool) → (answer_of (must b log_line 0 0)).number ≡ 0 → b ≡ true
unfolding must
one_pass true z = refl
one_pass false z = let x : ◌≡◌ {A = ℕ} 9 0 = z in absurd (omega arith)

module _ (text : List ℕ) where
  first_line : least (bad_line text) 1 ≡ (if not (well_formed (line_bytes text 0)) then Some 0 else None)
  unfolding least_from
  first_line = refl

  -- what is read of the header line decides what its check answers
  header_as : (p : Option Line) → p ≡ parsed text 0 → answer_of (check_log_header text) ≡ answer_of (header_checked p)
  unfolding check_log_header header_checked ◌>>◌ none_at must
  header_as None is = rw (first_line, parsed_none text 0 None is refl)
  header_as (Some l) is =
      let w = parsed_some text 0 (Some l) is l refl in
      rw (first_line, w.0, ← w.1) (go (log_header_ok l))
    where
      go : (b : Bool) → answer_of (must b log_line 0 0 >> good l) ≡ answer_of (must b log_line 0 0)
      go true = refl
      go false = refl

  module _ (p : Option Line) (is : p ≡ parsed text 0) (a : Answer) (e : a ≡ answer_of (header_checked p)) where
    -- the header is in form if its answer has number 0
    pub header_in_form : a.number ≡ 0 → p ≢ None
    unfolding header_checked
    header_in_form z none =
        let f : a ≡ answer_of (header_checked None) = e ∙ ap (λ (x : Option Line). answer_of (header_checked x)) none in
        let x : ◌≡◌ {A = ℕ} 1 0 = ap (λ (x : Answer). x.number) (sym f) ∙ z in
        absurd (omega arith)

    -- the header is within its bounds if its answer has number 0
    pub header_ok : a.number ≡ 0 → (h : Line) → p ≡ Some h → (well_formed (line_bytes text 0) ≡ true) × (h ≡ line text 0) × (log_header_ok h ≡ true)
    unfolding header_checked
    header_ok z h q =
        let w = parsed_some text 0 p is h q in
        let f : a ≡ answer_of (header_checked (Some h)) = e ∙ ap (λ (x : Option Line). answer_of (header_checked x)) q in
        (w.0, w.1, one_pass (log_header_ok h) (ap (λ (x : Answer). x.number) (sym f) ∙ z))

    module _ (A E : ℕ) where
      -- if the header is refused, its answer is that of the log
      at_header : a.number ≢ 0 → a ≡ answer_of (read_log A E text)
      unfolding read_log
      at_header n =
          let f : answer_of (check_log_header text) ≡ a = header_as p is ∙ sym e in
          sym (bind_stops (check_log_header text) _ (rw f n) ∙ f)

      pub header_refused : a.number ≢ 0 → (t : List ℕ) (s : Result ℕ (Refusal Reason)) → told s ≡ a → LogIsRead A E text t s
      header_refused n t s w =
          let never : (g : Log) → read_log A E text ≡ good g → ⊥ = λ g q. n (ap (λ (x : Answer). x.number) (at_header n ∙ ap answer_of q)) in
          record { answer = w ∙ at_header n; moves = λ g q. absurd (never g q); order = λ g q. absurd (never g q) }

      pub past_header : a.number ≡ 0 → (h : Line) → p ≡ Some h → read_log A E text ≡ (check_log_text h text >> (check_log_lines A E h text >> good (log_of h text)))
      unfolding read_log check_log_header ◌>>=◌ ◌>>◌ must none_at
      past_header z h q = let o = header_ok z h q in rw (first_line, o.0, ← o.1, o.2)

-- ---- the lines after the header

-- h is the header, in form and within its bounds; the lines after it are read
module _
    (A E : ℕ) (text : List ℕ) (h : Line) (formed : well_formed (line_bytes text 0) ≡ true)
    (past : read_log A E text ≡ (check_log_text h text >> (check_log_lines A E h text >> good (log_of h text))))
    (t : List ℕ) (found : LineFaults) (w : LinesRead A E text h t found)
  where
    all_ill : least (bad_line text) (log_lines h) ≡ found.ill
    all_ill =
        let z : log_lines h ≡ 1 + (h.a + h.b + h.c) = omega arith in
        let first : least (bad_line text) 1 ≡ None = first_line text ∙ rw formed in
        rw z (least_split (bad_line text) 1 (h.a + h.b + h.c) 0 ∙ rw (first, w.ill))

    lines_answer : answer_of (lines_checked (length text) (log_lines h) found.ill found.fault) ≡ answer_of (read_log A E text)
    unfolding lines_checked check_log_text
    lines_answer =
        let long = must (leb (length text) (line_length * log_lines h)) ill_formed (log_lines h) log_text in
        sym (ap answer_of past
        ∙ regroup (log_of h text) (check_log_lines A E h text) (none_at ill_formed 0 log_text (least (bad_line text) (log_lines h))) long
        ∙ rw all_ill (last_part ill_formed log_text found.ill long (check_log_lines A E h text) (none_at log_line 0 0 found.fault) w.fault))

    -- if the log passes, none of its lines is ill-formed or at fault
    clean : (g : Log) → read_log A E text ≡ good g → (log_of h text ≡ g) × (found.ill ≡ None) × (found.fault ≡ None)
    unfolding check_log_text
    clean g e =
        let c = then_good (check_log_text h text) (check_log_lines A E h text >> good (log_of h text)) g (sym past ∙ e) in
        let f = found_good ill_formed 0 log_text (least (bad_line text) (log_lines h)) _ c.0 c.1 in
        let form : found.ill ≡ None = sym all_ill ∙ f.0 in
        let l = then_good (check_log_lines A E h text) (good (log_of h text)) g c.2 in
        (good_same (log_of h text) g l.2, form, none_good log_line 0 0 found.fault l.0 (sym (w.fault form) ∙ l.1))

    pub lines_read : (a : Answer) → a ≡ answer_of (lines_checked (length text) (log_lines h) found.ill found.fault)
        → (s : Result ℕ (Refusal Reason)) → told s ≡ a → IfOk s (λ n. n ≡ h.a) → LogIsRead A E text t s
    lines_read a e s k many = record {
      answer = k ∙ e ∙ lines_answer;
      moves = λ g q. IfOk-weaker s _ _ (λ n p. p ∙ sym (how_many h text) ∙ ap (λ (x : Log). length x.moves) (clean g q).0) many;
      order = λ g q. let c = clean g q in subst (λ (x : Log). OrderTable x t) c.0 (w.order c.1 c.2);
    }

-- ---- for callers

-- a log that passes is the one that the text says
pub read_said : (A E : ℕ) (text : List ℕ) (g : Log) → read_log A E text ≡ good g → g ≡ log_of (line text 0) text
unfolding read_log check_log_header
read_said A E text g e =
    let r = bind_good (check_log_header text) _ g e in
    let h = r.0 in
    let t = then_good (check_log_text h text) _ g r.2 in
    let u = then_good (check_log_lines A E h text) (good (log_of h text)) g t.2 in
    let f = found_good ill_formed 0 log_text (least (bad_line text) 1) (must (log_header_ok (line text 0)) log_line 0 0 >> good (line text 0)) h r.1 in
    let k = test_good (log_header_ok (line text 0)) log_line 0 0 (good (line text 0)) h f.1 in
    sym (ap (λ (x : Line). log_of x text) (good_same (line text 0) h k.1) ∙ good_same (log_of h text) g u.2)
