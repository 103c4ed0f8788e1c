-- What is printed is the text of the definition: the contents that a run leaves, the book in the image, and the checks of an input.
use Rattle.std.specs.Prelude.{Result, Ok, Err}
use Rattle.std.proofs.lemmas.Result.{IfOk-at_ok}
use Rattle.text.specs.declared.Reason.{Reason}
use Rattle.text.specs.declared.Refusal.{Refusal}
use Rattle.text.specs.Words.{told, told_refused}
use Rattle.text.proofs.Checks.{passing, reason_numbered}
use mathlib.Core.Path.{◌≡◌, refl, sym, ap, subst, ◌∙◌}
use mathlib.Core.Logic.{◌≢◌}
use mathlib.Core.List.{List, ◌++◌, append-nil}
use Prim.Native.Nat.{ℕ, zero, suc, ◌-◌, ◌≤◌, ◌<◌, min}
use native.Mathlib.Nat.{min-le_right}
use native.Mathlib.Omega.{arith}
use lib.ListN.{length, take, drop, length-replicate, length-drop, length-append}
use lib.Seq.{take_all, take-append_seam}
use borrow.Author.Tests.{ne_eqb}
use Rattle.text.specs.Words.{Answer, Checked, good, refused, answer_of}
use Rattle.text.specs.Text.{written}
use Rattle.book.specs.declared.Header.{Header}
use Rattle.book.specs.Book.{Program, Book, L, start}
use Rattle.book.specs.Sum.{Strided}
use Rattle.book.specs.Check.{check_header, check_book}
use Rattle.book.specs.Image.{word, program_in}
use Rattle.book.proofs.Claims.{accepted_book}
use Rattle.engine.specs.declared.Tally.{Tally}
use Rattle.engine.specs.Labels.{TalliedAnswer}
use Rattle.engine.specs.Labels.{no_labels}
use Rattle.engine.specs.Move.{Moved, fires, move_refused, move}
use Rattle.engine.specs.Single.{over_first}
use Rattle.engine.proofs.Moves.{fire_length}
use Rattle.order.specs.Log.{Log, move_at}
use Rattle.order.specs.Pairs.{PairFound, no_pair, a_pair}
use Rattle.order.specs.Run.{Run, RunOutcome, ran, halted, moved, next_move, run, touching, LogAnswer, order_checked, run_answer, run_from, run_log}
use Rattle.order.specs.Call.{check_all, left_past}
use Rattle.report.specs.Report.{most_input, own_tables, check_input, lines_written, first_line, print_answer, print_checked, tally_checked, rental, input_tally}
use Rattle.report.proofs.Split.{input_long}
use Rattle.text_write.specs.Bytes.{put_bytes}
use Rattle.text_write.proofs.Bytes.{put_front}
use Rattle.report_print.specs.Print.{answer_printed, most_output, Prints}
use Rattle.report_print.specs.Split.{called_for, book_length}
use Rattle.report_print.proofs.Split.{split_checked}
use Rattle.report_print.proofs.Lines.{print_same}
use Rattle.order_run.specs.declared.CheckedCall.{CheckedCall}
use Rattle.order_run.specs.Runs.{answer_with}
use Rattle.order_run.specs.Checked.{CallChecked}
use Rattle.order_run.proofs.Checks.{all_parts, all_good, enough}
use Rattle.report_print.specs.declared.PrintedRun.{PrintedRun}
use Rattle.report_print.specs.Shown.{Shown}
use Rattle.report_print.specs.Reported.{Reported, blank_tables}
use Rattle.engine.specs.Tables.{Tables}

-- ---- a run leaves as many contents as there are locations

ran_of : RunOutcome → Run
ran_of (ran s) = s
ran_of (halted n p q s) = s

run_length : (B : Program) (g : Log) (c : List ℕ) (n : ℕ) → length (ran_of (run B g c n)).contents ≡ length c
unfolding run ran_of
run_length B g c zero = refl
run_length B g c (suc n) = go (run B g c n) (run_length B g c n)
  where
    moves : (s : Run) (o : Moved) (i : ℕ) → length s.contents ≡ length c → length (ran_of (moved i s o)).contents ≡ length c
    moves s (fires f) i e = fire_length f.updates s.contents ∙ e
    moves s (move_refused a q) i e = e

    go : (o : RunOutcome) → length (ran_of o).contents ≡ length c → length (ran_of (next_move B n (move_at g n) o)).contents ≡ length c
    go (ran s) e = moves s (move B s.contents (move_at g n)) n e
    go (halted a p q s) e = e

log_length : (B : Program) (g : Log) (c : List ℕ) → length (run_from B g c).contents ≡ length c
unfolding run_from run_answer ran_of
log_length B g c = go (run B g c (length g.moves)) (run_length B g c (length g.moves))
  where
    two_way : (s : Run) (o : PairFound) → (order_checked B s o).contents ≡ s.contents
    two_way s no_pair = refl
    two_way s (a_pair i j) = refl

    go : (o : RunOutcome) → length (ran_of o).contents ≡ length c → length (run_answer B g o).contents ≡ length c
    go (ran s) e = ap length (two_way s (touching B g s.fired)) ∙ e
    go (halted a p q s) e = e

contents_left : (book : List ℕ) (b : Book) (g : Log) → check_book book ≡ good b → (c : List ℕ) → take (L b.program) (over_first (run_log b g).contents c) ≡ (run_log b g).contents
contents_left book b g e c =
    let d = (run_log b g).contents in
    let l : length d ≡ L b.program = log_length b.program g (start b) ∙ (accepted_book book b e).1.long in
    rw (← l) (take-append_seam d (drop (length d) c))

-- ---- a refusal's line

module _ (a : Answer) (k : Tally) (m after : List ℕ) where
  pub refusal_shown : after ≡ put_bytes 0 (written (first_line a 0)) m → most_output ≤ length m
      → Shown (written (first_line a 0)) k m (record { bytes = 25; tally = k }) after
  refusal_shown e h = record { count = refl; tally = refl; bytes = e ∙ put_front (written (first_line a 0)) m (omega arith) }

refused_text : (B : Program) (a : Answer) (c : List ℕ) → a.number ≢ 0 → answer_printed B a c ≡ written (first_line a 0)
unfolding print_answer lines_written
refused_text B a c e = rw (ne_eqb a.number 0 e) (append-nil (written (first_line a 0)))

-- ---- a call that passed its checks

module _ (book : List ℕ) (b : Book) (g : Log) (r : CheckedCall) (m o : List ℕ) (t : Tables) (p : Reported book b g r m o t) (a : TalliedAnswer) (c rs ws : List ℕ)
    (e : answer_with a c rs ws ≡ left_past t (run_log b g)) (out : List ℕ) (room : most_output ≤ length out) (after : List ℕ)
  where
    abbrev B : Program
    B = b.program

    same : a.answer ≡ (run_log b g).answer
    same = ap (λ (y : LogAnswer). y.answer) e

    same_tally : a.tally ≡ (run_log b g).tally
    same_tally = ap (λ (y : LogAnswer). y.tally) e

    accepted : check_book book ≡ good b
    accepted = (all_parts book p.passed.log p.passed.lent b g p.passed.checks).0

    -- what is printed of a run that is accepted
    pub run_shown : (k : ℕ) → (Strided (program_in m) → Prints (program_in m) a.answer (take (min (word m 6) (length c)) c) out k after)
        → Shown (print_answer B (run_log b g)) (run_log b g).tally out (record { bytes = k; tally = a.tally }) after
    run_shown k does =
        let s = does (subst Strided (sym p.program) (accepted_book book b accepted).0.strides) in
        let left : c ≡ over_first (run_log b g).contents t.contents = ap (λ (y : LogAnswer). y.contents) e in
        let d = (run_log b g).contents in
        let l : length d ≡ L B = log_length B g (start b) ∙ (accepted_book book b accepted).1.long in
        let long : L B ≤ length c = rw left (rw (length-append d (drop (length d) t.contents)) (omega (arith, l))) in
        let n : min (word m 6) (length c) ≡ L B = omega (arith, p.passed.holds.locations.1, long) in
        let x : answer_printed (program_in m) a.answer (take (min (word m 6) (length c)) c) ≡ print_answer B (run_log b g) =
        rw (p.program, n, left, contents_left book b g accepted t.contents, same) (sym (print_same B (run_log b g))) in
        let y : L (program_in m) ≤ 2048 = rw p.program p.few in
        record { count = s.long ∙ ap length x; tally = same_tally; bytes = subst (λ (z : List ℕ). after ≡ z ++ drop (length z) out) x (s.whole y room) }

    -- what is printed of a run that is refused
    pub halt_shown : (k : PrintedRun) → a.answer.number ≢ 0 → Shown (written (first_line a.answer 0)) a.tally out k after
        → Shown (print_answer B (run_log b g)) (run_log b g).tally out k after
    halt_shown k z s =
        let x : written (first_line a.answer 0) ≡ print_answer B (run_log b g) =
        sym (print_same B (run_log b g) ∙ rw (← same) (refused_text B a.answer (run_log b g).contents z)) in
        rw (← x, ← same_tally) s

-- ---- a book and a log

module _ (book log : List ℕ) (m o : List ℕ) (r : Result CheckedCall (Refusal Reason)) (opened : CallChecked book log own_tables r m o) where
  -- an input that passes its checks has no more locations than the call's own tables have records
  pub parts_few : (v : CheckedCall) → r ≡ Ok v → v.locations ≤ 2048
  parts_few v ok =
      let both = all_good book log own_tables (ap (λ (a : Answer). a.number) (sym opened.answer) ∙ passing ok) in
      let h = IfOk-at_ok _ ok (opened.held both.0.0 both.0.1 both.1) in
      omega (arith, h.locations.0, h.locations.1, (enough book log own_tables both.0.0 both.0.1 both.1).contents)

module _ (book log : List ℕ) (m o : List ℕ) (r : Result CheckedCall (Refusal Reason)) (opened : CallChecked book log own_tables r m o) (out : List ℕ) (k : PrintedRun) (after : List ℕ) where
  abbrev checks : Checked (Book × Log)
  checks = check_all book log own_tables

  -- what is printed of an input that is refused by its checks
  pub parts_refused : (e : Refusal Reason) → r ≡ Err e → Shown (written (first_line (told_refused e) 0)) no_labels out k after
      → Shown (print_checked checks) (tally_checked checks) out k after
  parts_refused e is s = go checks (sym (ap (λ (x : Result CheckedCall (Refusal Reason)). told x) is) ∙ opened.answer)
    where
      go : (c : Checked (Book × Log)) → told_refused e ≡ answer_of c → Shown (print_checked c) (tally_checked c) out k after
      go (refused n p q) w = subst (λ (a : Answer). Shown (written (first_line a 0)) no_labels out k after) w s
      go (good x) w = absurd (omega (arith, (reason_numbered e.reason).0, ap (λ (a : Answer). a.number) w))

  -- what is printed of an input that passes its checks, on tables of n records
  pub parts_passed : (v : CheckedCall) → r ≡ Ok v → (n : ℕ) → (v.locations ≤ n)
      → ((b : Book) (g : Log) → Reported book b g v m o (blank_tables n) → Shown (print_answer b.program (run_log b g)) (run_log b g).tally out k after)
      → Shown (print_checked checks) (tally_checked checks) out k after
  parts_passed v ok n few does =
      let both = all_good book log own_tables (ap (λ (a : Answer). a.number) (sym opened.answer) ∙ passing ok) in
      let b = both.0.0 in
      let g = both.0.1 in
      let is : checks ≡ good (b, g) = both.1 in
      let h = IfOk-at_ok _ ok (opened.held b g is) in
      let l : L b.program ≤ n = omega (arith, h.locations.0, h.locations.1, few) in
      let long = length-replicate {A = ℕ} n 0 in
      let parts = all_parts book log own_tables b g is in
      let q : Reported book b g v m o (blank_tables n) = record {
        passed = record {
          log = log;
          lent = own_tables;
          checks = is;
          holds = h;
          contents = omega (arith, l, long);
          readers = omega (arith, l, long);
          writers = omega (arith, l, long);
          records = omega arith;
        };
        program = (opened.image b parts.0).0;
        few = (enough book log own_tables b g is).contents;
      } in
      subst (λ (y : Checked (Book × Log)). Shown (print_checked y) (tally_checked y) out k after) (sym is) (does b g q)

-- ---- an input

module _ (text : List ℕ) where
  pub book_within : book_length text ≤ length text
  unfolding book_length
  book_within = go (check_header text)
    where
      go : (o : Checked Header) → called_for (length text) o ≤ length text
      go (good h) = min-le_right _ (length text)
      go (refused n p q) = omega arith

  -- what is printed of an input that is too long
  pub long_shown : most_input < length text → (m : List ℕ) (r : PrintedRun) (after : List ℕ)
      → Shown (written (first_line (record { number = 2; p = 60000; q = 4 }) 0)) no_labels m r after → Shown (rental text) (input_tally text) m r after
  unfolding rental input_tally
  long_shown h m r after s = rw (input_long text h) s

  -- the log is all that stands after the book
  pub split_shown :
      (n : ℕ) → n ≡ book_length text → length text ≤ most_input → (m : List ℕ) (r : PrintedRun) (after : List ℕ) →
      Shown (print_checked (check_all (take n text) (take (length text - n) (drop n text)) own_tables)) (tally_checked (check_all (take n text) (take (length text - n) (drop n text)) own_tables)) m r after
      → Shown (rental text) (input_tally text) m r after
  unfolding rental input_tally
  split_shown n e h m r after p =
      let all : take (length text - n) (drop n text) ≡ drop n text = take_all (length text - n) (drop n text) (rw (length-drop n text) (omega arith)) in
      let same : check_all (take n text) (take (length text - n) (drop n text)) own_tables ≡ check_input text = rw (all, e) (sym (split_checked text h)) in
      subst (λ (x : Checked (Book × Log)). Shown (print_checked x) (tally_checked x) m r after) same p
