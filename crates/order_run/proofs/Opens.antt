-- A call up to its first move: refused by a check, or begun from its start.
use Rattle.std.specs.Prelude.{Result, Ok, Err}
use Rattle.std.proofs.lemmas.Result.{IfOk-at_ok}
use Rattle.text.specs.declared.Reason.{Reason}
use Rattle.text.specs.declared.Refusal.{Refusal}
use Rattle.text.specs.Words.{told}
use Rattle.text.proofs.Checks.{passing, refusing}
use Rattle.std.proofs.Common.{◌≡◌, ℕ, min, List, ◌++◌, length, take, drop, sym, refl, ap, ◌∙◌, subst, arith, length-take-le}
use Rattle.text.specs.Words.{Answer}
use Rattle.text.specs.Words.{good}
use Rattle.book.specs.Book.{Program, Book, L, start}
use Rattle.book.specs.Image.{word, low_program}
use Rattle.engine.specs.declared.Instruction.{Instruction}
use Rattle.engine.specs.Labels.{no_labels}
use Rattle.order.specs.Log.{Log}
use Rattle.order.specs.Run.{run_from, run_log, LogAnswer}
use Rattle.order.specs.Call.{lengths, check_all, left_past, log_call}
use Rattle.order.specs.Lists.{lists_from, call_lists}
use Rattle.engine.specs.declared.TalliedResult.{TalliedResult}
use Rattle.order_run.specs.declared.RunState.{RunState}
use Rattle.order_run.specs.declared.RunState.TheVariants.{Over}
use Rattle.order_run.specs.declared.CheckedCall.{CheckedCall}
use Rattle.order_run.specs.Runs.{Startable, answer_with}
use Rattle.order_run.specs.Stages.{RunAt, RestKept, CallAt}
use Rattle.order_run.specs.Checked.{CallChecked, CallPassed, run_lists}
use Rattle.order_run.proofs.Calls.{call_state_at}
use Rattle.order_run.proofs.Checks.{all_parts, all_good, call_off, call_on, lists_all, enough, runnable}
use Rattle.engine.specs.Tables.{Tables}

-- ---- the start, on the first k records of the tables

module _ (book : List ℕ) (b : Book) (g : Log) (r : CheckedCall) (m o : List ℕ) (t : Tables) (n : ℕ) (p : CallPassed book b g r m o t n) where
  same : L b.program ≡ L (low_program m)
  same = sym (ap L p.holds.image)

  abbrev whole : LogAnswer
  whole = left_past t (run_log b g)

  kept : RestKept t n whole m g (start b) t.contents t.readers t.writers
  kept = record {
    records = p.records;
    locations = p.holds.locations.1 ∙ same;
    contents = (omega (arith, same, p.contents), refl);
    readers = (omega (arith, same, p.readers), refl);
    writers = (omega (arith, same, p.writers), refl);
    call = ap (λ (B : Program). left_past t (run_from B g (start b))) p.holds.image;
  }

  pub starts : (k : ℕ) → k ≡ min (word m 6) (min (length t.contents) (min (length t.readers) (length t.writers))) → (u : RunState (TalliedResult Reason)) (d rs ws : List ℕ)
      → length d ≡ length (take k t.contents) → length rs ≡ length (take k t.readers) → length ws ≡ length (take k t.writers)
      → ((b : Book) (g : Log) → Startable book m o b g r.moves (take k t.contents) (take k t.readers) (take k t.writers)
      → RunAt m o g (start b) (lists_from (low_program m) g (start b) r.moves 0) u d rs ws)
      → CallAt t n whole m o (run_lists b g) u (d ++ drop k t.contents) (rs ++ drop k t.readers) (ws ++ drop k t.writers)
  starts k ek u d rs ws ld lr lw does =
      let j : k ≡ L (low_program m) = omega (arith, ek, kept.locations, same, p.contents, p.readers, p.writers) in
      let s = does b g (record {
        book = (all_parts book p.log p.lent b g p.checks).0;
        image = p.holds.image;
        program = p.holds.program;
        entries = p.holds.entries;
        runs = runnable book p.log p.lent b g p.checks m o p.holds.image p.holds.order;
        moves = p.holds.moves;
        contents = length-take-le k t.contents (omega (arith, j, same, p.contents)) ∙ j;
        readers = length-take-le k t.readers (omega (arith, j, same, p.readers)) ∙ j;
        writers = length-take-le k t.writers (omega (arith, j, same, p.writers)) ∙ j;
      }) in
      let lists : lists_from (low_program m) g (start b) r.moves 0 ≡ run_lists b g =
      ap (λ (B : Program). lists_from B g (start b) r.moves 0) p.holds.image ∙ ap (λ (i : ℕ). lists_from b.program g (start b) i 0) p.holds.moves in
      call_state_at t n whole m o g (start b) t.contents t.readers t.writers kept k j d rs ws ld lr lw (run_lists b g) u
      (subst (λ (q : List (List Instruction)). RunAt m o g (start b) q u d rs ws) lists s)

-- ---- the checks and the start

module _ (book log : List ℕ) (t : Tables) (n : ℕ) (m o : List ℕ) (r : Result CheckedCall (Refusal Reason)) (opened : CallChecked book log (lengths t n) r m o) where
  -- a call that a check refuses
  pub off : (refusal : Refusal Reason) → r ≡ Err refusal → (u : RunState (TalliedResult Reason)) → u ≡ Over (record { answer = Err refusal; tally = no_labels })
      → CallAt t n (log_call book log t n) m o (call_lists book log t n) u t.contents t.readers t.writers
  off refusal is u e =
      let s = call_off book log t n (told r) opened.answer (refusing is) in
      let same : told {A = Unit {0}} (Err refusal) ≡ told r = sym (ap (λ (x : Result CheckedCall (Refusal Reason)). told x) is) in
      rw e (s.0, ap (λ (a : Answer). answer_with (record { answer = a; tally = no_labels }) t.contents t.readers t.writers) same ∙ s.1)

  -- a call that passes its checks starts
  pub opens : (v : CheckedCall) → r ≡ Ok v → (u : RunState (TalliedResult Reason)) (d rs ws : List ℕ)
      → ((b : Book) (g : Log) (n : ℕ) → CallPassed book b g v m o t n → CallAt t n (left_past t (run_log b g)) m o (run_lists b g) u d rs ws)
      → CallAt t n (log_call book log t n) m o (call_lists book log t n) u d rs ws
  opens v ok u d rs ws does =
      let both = all_good book log (lengths t n) (ap (λ (x : Answer). x.number) (sym opened.answer) ∙ passing ok) in
      let b = both.0.0 in
      let g = both.0.1 in
      let is : check_all book log (lengths t n) ≡ good (b, g) = both.1 in
      let e = enough book log (lengths t n) b g is in
      let lap = does b g n (record {
        log = log;
        lent = lengths t n;
        checks = is;
        holds = IfOk-at_ok _ ok (opened.held b g is);
        contents = e.contents;
        readers = e.readers;
        writers = e.writers;
        records = e.instructions;
      }) in
      rw (← (call_on book log t n b g is), lists_all book log t n b g is) lap
