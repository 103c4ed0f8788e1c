-- A call on tables of any length: the first records are those that its run is made on, and the others stay.
use Rattle.text.specs.declared.Reason.{Reason}
use Rattle.text.specs.Words.{told}
use Rattle.engine.specs.Labels.{tallied}
use Rattle.engine.specs.declared.TalliedResult.{TalliedResult}
use Rattle.std.proofs.Common.{◌≡◌, ℕ, ◌≤◌, min, List, [], ◌++◌, length, take, drop, sym, refl, ap, ◌∙◌, subst, arith, length-take-le}
use lib.Seq.{length_front, take-append_seam, drop-append_seam}
use Rattle.book.specs.Book.{L}
use Rattle.book.specs.Image.{word, low_program}
use Rattle.engine.specs.declared.Instruction.{Instruction}
use Rattle.engine.specs.Rule.{most_instructions}
use Rattle.engine.specs.Single.{over_first}
use Rattle.order.specs.Log.{Log}
use Rattle.order.specs.Run.{LogAnswer, run_from}
use Rattle.order.specs.Call.{left_past}
use Rattle.order_run.specs.declared.RunState.{RunState}
use Rattle.order_run.specs.declared.RunState.TheVariants.{Next, Over}
use Rattle.order_run.specs.declared.Upcoming.{Upcoming}
use Rattle.order_run.specs.Runs.{answer_with}
use Rattle.order_run.specs.Stages.{MoveNext, RunAt, RestKept, CallGoesOn, CallAt}
use Rattle.engine.specs.Tables.{Tables}

-- ---- tables whose first k records are d

first_of : (d y : List ℕ) (k : ℕ) → length d ≡ k → take k (d ++ y) ≡ d
first_of d y k e = subst (λ (j : ℕ). take j (d ++ y) ≡ d) e (take-append_seam d y)

past_of : (d y : List ℕ) (k : ℕ) → length d ≡ k → drop k (d ++ y) ≡ y
past_of d y k e = subst (λ (j : ℕ). drop j (d ++ y) ≡ y) e (drop-append_seam d y)

put_back : (d f c y : List ℕ) (k : ℕ) → d ≡ f → length d ≡ k → y ≡ drop k c → d ++ y ≡ over_first f c
put_back d f c y k q e p = ap (λ (z : List ℕ). d ++ z) (p ∙ ap (λ (j : ℕ). drop j c) (sym e)) ∙ ap (λ (z : List ℕ). z ++ drop (length z) c) q

-- the table C, of which the first k were lent and came back as d
module _ (k : ℕ) (C lent d : List ℕ) (h : k ≤ length C) (p : drop k C ≡ drop k lent) (e : length d ≡ length (take k C)) where
  cut_long : length d ≡ k
  cut_long = e ∙ length-take-le k C h

  cut_kept : (j : ℕ) → k ≡ j → (j ≤ length (d ++ drop k C)) × (drop j (d ++ drop k C) ≡ drop j lent)
  cut_kept j q =
      subst (λ (x : ℕ). (x ≤ length (d ++ drop k C)) × (drop x (d ++ drop k C) ≡ drop x lent)) q
      (omega (arith, h, length_front C d k e), past_of d (drop k C) k cut_long ∙ p)

  cut_first : (j : ℕ) → k ≡ j → take j (d ++ drop k C) ≡ d
  cut_first j q = subst (λ (x : ℕ). take x (d ++ drop k C) ≡ d) q (first_of d (drop k C) k cut_long)

same_past : (i n : ℕ) (y z : List ℕ) → i ≡ n → drop n y ≡ drop n z → drop i y ≡ drop i z
same_past i n y z e q = subst (λ (v : ℕ). drop v y ≡ drop v z) (sym e) q

-- ---- the first k records of the three tables were lent to a stage, and came back as d, rs and ws

module _
    (lent : Tables) (n : ℕ) (whole : LogAnswer) (m o : List ℕ) (g : Log) (c C R W : List ℕ) (kept : RestKept lent n whole m g c C R W) (k : ℕ) (ek : k ≡ L (low_program m))
    (d rs ws : List ℕ) (ld : length d ≡ length (take k C)) (lr : length rs ≡ length (take k R)) (lw : length ws ≡ length (take k W))
  where
    hc : k ≤ length C
    hc = omega (arith, ek, kept.contents.0)

    hr : k ≤ length R
    hr = omega (arith, ek, kept.readers.0)

    hw : k ≤ length W
    hw = omega (arith, ek, kept.writers.0)

    pc : drop k C ≡ drop k lent.contents
    pc = same_past k (L (low_program m)) C lent.contents ek kept.contents.1

    pr : drop k R ≡ drop k lent.readers
    pr = same_past k (L (low_program m)) R lent.readers ek kept.readers.1

    pw : drop k W ≡ drop k lent.writers
    pw = same_past k (L (low_program m)) W lent.writers ek kept.writers.1

    kept_on : RestKept lent n whole m g c (d ++ drop k C) (rs ++ drop k R) (ws ++ drop k W)
    kept_on = record {
      records = kept.records;
      locations = kept.locations;
      contents = cut_kept k C lent.contents d hc pc ld (L (low_program m)) ek;
      readers = cut_kept k R lent.readers rs hr pr lr (L (low_program m)) ek;
      writers = cut_kept k W lent.writers ws hw pw lw (L (low_program m)) ek;
      call = kept.call;
    }

    -- a stage on the first k records is one of the call
    pub call_state_at : (rest : List (List Instruction)) (t : RunState (TalliedResult Reason)) → RunAt m o g c rest t d rs ws → CallAt lent n whole m o rest t (d ++ drop k C) (rs ++ drop k R) (ws ++ drop k W)
    call_state_at rest (Over r) q =
        let f = run_from (low_program m) g c in
        let ec : d ++ drop k C ≡ over_first f.contents lent.contents = put_back d f.contents lent.contents (drop k C) k (ap (λ (v : LogAnswer). v.contents) q.1) (cut_long k C lent.contents d hc pc ld) pc in
        let er : rs ++ drop k R ≡ over_first f.readers lent.readers = put_back rs f.readers lent.readers (drop k R) k (ap (λ (v : LogAnswer). v.readers) q.1) (cut_long k R lent.readers rs hr pr lr) pr in
        let ew : ws ++ drop k W ≡ over_first f.writers lent.writers = put_back ws f.writers lent.writers (drop k W) k (ap (λ (v : LogAnswer). v.writers) q.1) (cut_long k W lent.writers ws hw pw lw) pw in
        let ea : told r.answer ≡ f.answer = ap (λ (v : LogAnswer). v.answer) q.1 in
        let et : r.tally ≡ f.tally = ap (λ (v : LogAnswer). v.tally) q.1 in
        let all : answer_with (tallied r) (d ++ drop k C) (rs ++ drop k R) (ws ++ drop k W) ≡ left_past lent f = rw (ec, er, ew, ea, et) in
        (q.0, all ∙ kept.call)
    call_state_at rest (Next t) s = record {
      g = g;
      c = c;
      kept = kept_on;
      next = rw (
        cut_first k C lent.contents d hc pc ld (L (low_program m)) ek,
        cut_first k R lent.readers rs hr pr lr (L (low_program m)) ek,
        cut_first k W lent.writers ws hw pw lw (L (low_program m)) ek,
      ) s.0;
      lists = s.1;
    }

-- ---- the moves that are left of a call

-- the moves are made on the first k records: what they leave there, with the other records, is what the call leaves
pub ends_call : (lent : Tables) (n : ℕ) (whole : LogAnswer) (m o : List ℕ) (rest : List (List Instruction)) (t : Upcoming) (C R W : List ℕ) → CallGoesOn lent n whole m o rest t C R W
    → (k : ℕ) → k ≡ min (word m 6) (min (length C) (min (length R) (length W)))
    → (a : TalliedResult Reason) (d rs ws : List ℕ) → length d ≡ length (take k C) → length rs ≡ length (take k R) → length ws ≡ length (take k W)
    → (P : Type 0) → ((g : Log) (c : List ℕ) → most_instructions ≤ n → RunAt m o g c rest (Next t) (take k C) (take k R) (take k W) → (answer_with (tallied a) d rs ws ≡ run_from (low_program m) g c) × P)
    → (answer_with (tallied a) (d ++ drop k C) (rs ++ drop k R) (ws ++ drop k W) ≡ whole) × P
ends_call lent n whole m o rest t C R W on k ek a d rs ws ld lr lw P does =
    let K = on.kept in
    let j : k ≡ L (low_program m) = omega (arith, ek, K.locations, K.contents.0, K.readers.0, K.writers.0) in
    let next = subst (λ (q : ℕ). MoveNext m o on.g on.c t (take q C) (take q R) (take q W)) (sym j) on.next in
    let left = does on.g on.c K.records (next, on.lists) in
    let lap = call_state_at lent n whole m o on.g on.c C R W K k j d rs ws ld lr lw [] (Over a) (refl, left.0) in
    (lap.1, left.1)
