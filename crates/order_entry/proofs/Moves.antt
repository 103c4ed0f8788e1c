-- The moves of a run made one after the other: how far the run is in the loop, and what is known at its end.
use Rattle.text.specs.declared.Reason.{Reason}
use Rattle.engine.specs.declared.TalliedResult.{TalliedResult}
use Rattle.std.proofs.Common.{◌≡◌, ℕ, ◌+◌, ◌-◌, ◌≤◌, min, List, ◌∷◌, ◌++◌, length, take, drop, take-append-drop, sym, ap, subst, refl, ◌∙◌, arith}
use Rattle.book.specs.Image.{word, low_program}
use Rattle.engine.specs.declared.Instruction.{Instruction}
use Rattle.engine.specs.declared.Record.{Record}
use Rattle.engine.specs.Rule.{most_instructions}
use Rattle.engine_instruction.specs.Code.{items}
use Rattle.engine_fire.specs.declared.Begun.{Begun}
use Rattle.order.specs.Log.{Log}
use Rattle.order.specs.Lists.{lists_from}
use Rattle.order.specs.Run.{LogAnswer}
use Rattle.engine.specs.Tables.{Tables}
use Rattle.engine.specs.Labels.{tallied}
use Rattle.engine_list.specs.Written.{records_written, all_records_written, through, PassedThrough}
use Rattle.engine_list.proofs.Laws.{none_left}
use Rattle.order_run.specs.declared.RunState.{RunState}
use Rattle.order_run.specs.declared.RunState.TheVariants.{Next, Over}
use Rattle.order_run.specs.declared.Upcoming.{Upcoming}
use Rattle.order_run.specs.Runs.{answer_with}
use Rattle.order_run.specs.Stages.{MoveNext, RunAt, MoveBegun, CallAt}
use Rattle.order_run.proofs.Calls.{ends_call}
use Rattle.order_run.proofs.Stages.{walked_lists, walked_few, walked_passed}
use Rattle.order_entry.specs.MovesMade.{MovesMade}
use Rattle.order_entry.specs.Promised.{RunToEnd, RunToEndOwn, AnyRunToEnd, AnyRunToEndOwn}

one_less : (is : List Instruction) (rest : List (List Instruction)) (ys : List Record) → all_records_written rest (records_written is ys) ≡ all_records_written (is ∷ rest) ys
unfolding all_records_written
one_less is rest ys = refl

-- the lists of the moves after t
abbrev pub later_lists : List ℕ → Upcoming → Log → List ℕ → List (List Instruction)
later_lists m t g c = lists_from (low_program m) g c (t.moves - (t.at + 1)) (t.at + 1)

-- at t the run is over, with the answer a and what it left when it began to be so
abbrev pub StillOver : TalliedResult Reason → List ℕ → List ℕ → List ℕ → List Record → RunState (TalliedResult Reason) → List ℕ → List ℕ → List ℕ → List Record → Type 0
StillOver a C R D Y (Next t) cs rs ws zs = ⊥
StillOver a C R D Y (Over b) cs rs ws zs = (answer_with (tallied b) cs rs ws ≡ answer_with (tallied a) C R D) × (zs ≡ Y)

-- how far the run is at t, with these tables and records, if it was at t₀ at the start of the loop: the moves that are left write what is left to write
pub record SoFar (m o : List ℕ) (t₀ : RunState (TalliedResult Reason)) (C R D : List ℕ) (Y : List Record) (t : RunState (TalliedResult Reason)) (cs rs ws : List ℕ) (zs : List Record) : Type 0 where
  pub over : (a : TalliedResult Reason) → t₀ ≡ Over a → StillOver a C R D Y t cs rs ws zs
  pub run : (g : Log) (c : List ℕ) (rest : List (List Instruction)) → most_instructions ≤ length Y → RunAt m o g c rest t₀ C R D
      → (left : List (List Instruction)) × RunAt m o g c left t cs rs ws × (all_records_written left zs ≡ all_records_written rest Y)

module _ (m o : List ℕ) (t₀ : RunState (TalliedResult Reason)) (C R D : List ℕ) (Y : List Record) where
  pub so_far : SoFar m o t₀ C R D Y t₀ C R D Y
  so_far = record { over = λ a e. subst (λ (t : RunState (TalliedResult Reason)). StillOver a C R D Y t C R D Y) (sym e) (refl, refl); run = λ g c rest room h. (rest, h, refl) }

  -- one move more is begun, passed through the list and finished
  pub next_so_far : (t : Upcoming) (cs rs ws : List ℕ) (zs : List Record) → SoFar m o t₀ C R D Y (Next t) cs rs ws zs
      → (t' : RunState (TalliedResult Reason)) (u : Begun Reason) (x rs₁ : List ℕ) (zs' : List Record) (x' cs' rs' ws' : List ℕ)
      → ((g : Log) (c ws : List ℕ) → MoveNext m o g c t cs rs ws → MoveBegun m o g c t u x cs rs₁ ws)
      → PassedThrough u.count zs x zs' x'
      → ((g : Log) (c : List ℕ) → MoveBegun m o g c t u x' cs rs₁ ws → RunAt m o g c (later_lists m t g c) t' cs' rs' ws')
      → length zs ≡ length Y → length x ≡ 256 → length x' ≡ 256
      → SoFar m o t₀ C R D Y t' cs' rs' ws' zs'
  next_so_far t cs rs ws zs so t' u x rs₁ zs' x' cs' rs' ws' b p f long l₁ l₂ = record {
    over = λ a e. absurd (so.over a e);
    run = λ g c rest room h.
        let q = so.run g c rest room h in
        let w = b g c ws q.1.0 in
        let few = walked_few m o g c t u x cs rs₁ ws w in
        let all : through u.count zs x ≡ u.count = omega (arith, few, room, long, l₁) in
        let same = subst (λ (j : ℕ). items x' j ≡ items x j) all p.1 in
        let left = later_lists m t g c in
        let lists : q.0 ≡ items x u.count ∷ left = q.1.1 ∙ walked_lists m o g c t u x cs rs₁ ws w in (
          left,
          f g c (walked_passed m o g c t u x cs rs₁ ws w x' l₂ same),
          ap (all_records_written left) p.0
              ∙ one_less (items x u.count) left zs
              ∙ ap (λ (y : List (List Instruction)). all_records_written y zs) (sym lists)
              ∙ q.2,
        );
  }

  -- what the loop leaves is what the contract says
  pub ends_so_far : (a : TalliedResult Reason) (cs rs ws : List ℕ) (zs : List Record) → SoFar m o t₀ C R D Y (Over a) cs rs ws zs
      → MovesMade m o t₀ C R D Y (tallied a) cs rs ws zs
  ends_so_far a cs rs ws zs so = record {
    over = so.over;
    run = λ g c rest room h.
        let q = so.run g c rest room h in
        let e = q.1 in
        (e.1, sym (none_left zs) ∙ ap (λ (y : List (List Instruction)). all_records_written y zs) (sym e.0) ∙ q.2);
  }

-- ---- on tables of any length

unchanged : (k : ℕ) (C d : List ℕ) → d ≡ take k C → d ++ drop k C ≡ C
unchanged k C d e = ap (λ (y : List ℕ). y ++ drop k C) e ∙ take-append-drop k C

module _ (m o : List ℕ) (t : RunState (TalliedResult Reason)) (C R D : List ℕ) (Y : List Record) (k : ℕ) (r : TalliedResult Reason) (cs rs ws : List ℕ) (zs : List Record) where
  -- the moves made on the first k records of each table, with the other records as they were, are the whole call's
  pub of_all_records : MovesMade m o t (take k C) (take k R) (take k D) Y (tallied r) cs rs ws zs → k ≡ min (word m 6) (min (length C) (min (length R) (length D)))
      → length cs ≡ length (take k C) → length rs ≡ length (take k R) → length ws ≡ length (take k D)
      → (lent : Tables) (whole : LogAnswer) (rest : List (List Instruction)) → CallAt lent (length Y) whole m o rest t C R D
      → (answer_with (tallied r) (cs ++ drop k C) (rs ++ drop k R) (ws ++ drop k D) ≡ whole) × (zs ≡ all_records_written rest Y)
  of_all_records said ek lc lr lw lent whole rest h = by_turn t said h
    where
      by_turn : (s : RunState (TalliedResult Reason)) → MovesMade m o s (take k C) (take k R) (take k D) Y (tallied r) cs rs ws zs → CallAt lent (length Y) whole m o rest s C R D
          → (answer_with (tallied r) (cs ++ drop k C) (rs ++ drop k R) (ws ++ drop k D) ≡ whole) × (zs ≡ all_records_written rest Y)
      by_turn (Next s) made on = ends_call lent (length Y) whole m o rest s C R D on k ek r cs rs ws lc lr lw (zs ≡ all_records_written rest Y) (λ g c few stage. made.run g c rest few stage)
      by_turn (Over a) made e =
          let q = made.over a refl in
          let same : answer_with (tallied r) (cs ++ drop k C) (rs ++ drop k R) (ws ++ drop k D) ≡ answer_with (tallied a) C R D = rw (
            ap (λ (v : LogAnswer). v.answer) q.0,
            ap (λ (v : LogAnswer). v.tally) q.0,
            unchanged k C cs (ap (λ (v : LogAnswer). v.contents) q.0),
            unchanged k R rs (ap (λ (v : LogAnswer). v.readers) q.0),
            unchanged k D ws (ap (λ (v : LogAnswer). v.writers) q.0),
          ) in
          (same ∙ e.1, q.1 ∙ sym (none_left Y) ∙ ap (λ (y : List (List Instruction)). all_records_written y Y) (sym e.0))

-- ---- what is said of results of any type, said of this code's

pub run_to_end : (m o : List ℕ) (s : RunState (TalliedResult Reason)) (t : Tables) (ys : List Record) (r : TalliedResult Reason) (u : Tables) (zs : List Record)
    → AnyRunToEnd (λ x y. y ≡ x) m o s t ys r u zs → RunToEnd m o s t ys (tallied r) u zs
run_to_end m o (Next k) t ys r u zs (x, e, h) = subst (λ (y : TalliedResult Reason). RunToEnd m o (Next k) t ys (tallied y) u zs) (sym e) h
run_to_end m o (Over a) t ys r u zs (e, f, g) = λ lent whole rest h.
    rw (e, f, g) (h.1, sym (none_left ys) ∙ ap (λ (y : List (List Instruction)). all_records_written y ys) (sym h.0))

pub run_to_end_own : (m o : List ℕ) (s : RunState (TalliedResult Reason)) (t : Tables) (n : ℕ) (r : TalliedResult Reason) (u : Tables)
    → AnyRunToEndOwn (λ x y. y ≡ x) m o s t n r u → RunToEndOwn m o s t n (tallied r) u
run_to_end_own m o (Next k) t n r u (x, e, h) = subst (λ (y : TalliedResult Reason). RunToEndOwn m o (Next k) t n (tallied y) u) (sym e) h
run_to_end_own m o (Over a) t n r u (e, f) = λ lent whole rest h. rw (e, f) h.1
