-- A log's run on tables of just the records needed: the next move, one that is begun, one that is finished, and the end.
use Rattle.std.specs.Prelude.{Result}
use Rattle.text.specs.declared.Reason.{Reason}
use Rattle.text.specs.declared.Refusal.{Refusal}
use Rattle.text.specs.Words.{told}
use Rattle.std.proofs.Common.{◌≡◌, ℕ, zero, suc, ◌+◌, ◌-◌, ◌%◌, ◌^◌, ◌<◌, ◌≤◌, ◌≢◌, List, [], ◌∷◌, length, replicate, sym, refl, ap, ◌∙◌, subst, add-one, arith}
use Rattle.book.specs.Book.{Program, Book, start}
use Rattle.book.specs.Image.{low_program}
use Rattle.engine.specs.declared.Instruction.{Instruction}
use Rattle.engine.specs.declared.Tally.{Tally}
use Rattle.engine.specs.Labels.{TalliedAnswer}
use Rattle.engine.specs.Labels.{no_labels, tally}
use Rattle.engine.specs.Move.{Input, input, walked, made_by}
use Rattle.engine.specs.Rule.{Walked as Outcome}
use Rattle.engine_instruction.specs.Code.{items}
use Rattle.engine_walk.specs.Walk.{outcome}
use Rattle.engine_walk.specs.WalkMarks.{WalkMarked}
use Rattle.engine_term.proofs.Leaves.{placed}
use Rattle.engine_fire.specs.declared.Begun.{Begun}
use Rattle.engine_fire.specs.Effect.{MoveFits, MoveEffect}
use Rattle.engine_fire.specs.Finish.{MoveFinished}
use Rattle.engine_fire.specs.Count.{instructions_given}
use Rattle.engine_fire.proofs.Count.{made_of, given_few, same_outcome}
use Rattle.engine_fire.proofs.Effect.{finished_effect}
use Rattle.order.specs.Pairs.{PairFound, no_pair, a_pair, least_pair}
use Rattle.order.specs.Log.{Log, move_at}
use Rattle.order.specs.Run.{Run, ran, halted, run, touching, order_checked, run_answer, run_from}
use Rattle.order.specs.Lists.{lists_from}
use Rattle.order.specs.Table.{input_in}
use Rattle.order_touch.specs.Marked.{unordered_marked, clipped}
use Rattle.order_run.specs.RunTables.{RunTables, touch_answer}
use Rattle.order_run.proofs.RunTables.{order_answer}
use Rattle.engine.specs.declared.TalliedResult.{TalliedResult}
use Rattle.order_run.specs.declared.RunState.{RunState}
use Rattle.order_run.specs.declared.RunState.TheVariants.{Next, Over}
use Rattle.order_run.specs.declared.Upcoming.{Upcoming}
use Rattle.order_run.specs.Runs.{Startable, answer_with}
use Rattle.order_run.specs.Stages.{FiredSoFar, MoveNext, RunAt, MoveBegun}
use Rattle.order_run.proofs.Runs.{moves_start, halts, moves_fit, moves_on, moves_off}
use Rattle.engine.specs.Tables.{tables}

-- ---- the lists of instructions

module _ (B : Program) (g : Log) (c : List ℕ) where
  pub lists_on : (n i : ℕ) (s : Run) → run B g c i ≡ ran s → lists_from B g c (suc n) i ≡ made_by (walked B s.contents (move_at g i)) ∷ lists_from B g c n (suc i)
  unfolding lists_from
  lists_on n i s e = rw e

  lists_off : (n i a p q : ℕ) (s : Run) → run B g c i ≡ halted a p q s → lists_from B g c n i ≡ []
  unfolding lists_from
  lists_off zero i a p q s e = refl
  lists_off (suc n) i a p q s e = rw e

  lists_end : (n i : ℕ) → n ≡ 0 → lists_from B g c n i ≡ []
  unfolding lists_from
  lists_end zero i e = refl
  lists_end (suc n) i e = absurd (omega (arith, e))

  -- ---- the end of a run

  module _ (s : Run) (d rs ws : List ℕ) (h : RunTables B s d rs ws) where
    -- the end of a run in which a move was refused
    ends_halted : (a : TalliedAnswer) → a.tally ≡ tally B s.fired → run B g c (length g.moves) ≡ halted a.answer.number a.answer.p a.answer.q s
        → answer_with a d rs ws ≡ run_from B g c
    unfolding run_from run_answer
    ends_halted a k e = rw (e, k, h.contents, h.readers, h.writers)

    -- the end of a run in which all moves fired
    ends_ran : run B g c (length g.moves) ≡ ran s → (a : TalliedAnswer) → a.tally ≡ tally B s.fired
        → a.answer ≡ (order_checked B s (touching B g s.fired)).answer → answer_with a d rs ws ≡ run_from B g c
    unfolding run_from run_answer
    ends_ran e a k f = rw e (go (touching B g s.fired) f)
      where
        go : (o : PairFound) → a.answer ≡ (order_checked B s o).answer → answer_with a d rs ws ≡ order_checked B s o
        go no_pair y = rw (y, k, h.contents, h.readers, h.writers)
        go (a_pair i j) y = rw (y, k, h.contents, h.readers, h.writers)

-- ---- from move to move

module _ (m o : List ℕ) (g : Log) (c : List ℕ) where
  abbrev A : Program
  A = low_program m

  module _ (n i : ℕ) (en : n ≡ length g.moves) (k : Tally) (d rs ws : List ℕ) (to : FiredSoFar m o g c i k d rs ws) where
    pub turn_on : i < n → RunAt m o g c (lists_from A g c (n - i) i) (Next (record { at = i; moves = n; tally = k })) d rs ws
    turn_on below = (record { before = to; at = omega (arith, below, en); moves = en }, refl)

    pub turn_over : n ≤ i → (a : Result (Unit {0}) (Refusal Reason)) → told a ≡ touch_answer (least_pair (unordered_marked o rs ws (clipped rs ws (length rs))) n)
        → RunAt m o g c (lists_from A g c (n - i) i) (Over (record { answer = a; tally = k })) d rs ws
    turn_over past a e =
        let s = to.going.state in
        let q : i ≡ length g.moves = omega (arith, past, to.most, en) in
        let all : run A g c (length g.moves) ≡ ran s = subst (λ (j : ℕ). run A g c j ≡ ran s) q to.going.goes in (
          lists_end A g c (n - i) i (omega (arith, past)),
          ends_ran A g c s d rs ws to.going.tables all (record { answer = told a; tally = k }) to.going.tally (e ∙ order_answer A g s d rs ws o n en to.runs.order to.going.tables),
        )

  -- ---- the next move

  module _ (t : Upcoming) (d rs ws : List ℕ) (to : MoveNext m o g c t d rs ws) where
    abbrev i : ℕ
    i = t.at

    abbrev k : Input
    k = input_in o i

    is : k ≡ move_at g i
    is = rw (to.before.runs.order.agents i to.at, to.before.runs.order.picks i to.at)

    pub low : i < 64
    low = omega (arith, to.at, to.before.runs.few)

    pub agent_low : k.agent < length A.agents
    agent_low = rw (to.before.runs.order.agents i to.at) (to.before.runs.agents i to.at)

    fit : MoveFits A k (2 ^ i) (tables d rs ws)
    fit = moves_fit A g c to.before.runs.lawful i k t.tally d rs ws to.before.going low agent_low

    -- the next move is begun
    pub begins : (bit agent : ℕ) (ys : List ℕ) → bit ≡ 2 ^ i → agent ≡ k.agent → ys ≡ k.picks → (s : Begun Reason) (x rs' : List ℕ)
        → WalkMarked A d bit (input agent ys) (outcome s.walk x) rs rs' → s.count ≡ instructions_given s.walk → length x ≡ 256 → MoveBegun m o g c t s x d rs' ws
    begins bit agent ys eb ek ep s x rs' gathered ec room = record {
      old = tables d rs ws;
      next = to;
      after = record { fit = fit; contents = refl; readers = rw (← ek, ← ep, ← eb) gathered; writers = refl };
      room = room;
      count = ec;
    }

  -- ---- a move that is begun

  module _ (t : Upcoming) (s : Begun Reason) (x d rs ws : List ℕ) (w : MoveBegun m o g c t s x d rs ws) where
    abbrev now : MoveNext m o g c t w.old.contents w.old.readers w.old.writers
    now = w.next

    as_listed : walked A w.old.contents (input_in o t.at) ≡ walked A now.before.going.state.contents (move_at g t.at)
    as_listed =
        ap (λ (e : List ℕ). walked A e (input_in o t.at)) now.before.going.tables.contents
        ∙ ap (walked A now.before.going.state.contents) (is t w.old.contents w.old.readers w.old.writers now)

    -- the lists of the moves from this one on are its instructions, and then those of the others
    pub walked_lists : lists_from A g c (t.moves - t.at) t.at ≡ items x s.count ∷ lists_from A g c (t.moves - (t.at + 1)) (t.at + 1)
    walked_lists =
        let j = t.moves - (t.at + 1) in
        let e : t.moves - t.at ≡ suc j = omega (arith, now.at, now.moves) in
        let f : suc t.at ≡ t.at + 1 = sym (add-one t.at) in
        ap (λ (n : ℕ). lists_from A g c n t.at) e
        ∙ lists_on A g c j t.at now.before.going.state now.before.going.goes
        ∙ ap (λ (is : List Instruction). is ∷ lists_from A g c j (suc t.at)) (sym (ap (items x) w.count ∙ made_of s.walk x w.room ∙ ap made_by (w.after.readers.outcome (placed A w.after.fit.lawful) ∙ as_listed)))
        ∙ ap (λ (n : ℕ). items x s.count ∷ lists_from A g c j n) f

    -- a move gives no more instructions than fit
    pub walked_few : s.count ≤ 256
    walked_few = omega (arith, w.count, given_few s.walk)

    -- any list that holds the same instructions will do
    pub walked_passed : (x' : List ℕ) → length x' ≡ 256 → items x' s.count ≡ items x s.count → MoveBegun m o g c t s x' d rs ws
    walked_passed x' e q =
        let i : outcome s.walk x' ≡ outcome s.walk x = same_outcome s.walk x x' w.room e (subst (λ (j : ℕ). items x' j ≡ items x j) w.count q) in
        record {
          old = w.old;
          next = w.next;
          after = record {
            fit = w.after.fit;
            contents = w.after.contents;
            readers = subst (λ (y : Outcome). WalkMarked A w.old.contents (2 ^ t.at) (input_in o t.at) y w.old.readers rs) (sym i) w.after.readers;
            writers = w.after.writers;
          };
          room = e;
          count = w.count;
        }

    module _ (a : TalliedAnswer) (d' rs' ws' : List ℕ) (bit : ℕ) (eb : bit ≡ 2 ^ t.at)
        (does : MoveFinished A bit t.at (outcome s.walk x) (tables d rs ws) a (tables d' rs' ws'))
      where
        effect : MoveEffect A (input_in o t.at) (2 ^ t.at) t.at w.old a (tables d' rs' ws')
        effect =
            finished_effect A (input_in o t.at) (2 ^ t.at) t.at w.old s.walk x d rs ws w.after a (tables d' rs' ws')
            (subst (λ (z : ℕ). MoveFinished A z t.at (outcome s.walk x) (tables d rs ws) a (tables d' rs' ws')) eb does)

        here : input_in o t.at ≡ move_at g t.at
        here = is t w.old.contents w.old.readers w.old.writers now

        -- the move fired, and k is the tally with it
        fires : a.answer.number ≡ 0 → (k : Tally) → k.issued ≡ (t.tally.issued + a.tally.issued) % 2 ^ 64
            → k.returned ≡ (t.tally.returned + a.tally.returned) % 2 ^ 64 → FiredSoFar m o g c (t.at + 1) k d' rs' ws'
        fires z k ki kr = record {
          runs = now.before.runs;
          most = omega (arith, now.at);
          going = moves_on A g c now.before.runs.lawful t.at (input_in o t.at) t.tally w.old.contents w.old.readers w.old.writers now.before.going here a d' rs' ws' effect z (low t w.old.contents w.old.readers w.old.writers now) k ki kr;
        }

        pub finish_on : a.answer.number ≡ 0 → (r : RunState (TalliedResult Reason)) (j : ℕ) → j ≡ t.at + 1
            → (k : Tally) → k.issued ≡ (t.tally.issued + a.tally.issued) % 2 ^ 64 → k.returned ≡ (t.tally.returned + a.tally.returned) % 2 ^ 64
            → (t.moves ≡ length g.moves → FiredSoFar m o g c j k d' rs' ws' → RunAt m o g c (lists_from A g c (t.moves - j) j) r d' rs' ws')
            → RunAt m o g c (lists_from A g c (t.moves - (t.at + 1)) (t.at + 1)) r d' rs' ws'
        finish_on z r j e k ki kr next =
            subst (λ (q : ℕ). FiredSoFar m o g c q k d' rs' ws' → RunAt m o g c (lists_from A g c (t.moves - q) q) r d' rs' ws') e (next now.moves) (fires z k ki kr)

        -- the move was refused: the tally of those before it stands
        pub finish_off : a.answer.number ≢ 0
            → (e : Result (Unit {0}) (Refusal Reason)) → told e ≡ a.answer
            → RunAt m o g c (lists_from A g c (t.moves - (t.at + 1)) (t.at + 1)) (Over (record { answer = e; tally = t.tally })) d' rs' ws'
        finish_off z e says =
            let u = now.before.going.state in
            let v = a.answer in
            let off = moves_off A g c now.before.runs.lawful t.at (input_in o t.at) t.tally w.old.contents w.old.readers w.old.writers now.before.going here a d' rs' ws' effect z in
            let j = length g.moves - suc t.at in
            let to_n : j + suc t.at ≡ length g.moves = omega (arith, now.at) in
            let all = subst (λ (q : ℕ). run A g c q ≡ halted v.number v.p v.q u) to_n (halts A g c (suc t.at) j v.number v.p v.q u off.0) in
            let last = subst (λ (q : ℕ). run A g c q ≡ halted v.number v.p v.q u) (sym (add-one t.at)) off.0 in (
              lists_off A g c (t.moves - (t.at + 1)) (t.at + 1) v.number v.p v.q u last,
              rw says (ends_halted A g c u d' rs' ws' off.1 (record { answer = v; tally = t.tally }) now.before.going.tally all),
            )

-- ---- the start

pub starts_run : (book m o : List ℕ) (b : Book) (g : Log) (n : ℕ) (d rs ws : List ℕ) → Startable book m o b g n d rs ws → (d' rs' ws' : List ℕ) → d' ≡ start b
    → rs' ≡ replicate (length rs) 0 → ws' ≡ replicate (length ws) 0 → FiredSoFar m o g (start b) 0 no_labels d' rs' ws'
starts_run book m o b g n d rs ws s d' rs' ws' ed er ew = record {
  runs = s.runs;
  most = omega arith;
  going = rw ed (moves_start (low_program m) g (start b) rs' ws' s.runs.sound (er ∙ ap (λ (x : ℕ). replicate x 0) s.readers) (ew ∙ ap (λ (x : ℕ). replicate x 0) s.writers));
}

-- the lists of the moves from the first one on
pub from_none : (m o : List ℕ) (b : Book) (g : Log) (n : ℕ) (t : RunState (TalliedResult Reason)) (d rs ws : List ℕ) → RunAt m o g (start b) (lists_from (low_program m) g (start b) (n - 0) 0) t d rs ws
    → RunAt m o g (start b) (lists_from (low_program m) g (start b) n 0) t d rs ws
from_none m o b g n t d rs ws s = subst (λ (j : ℕ). RunAt m o g (start b) (lists_from (low_program m) g (start b) j 0) t d rs ws) {x = n - 0} {y = n} (omega arith) s
