-- The moves in turn: what holds before the first, and what a move that fires or is refused leaves.
use Rattle.std.proofs.Common.{◌≡◌, ℕ, zero, suc, ◌+◌, ◌%◌, ◌^◌, ◌<◌, ◌≤◌, ◌≢◌, List, [], ◌∷◌, ◌++◌, length, get_or, replicate, sym, refl, ap, ◌∙◌, subst, ap₂, mod-eq_of_lt, add-one, arith}
use Rattle.book.specs.Book.{Program, L}
use Rattle.book.specs.Sound.{Lawful, Sound}
use Rattle.engine.specs.declared.Tally.{Tally}
use Rattle.engine.specs.Labels.{TalliedAnswer}
use Rattle.engine.specs.Labels.{tally_of, no_labels, added, move_tally, tally}
use Rattle.engine.specs.Move.{Input, Fired, Moved, fires, move_refused, move, fire}
use Rattle.engine.proofs.Claims.{moves_leave}
use Rattle.engine.proofs.Numbers.{move_number, fired_few}
use Rattle.engine.proofs.Labels.{issued_few, returned_few}
use Rattle.text.specs.Words.{Answer}
use Rattle.engine_fire.specs.Effect.{tables_left, tally_left, move_answer, MoveFits, MoveEffect}
use Rattle.order.specs.Log.{Log, move_at}
use Rattle.order.specs.Run.{Run, halted, moved, run, readers}
use Rattle.order.proofs.Marks.{run_left}
use Rattle.order_run.specs.RunTables.{RunTables}
use Rattle.order_run.specs.Runs.{AfterMoves}
use Rattle.order_run.proofs.Marks.{readers_more, writers_more, readers_below, readers_none, writers_none}
use Rattle.engine.specs.Tables.{Tables, tables}

-- the tally of one move more
tally_more : (B : Program) (fs : List Fired) (f : Fired) → tally B (fs ++ (f ∷ [])) ≡ added (tally B fs) (move_tally B f)
unfolding tally
tally_more B [] f = ap₂ tally_of (omega arith) (omega arith)
tally_more B (e ∷ fs) f =
    let r = tally_more B fs f in
    ap₂ tally_of (omega (arith, ap (λ (t : Tally). t.issued) r)) (omega (arith, ap (λ (t : Tally). t.returned) r))

module _ (B : Program) (g : Log) (c : List ℕ) where
  pub moves_start : (rs ws : List ℕ) → Sound B c → rs ≡ replicate (L B) 0 → ws ≡ replicate (L B) 0 → AfterMoves B g c 0 no_labels c rs ws
  unfolding run tally
  moves_start rs ws sound r w = record {
    state = record { contents = c; fired = [] };
    goes = refl;
    tally = refl;
    few = (omega arith, omega arith);
    sound = sound;
    tables = record { contents = refl; readers = r ∙ sym (readers_none (L B)); writers = w ∙ sym (writers_none (L B)) };
  }

  -- a move that is refused is the last
  pub halts : (i j n p q : ℕ) (s : Run) → run B g c i ≡ halted n p q s → run B g c (j + i) ≡ halted n p q s
  unfolding run
  halts i zero n p q s e = let z : 0 + i ≡ i = omega arith in rw z e
  halts i (suc j) n p q s e = let z : suc j + i ≡ suc (j + i) = omega arith in rw (z, halts i j n p q s e)

  module _ (lawful : Lawful B) (i : ℕ) (k : Input) (u : Tally) (d rs ws : List ℕ) (to : AfterMoves B g c i u d rs ws) where
    pub moves_fit : i < 64 → k.agent < length B.agents → MoveFits B k (2 ^ i) (tables d rs ws)
    moves_fit h a = record {
      lawful = lawful;
      sound = to.sound;
      agent = a;
      power = (i, refl, h);
      unmarked = λ x.
          rw to.tables.readers (subst (λ (y : ℕ). get_or (readers (L B) to.state.fired) x 0 < 2 ^ y) (run_left B g c i to.state to.goes).long (readers_below (L B) to.state.fired x));
    }

    module _ (is : k ≡ move_at g i) (v : TalliedAnswer) (d' rs' ws' : List ℕ) (ends : MoveEffect B k (2 ^ i) i (tables d rs ws) v (tables d' rs' ws')) where
      abbrev o : Moved
      o = move B d k

      as_listed : move B to.state.contents (move_at g i) ≡ o
      as_listed = rw (← to.tables.contents, ← is)

      next_run : run B g c (suc i) ≡ moved i to.state o
      unfolding run
      next_run = rw to.goes (ap (moved i to.state) as_listed)

      -- the move fired: the moves up to it have, and x is their tally
      pub moves_on : v.answer.number ≡ 0 → i < 64 → (x : Tally) → x.issued ≡ (u.issued + v.tally.issued) % 2 ^ 64
          → x.returned ≡ (u.returned + v.tally.returned) % 2 ^ 64 → AfterMoves B g c (i + 1) x d' rs' ws'
      moves_on z low x xi xr = go o refl ends.answer ends.tally ends.tables
        where
          go : (m : Moved) → o ≡ m → v.answer ≡ move_answer i m → v.tally ≡ tally_left B m → tables d' rs' ws' ≡ tables_left (2 ^ i) (tables d rs ws) m → AfterMoves B g c (i + 1) x d' rs' ws'
          go (move_refused n q) e y n' t = absurd (omega (arith, ap (λ (a : Answer). a.number) y, z, (move_number B d k n q e).0.0))
          go (fires f) e y n t =
              let long : length to.state.fired ≡ i = (run_left B g c i to.state to.goes).long in
              let leaves = moves_leave B lawful d to.sound k f e in
              let most = fired_few B d k f e in
              let one : v.tally.issued ≤ 256 = omega (arith, ap (λ (a : Tally). a.issued) n, issued_few B f.instructions, most) in
              let two : v.tally.returned ≤ 256 = omega (arith, ap (λ (a : Tally). a.returned) n, returned_few f.instructions, most) in
              let gave : x.issued ≡ u.issued + v.tally.issued = xi ∙ mod-eq_of_lt (omega (arith, to.few.0, one, low)) in
              let took : x.returned ≡ u.returned + v.tally.returned = xr ∙ mod-eq_of_lt (omega (arith, to.few.1, two, low)) in
              record {
                state = record { contents = fire f.updates to.state.contents; fired = to.state.fired ++ (f ∷ []) };
                goes = rw (add-one i) (next_run ∙ rw e);
                tally = ap₂ tally_of gave took ∙ ap₂ added to.tally n ∙ sym (tally_more B to.state.fired f);
                few = (omega (arith, gave, to.few.0, one), omega (arith, took, to.few.1, two));
                sound = subst (Sound B) (sym (ap (λ (s : Tables). s.contents) t)) leaves.sound;
                tables = record {
                  contents = ap (λ (s : Tables). s.contents) t ∙ ap (fire f.updates) to.tables.contents;
                  readers = ap (λ (s : Tables). s.readers) t ∙ rw (to.tables.readers, ← long) (sym (readers_more (L B) to.state.fired f));
                  writers = ap (λ (s : Tables). s.writers) t ∙ rw (to.tables.writers, ← long) (sym (writers_more (L B) to.state.fired f));
                };
              }

      -- the move was refused: the run ends with it
      pub moves_off : v.answer.number ≢ 0 → (run B g c (suc i) ≡ halted v.answer.number v.answer.p v.answer.q to.state) × RunTables B to.state d' rs' ws'
      moves_off z = go o refl ends.answer ends.tables
        where
          go : (x : Moved) → o ≡ x → v.answer ≡ move_answer i x → tables d' rs' ws' ≡ tables_left (2 ^ i) (tables d rs ws) x
              → (run B g c (suc i) ≡ halted v.answer.number v.answer.p v.answer.q to.state) × RunTables B to.state d' rs' ws'
          go (fires f) e y t = absurd (z (ap (λ (a : Answer). a.number) y))
          go (move_refused m q) e y t = (
            next_run ∙ rw (e, y),
            record {
              contents = ap (λ (s : Tables). s.contents) t ∙ to.tables.contents;
              readers = ap (λ (s : Tables). s.readers) t ∙ to.tables.readers;
              writers = ap (λ (s : Tables). s.writers) t ∙ to.tables.writers;
            },
          )
