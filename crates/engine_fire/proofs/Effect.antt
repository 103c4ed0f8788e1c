-- A move's effect, from how its walk ended and how it was finished.
use Rattle.std.specs.Prelude.{Option, None, Some}
use mathlib.Core.Path.{◌≡◌, refl, sym, ap, subst, ◌∙◌}
use mathlib.Core.Bool.{Bool, true, false, ◌&&◌, ◌||◌}
use mathlib.Core.List.{List, ◌++◌}
use Prim.Native.Nat.{ℕ}
use native.Mathlib.Omega.{arith}
use borrow.Author.Tests.{ltb-false}
use lib.Dec.{ltb}
use lib.ListN.{length, get_or}
use Rattle.engine.specs.Labels.{TalliedAnswer}
use Rattle.text.specs.declared.Reason.{Reason}
use Rattle.text.specs.Words.{has, least}
use Rattle.text.specs.Refusals.{clash}
use Rattle.book.specs.Book.{Program}
use Rattle.engine.specs.declared.Instruction.{Instruction}
use Rattle.engine.specs.Rule.{Walked, walking, refused_at}
use Rattle.engine.specs.Move.{Moved, fires, move_refused, updates, clashes, is_some, writes, extra_reads, Input, Fired, walk_reads, fired_of, fire_or_clash, settle, move}
use Rattle.engine.proofs.Values.{updates_past}
use Rattle.engine.proofs.Moves.{fired_label}
use Rattle.engine_fire.specs.Steps.{fire_reads}
use Rattle.engine_fire.specs.Outcome.{tally_by, contents_after, write_marked, read_marked, writers_after}
use Rattle.engine_fire.proofs.Taken.{fire_reads_are}
use Rattle.engine_fire.proofs.Tallies.{fire_tally_is}
use Rattle.engine_term.specs.Marks.{marked, mark, marked_where}
use Rattle.engine_term.proofs.Leaves.{placed}
use Rattle.engine_term.proofs.Marking.{marked_append}
use Rattle.engine_release.proofs.ByPlace.{length_each, getD_each, each_is}
use Rattle.engine_emit.specs.declared.Progress.{Progress}
use Rattle.engine_walk.specs.Walk as walk
use Rattle.engine_walk.specs.WalkMarks.{bits_cleared, WalkMarked}
use Rattle.engine_walk.proofs.Kept.{taken_back}
use Rattle.engine_fire.specs.Effect.{tables_left, tally_left, move_answer, MoveFits, MoveEffect, AfterWalk}
use Rattle.engine_fire.specs.Finish.{readers_at_end_of, MoveFinished}
use Rattle.engine_fire.proofs.Marks.{marked_is_where}
use Rattle.engine.specs.Tables.{Tables, tables}
use Rattle.text.proofs.Words.{has_append}

joined_same : (bit : ℕ) (s t : ℕ → Bool) (ms : List ℕ) → ((k : ℕ) → s k ≡ t k) → marked_where bit s ms ≡ marked_where bit t ms
joined_same bit s t ms h =
    each_is (λ (l m : ℕ). mark bit (t l) m) ms (marked_where bit s ms) (length_each (λ (l m : ℕ). mark bit (s l) m) 0 ms)
    (λ l k. getD_each (λ (l m : ℕ). mark bit (s l) m) ms l k ∙ ap (λ (b : Bool). mark bit b (get_or ms l 0)) (h l))

module _ (B : Program) (i : Input) (bit at : ℕ) (c rs ws : List ℕ) (fit : MoveFits B i bit (tables c rs ws)) where
  abbrev ls : List ℕ
  ls = walk_reads B c i

  -- the writer marks: contents of an accepted book have all its locations, so all writes are marked
  write_marked_is : (is : List Instruction) → write_marked bit (length c) (updates B c is) ws ≡ marked_where bit (writes (updates B c is)) ws
  write_marked_is is =
      each_is (λ (l m : ℕ). mark bit (writes (updates B c is) l) m) ws (write_marked bit (length c) (updates B c is) ws)
      (length_each (λ (l m : ℕ). mark bit (ltb l (length c) && writes (updates B c is) l) m) 0 ws)
      (λ l h. getD_each (λ (l m : ℕ). mark bit (ltb l (length c) && writes (updates B c is) l) m) ws l h
      ∙ ap (λ (b : Bool). mark bit b (get_or ws l 0)) (go l (ltb l (length c)) refl))
    where
      go : (l : ℕ) (b : Bool) → ltb l (length c) ≡ b → (b && writes (updates B c is) l) ≡ writes (updates B c is) l
      go l true e = refl
      go l false e = sym (ap is_some (updates_past B c is l (omega (arith, ltb-false l (length c) e, fit.sound.long))))

  module _ (o : Walked) (rs' : List ℕ) (walks : WalkMarked B c bit i o rs rs') (r : TalliedAnswer) (c'' rs'' ws'' : List ℕ)
      (done : MoveFinished B bit at o (tables c rs' ws) r (tables c'' rs'' ws'')) where
    same : move B c i ≡ settle B c ls o
    unfolding move
    same = ap (settle B c ls) (sym (walks.outcome (placed B fit.lawful)))

    whole : (m : Moved) → settle B c ls o ≡ m → tables c'' rs'' ws'' ≡ tables (contents_after c m) (readers_at_end_of B bit c o m rs') (writers_after bit (length c) ws m)
    whole m e = rw (done.contents ls, done.readers ls, done.writers ls, e)

    -- what the move leaves, where it comes to m
    ends : (m : Moved) → settle B c ls o ≡ m → tally_by B c m ≡ tally_left B m
        → tables (contents_after c m) (readers_at_end_of B bit c o m rs') (writers_after bit (length c) ws m) ≡ tables_left bit (tables c rs ws) m
        → MoveEffect B i bit at (tables c rs ws) r (tables c'' rs'' ws'')
    ends m e k t =
        record {
          answer = done.answer ls ∙ ap (move_answer at) (sym same);
          tally = done.tally ls ∙ ap (tally_by B c) e ∙ k ∙ ap (tally_left B) (sym (same ∙ e));
          tables = whole m e ∙ t ∙ ap (tables_left bit (tables c rs ws)) (sym (same ∙ e));
        }

  pub completed_effect : (o : Walked) (rs' : List ℕ) → WalkMarked B c bit i o rs rs' → (r : TalliedAnswer) (c'' rs'' ws'' : List ℕ)
      → MoveFinished B bit at o (tables c rs' ws) r (tables c'' rs'' ws'') → MoveEffect B i bit at (tables c rs ws) r (tables c'' rs'' ws'')
  unfolding settle fire_or_clash
  completed_effect (refused_at n q) rs' walks r c'' rs'' ws'' done =
      let p = fit.power in
      ends (refused_at n q) rs' walks r c'' rs'' ws'' done (move_refused n q) refl refl
      (ap (λ (x : List ℕ). tables c x ws) (walks.refused (placed B fit.lawful) n q refl p.0 p.1 fit.unmarked))
  completed_effect (walking w) rs' walks r c'' rs'' ws'' done = go (least (clashes f.instructions f.updates) (length f.updates)) refl
    where
      f : Fired
      f = fired_of B c ls w.made

      -- the walk marked what it read
      noted : rs' ≡ marked bit ls rs
      noted = walks.fired (placed B fit.lawful) w refl

      back : bits_cleared bit rs' ≡ rs
      back = let p = fit.power in ap (bits_cleared bit) noted ∙ taken_back bit p.0 ls rs p.1 fit.unmarked

      -- firing adds marks for what it reads, which is what the definition says
      rest : move B c i ≡ fires f → least (clashes f.instructions f.updates) (length f.updates) ≡ None
          → read_marked bit B w.made c rs' ≡ marked_where bit (has f.reads) rs
      rest fired e =
          ap (marked bit (fire_reads B w.made c)) noted
          ∙ sym (marked_append bit ls (fire_reads B w.made c) rs)
          ∙ marked_is_where bit (ls ++ fire_reads B w.made c) rs
          ∙ joined_same bit (has (ls ++ fire_reads B w.made c)) (has f.reads) rs
          (λ k. has_append ls (fire_reads B w.made c) k
          ∙ ap (λ (b : Bool). has ls k || b) (fire_reads_are B fit.lawful c fit.sound.long w.made e (λ x h. (fired_label B fit.lawful c fit.sound i f fired x h).1) k)
          ∙ sym (has_append ls (extra_reads B c w.made f.updates) k))

      go : (x : Option ℕ) → least (clashes f.instructions f.updates) (length f.updates) ≡ x → MoveEffect B i bit at (tables c rs ws) r (tables c'' rs'' ws'')
      go None e =
          let fired : move B c i ≡ fires f = same (walking w) rs' walks r c'' rs'' ws'' done ∙ rw e in
          ends (walking w) rs' walks r c'' rs'' ws'' done (fires f) (rw e) (fire_tally_is B fit.lawful c fit.sound i f fired) (rw (rest fired e, write_marked_is w.made))
      go (Some l) e = ends (walking w) rs' walks r c'' rs'' ws'' done (move_refused clash l) (rw e) refl (rw back)

-- the effect of a move as the code has it: the walk, begun on t, left the tables c, rs and ws with its end s and the list l
pub finished_effect : (B : Program) (i : Input) (bit at : ℕ) (t : Tables) (s : Progress Reason) (l c rs ws : List ℕ) → AfterWalk B i bit t s l (tables c rs ws) → (r : TalliedAnswer) (u : Tables)
    → MoveFinished B bit at (walk.outcome s l) (tables c rs ws) r u → MoveEffect B i bit at t r u
finished_effect B i bit at t s l c rs ws after r u done =
    subst (λ (x : Tables). MoveEffect B i bit at x r u) begun
    (completed_effect B i bit at c t.readers ws fit (walk.outcome s l) rs walks r u.contents u.readers u.writers done)
  where
    begun : tables c t.readers ws ≡ t
    begun = rw (after.contents, after.writers)

    fit : MoveFits B i bit (tables c t.readers ws)
    fit = subst (MoveFits B i bit) (sym begun) after.fit

    walks : WalkMarked B c bit i (walk.outcome s l) t.readers rs
    walks = subst (λ (x : List ℕ). WalkMarked B x bit i (walk.outcome s l) t.readers rs) (sym after.contents) after.readers
