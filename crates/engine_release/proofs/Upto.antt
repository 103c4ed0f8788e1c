-- What holds while a label is cleared from a part: its places below i are done.
use mathlib.Core.Path.{◌≡◌, refl, sym, ap, ◌∙◌}
use mathlib.Core.Bool.{Bool, false, ◌&&◌}
use mathlib.Core.List.{List}
use Prim.Native.Nat.{ℕ, ◌+◌, ◌-◌, ◌≤◌, ◌<◌}
use native.Mathlib.Omega.{arith}
use borrow.Author.Tests.{le-ltb, lt-ltb}
use lib.Dec.{ltb}
use lib.ListN.{length, get_or, set}
use Rattle.engine.specs.Move.{append_from}
use Rattle.engine.proofs.Append.{append_past}
use Rattle.engine_term.specs.Marks.{marked, mark}
use Rattle.engine_instruction.specs.Given.{clears_in}
use Rattle.engine_instruction.proofs.Laws.{and_none}
use Rattle.engine_release.specs.declared.Released.{Released}
use Rattle.engine_release.specs.Part.{value_cleared_in, part_cleared, part_marked, reads_in, part_reads}
use Rattle.engine_release.proofs.Next.{marked_next}
use Rattle.engine_release.proofs.ByPlace.{Swept, sweep_start, sweep_next, sweep_pass, sweep_end}

module _ (r : Released) (part₀ readers₀ marks₀ : List ℕ) where
  abbrev clears_place : ℕ → ℕ → Bool
  clears_place k v = clears_in r.function k v r.label

  abbrev clear_value : ℕ → ℕ → ℕ
  clear_value k v = value_cleared_in r.function r.label k v

  abbrev mark_place : ℕ → ℕ → ℕ
  mark_place k m = mark r.bit (ltb k (length part₀) && clears_place k (get_or part₀ k 0)) m

  abbrev read : ℕ → List ℕ
  read k = reads_in r.permanent r.function r.label r.first k (get_or part₀ k 0)

  pub record Upto (i : ℕ) (part readers marks : List ℕ) : Type 0 where
    pub contents : Swept clear_value i part₀ part
    pub reads : readers ≡ marked r.bit (append_from read 0 i) readers₀
    pub writes : Swept mark_place i marks₀ marks
    pub most : i ≤ length part₀

  pub upto_start : Upto 0 part₀ readers₀ marks₀
  unfolding append_from marked
  upto_start = record { contents = sweep_start clear_value part₀; reads = refl; writes = sweep_start mark_place marks₀; most = omega arith }

  module _ (i : ℕ) (part readers marks : List ℕ) (u : Upto i part readers marks) where
    -- places up to j that are not cleared are passed over
    pub upto_pass : (j : ℕ) → i ≤ j → j ≤ length part → ((k : ℕ) → i ≤ k → k < j → clears_place k (get_or part k 0) ≡ false) → Upto j part readers marks
    upto_pass j h l none =
        record {
          contents = sweep_pass clear_value i j part₀ part u.contents h (λ k p q. rw (here k p q));
          reads = u.reads ∙ ap (λ (ls : List ℕ). marked r.bit ls readers₀) more;
          writes = sweep_pass mark_place i j marks₀ marks u.writes h (λ k p q. rw (here k p q, and_none (ltb k (length part₀))));
          most = omega (arith, u.contents.same);
        }
      where
        here : (k : ℕ) → i ≤ k → k < j → clears_place k (get_or part₀ k 0) ≡ false
        here k p q = rw (u.contents.left k p) at (none k p q)

        more : append_from read 0 i ≡ append_from read 0 j
        more =
            let z : i + (j - i) ≡ j = omega arith in
            sym (append_past read 0 i (j - i) (λ k p. rw (here (0 + i + k) (omega arith) (omega arith)))) ∙ ap (append_from read 0) z

    -- place i is cleared if the label's release clears it
    pub upto_one : i < length part₀ → (part' readers' marks' : List ℕ) → part' ≡ set part i (clear_value i (get_or part i 0))
        → readers' ≡ marked r.bit (reads_in r.permanent r.function r.label r.first i (get_or part i 0)) readers
        → marks' ≡ set marks i (mark r.bit (clears_place i (get_or part i 0)) (get_or marks i 0)) → Upto (i + 1) part' readers' marks'
    upto_one t part' readers' marks' p q o =
        record {
          contents = sweep_next clear_value i part₀ part part' (clear_value i (get_or part₀ i 0)) u.contents refl (p ∙ rw same);
          reads = marked_next r.bit read i readers₀ readers readers' u.reads (q ∙ rw same);
          writes =
              sweep_next mark_place i marks₀ marks marks' (mark r.bit (clears_place i (get_or part₀ i 0)) (get_or marks₀ i 0)) u.writes (rw (lt-ltb i (length part₀) t))
              (o ∙ rw (same, u.writes.left i (omega arith)));
          most = omega arith;
        }
      where
        same : get_or part i 0 ≡ get_or part₀ i 0
        same = u.contents.left i (omega arith)

    pub upto_end : length part ≤ i
        → (part ≡ part_cleared r.function r.label part₀)
        × ((marks ≡ part_marked r.bit r.function r.label part₀ marks₀)
        × (readers ≡ marked r.bit (part_reads r.permanent r.function r.label r.first part₀) readers₀))
    upto_end h =
        let t : i ≡ length part₀ = omega (arith, u.contents.same, u.most) in (
          sweep_end clear_value i part₀ part u.contents (λ k m n. absurd (omega arith)),
          (sweep_end mark_place i marks₀ marks u.writes (λ k m n. let o : length part₀ ≤ k = omega arith in rw (le-ltb k (length part₀) o)), u.reads ∙ rw t),
        )
