-- The loop over the move lines: what holds when i of them are read.
use Rattle.std.specs.Prelude.{Option, None, Some}
use Rattle.std.specs.Prelude.{if◌then◌else◌}
use mathlib.Core.Path.{◌≡◌, refl, ap, ◌∙◌}
use mathlib.Core.Bool.{Bool, true, false}
use mathlib.Core.List.{List}
use Prim.Native.Nat.{ℕ, ◌+◌, ◌-◌, ◌≤◌, ◌<◌}
use native.Mathlib.Omega.{arith}
use lib.ListN.{length}
use Rattle.text.specs.declared.Line.{Line}
use Rattle.text.specs.Words.{least_from, least}
use Rattle.text.specs.Text.{bad_line, line, parsed}
use Rattle.text.proofs.Fields.{parsed_some}
use Rattle.order.specs.Log.{bad_move, bad_move_at}
use Rattle.order_lines.specs.Lines.{first_found, shifted}
use Rattle.order_lines.proofs.Places.{part_start, part_pass, part_stop, part_end, fault_turn, found_some, line_bad, line_good}
use Rattle.order_log.specs.Read.{MovesRead}
use Rattle.order_log.proofs.Parts.{Filled, filled, filled_start, filled_turn}

module _ (A : ℕ) (text : List ℕ) (m : ℕ) where
  pub record Moved (i : ℕ) (t : List ℕ) (found : Option ℕ) : Type 0 where
    pub ill : least_from (bad_line text) (m - i) (1 + i) ≡ least_from (bad_line text) m 1
    pub fault : found ≡ shifted 1 (least (bad_move_at A text) i)
    pub table : Filled (λ j. (line text (1 + j)).a) i t

  pub moved_start : (t : List ℕ) → length t ≡ 512 → Moved 0 t None
  unfolding least_from
  moved_start t e = record { ill = part_start (bad_line text) 1 m; fault = refl; table = filled_start (λ j. (line text (1 + j)).a) t e }

  module _ (i : ℕ) (t : List ℕ) (found : Option ℕ) (w : Moved i t found) where
    module _ (h : i < m) (p : Option Line) (is : p ≡ parsed text (1 + i)) where
      pub moved_stop : p ≡ None → MovesRead A text m t (record { ill = Some (1 + i); fault = found })
      moved_stop e = record {
        ill = part_stop (bad_line text) 1 m i h (line_bad text (1 + i) p is e) w.ill;
        fault = λ z. found_some z;
        predecessors = λ z. found_some z;
        agents = λ z. found_some z;
        picks = λ z. found_some z;
      }

      pub moved_turn : m ≤ 64 → (y : Line) → p ≡ Some y → (b : Bool) → b ≡ bad_move A y → (r : Option ℕ) → r ≡ first_found found (if b then Some (1 + i) else None)
          → Moved (i + 1) (filled t i y.a) r
      moved_turn small y e b f r g =
          let l = (parsed_some text (1 + i) p is y e).1 in
          record {
            ill = part_pass (bad_line text) 1 m i h (line_good text (1 + i) p is y e) w.ill;
            fault = fault_turn (bad_move_at A text) 1 i found r b w.fault (f ∙ ap (bad_move A) l) g;
            table = filled_turn (λ j. (line text (1 + j)).a) t i y.a (omega arith) (ap (λ (x : Line). x.a) l) w.table;
          }

    pub moved_end : i ≡ m → MovesRead A text m t (record { ill = None; fault = found })
    moved_end e = record {
      ill = part_end (bad_line text) 1 m i (omega arith) w.ill;
      fault = λ z. w.fault ∙ rw e;
      predecessors = λ z j k. w.table.predecessors j (omega arith);
      agents = λ z j k. w.table.agents j (omega arith);
      picks = λ z j k. w.table.picks j (omega arith);
    }
