-- The loop over the lines of one kind: what holds when i of them are read and put into a table.
use Rattle.std.specs.Prelude.{Option, None, Some}
use Rattle.std.specs.Prelude.{if◌then◌else◌}
use mathlib.Core.Path.{◌≡◌, refl, sym, ap, ◌∙◌}
use mathlib.Core.Logic.{dite, ◌≢◌}
use mathlib.Core.Bool.{Bool, true, false}
use mathlib.Core.List.{List}
use Prim.Native.Nat.{ℕ, suc, ◌+◌, ◌-◌, ◌≤◌, ◌<◌}
use native.Mathlib.Numerals.{add-one}
use native.Mathlib.Omega.{arith}
use native.Mathlib.Decide.{ℕ_discrete}
use Rattle.text.specs.declared.Line.{Line}
use Rattle.text.specs.Words.{table_from, table, least_from, least}
use Rattle.text.specs.Text.{bad_line, line, parsed}
use Rattle.text.proofs.Fields.{parsed_some}
use Rattle.order.specs.Log.{Choice}
use Rattle.order_lines.specs.Lines.{first_found, shifted, KindRead, pick_put, picks_put}
use Rattle.order_lines.proofs.Places.{part_start, part_pass, part_stop, part_end, fault_turn, fault_none, found_some, line_bad, line_good}

-- ---- lines of any kind

-- the n lines after line k. `bad` says by the line before it, the line and its number whether one is at fault; `rest i` puts in those from line i on
module _ (text : List ℕ) (k n : ℕ) (bad : Line → Line → ℕ → Bool) (rest : ℕ → List ℕ → List ℕ) (s : List ℕ) where
  abbrev pub bad_at : ℕ → Bool
  bad_at i = bad (line text (k + i)) (line text (1 + k + i)) i

  pub record Turned (i : ℕ) (t : List ℕ) (last : Line) (found : Option ℕ) : Type 0 where
    pub ill : least_from (bad_line text) (n - i) (1 + k + i) ≡ least_from (bad_line text) n (1 + k)
    pub before : 0 < i → last ≡ line text (k + i)
    pub fault : found ≡ shifted (1 + k) (least bad_at i)
    pub order : found ≡ None → rest i t ≡ rest 0 s

  pub turned_start : (l : Line) → Turned 0 s l None
  unfolding least_from
  turned_start l = record { ill = part_start (bad_line text) (1 + k) n; before = λ h. absurd (omega arith); fault = refl; order = λ z. refl }

  module _ (i : ℕ) (t : List ℕ) (last : Line) (found : Option ℕ) (w : Turned i t last found) where
    module _ (h : i < n) (p : Option Line) (is : p ≡ parsed text (1 + k + i)) where
      pub turned_stop : p ≡ None → KindRead text k n bad_at (rest 0 s) t (record { ill = Some (1 + k + i); fault = found })
      turned_stop e = record {
        ill = part_stop (bad_line text) (1 + k) n i h (line_bad text (1 + k + i) p is e) w.ill;
        fault = λ z. found_some z;
        order = λ z. found_some z;
      }

      -- one line more is read and put in, v being the table with it; the first line has none before it
      pub turned_turn : ((j l : Line) → bad j l 0 ≡ bad (line text (k + 0)) l 0) → (y : Line) → p ≡ Some y → (b : Bool) → b ≡ bad last y i → (r : Option ℕ)
          → r ≡ first_found found (if b then Some (1 + k + i) else None) → (u v : List ℕ) → u ≡ (if b then t else v)
          → (y ≡ line text (1 + k + i) → rest (i + 1) v ≡ rest i t) → Turned (i + 1) u y r
      turned_turn first y e b f r g u v q turn = record {
        ill = part_pass (bad_line text) (1 + k) n i h (line_good text (1 + k + i) p is y e) w.ill;
        before = λ _. l ∙ ap (line text) next;
        fault = fault_turn bad_at (1 + k) i found r b w.fault (f ∙ rw l same) g;
        order = λ z. let o = fault_none found r b (1 + k + i) g z in let x : u ≡ v = q ∙ rw o.1 in ap (rest (i + 1)) x ∙ turn l ∙ w.order o.0;
      }
        where
          l : y ≡ line text (1 + k + i)
          l = (parsed_some text (1 + k + i) p is y e).1

          next : 1 + k + i ≡ k + (i + 1)
          next = omega arith

          same : bad last (line text (1 + k + i)) i ≡ bad (line text (k + i)) (line text (1 + k + i)) i
          same = dite (ℕ_discrete i 0) (λ (z : i ≡ 0). rw z (first last (line text (1 + k + 0)))) (λ (z : i ≢ 0). rw (w.before (omega arith)))

    pub turned_end : i ≡ n → rest i t ≡ t → KindRead text k n bad_at (rest 0 s) t (record { ill = None; fault = found })
    turned_end e last = record {
      ill = part_end (bad_line text) (1 + k) n i (omega arith) w.ill;
      fault = λ z. w.fault ∙ rw e;
      order = λ z f. sym last ∙ w.order f;
    }

-- ---- the choice lines

-- the table with the n choices of f from choice i on put in
abbrev pub left : (ℕ → Choice) → ℕ → ℕ → List ℕ → List ℕ
left f n i t = picks_put (table_from f i (n - i)) i t

module _ (f : ℕ → Choice) (n : ℕ) where
  pub left_all : (s : List ℕ) → left f n 0 s ≡ picks_put (table f n) 0 s
  left_all s = let e : n - 0 ≡ n = omega arith in rw e

  pub left_turn : (i : ℕ) (t : List ℕ) → i < n → left f n (i + 1) (pick_put t i (f i).move (f i).element) ≡ left f n i t
  unfolding picks_put table_from
  left_turn i t h =
      let e : n - i ≡ suc (n - (i + 1)) = omega arith in
      ap (λ (j : ℕ). picks_put (table_from f j (n - (i + 1))) j (pick_put t i (f i).move (f i).element)) (add-one i) ∙ rw e

  pub left_end : (i : ℕ) (t : List ℕ) → n ≤ i → left f n i t ≡ t
  unfolding picks_put table_from
  left_end i t h = let e : n - i ≡ 0 = omega arith in rw e
