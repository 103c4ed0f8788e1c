-- Laws of the steps that give an instruction, take a pick or are refused.
use Rattle.text.specs.declared.Reason.{Reason}
use Rattle.text.specs.Refusals.{refusal_number}
use Rattle.std.specs.Prelude.{if◌then◌else◌}
use mathlib.Core.Path.{◌≡◌, refl}
use mathlib.Core.Logic.{◌≢◌}
use mathlib.Core.Bool.{Bool, true, false, ◌&&◌, not}
use mathlib.Core.List.{List, [], ◌∷◌, map-append}
use Prim.Native.Nat.{ℕ, zero, suc, ◌+◌, ◌≤◌, ◌<◌}
use native.Mathlib.Numerals.{add-one}
use native.Mathlib.Omega.{arith}
use lib.Dec.{eqb}
use lib.ListN.{length, get_or, set, drop, length-map, length-take}
use lib.Seq.{take-suc-set}
use borrow.Author.Tests.{eq-eqb, ne_eqb, lt-ltb, le-ltb}
use Rattle.text.specs.Refusals.{non_boolean, not_releasable, no_label_left, list_full, not_in_universe, pick_count}
use Rattle.book.specs.Book.{true_element, false_element, boolean, relation, Program, function_at, reserve}
use Rattle.engine.specs.declared.Instruction.{Instruction}
use Rattle.engine.specs.declared.Instruction.TheVariants.{Update, Release}
use Rattle.engine.specs.Rule.{Walked, walking, refused_at, ◌then◌, most_instructions, emit, unreleasable, all_taken}
use Rattle.engine_instruction.specs.Code.{decode_of, items}
use Rattle.engine_emit.specs.declared.Progress.{Progress}
use Rattle.engine_emit.specs.Emit.{walk_from, reached, refused_by, setting, releasing, importing, importing_found, next_pick, picking}

pub reached_walking : (ys : List ℕ) (s : Progress Reason) (l : List ℕ) → (refusal_number s.refused) ≡ 0 → reached ys s l ≡ walking (walk_from ys s l)
unfolding reached
reached_walking ys s l e = rw (eq-eqb (refusal_number s.refused) 0 e)

pub reached_refused : (ys : List ℕ) (s : Progress Reason) (l : List ℕ) → (((refusal_number s.refused) ≡ 0) → ⊥) → reached ys s l ≡ refused_at (refusal_number s.refused) s.node
unfolding reached
reached_refused ys s l e = rw (ne_eqb (refusal_number s.refused) 0 e)

-- one instruction more, or refusal 14
module _ {R : Type 0} (ys : List ℕ) (s : Progress R) (l : List ℕ) (i : Instruction) (n : ℕ) (long : length l ≡ most_instructions) where
  pub give_room : (v : ℕ) → s.len < 256 → decode_of v ≡ i
      → walking (record { made = items (set l s.len v) (s.len + 1); next = s.label; left = ys }) ≡ emit n i (walk_from ys s l)
  give_room v h e =
      let j : s.len < length l = omega arith in
      let k : length (items l s.len) < 256 = rw (length-map, length-take) (omega arith) in
      rw (lt-ltb (length (items l s.len)) 256 k, add-one, take-suc-set l s.len v j, map-append, e)

  pub give_full : 256 ≤ s.len → refused_at list_full n ≡ emit n i (walk_from ys s l)
  give_full h =
      let k : 256 ≤ length (items l s.len) = rw (length-map, length-take) (omega arith) in
      rw (le-ltb (length (items l s.len)) 256 k)

-- a set gives one instruction more, or refusal 11
module _ (B : Program) (f l v n : ℕ) where
  pub setting_ok : (relation (function_at B f) && not (boolean v)) ≡ false → (o : Walked) → (o then setting B f l v n) ≡ (o then emit n (Update l v))
  setting_ok e (walking w) = rw e
  setting_ok e (refused_at r q) = refl

  pub setting_bad : (relation (function_at B f) && not (boolean v)) ≡ true → (o : Walked) → (o then setting B f l v n) ≡ (o then refused_by non_boolean n)
  setting_bad e (walking w) = rw e
  setting_bad e (refused_at r q) = refl

-- a release gives one instruction more, or refusal 12
module _ (B : Program) (x r n : ℕ) where
  pub freeing_ok : unreleasable B x r ≡ false → (o : Walked) → (o then releasing B x r n) ≡ (o then emit n (Release x))
  freeing_ok e (walking w) = rw e
  freeing_ok e (refused_at a q) = refl

  pub freeing_bad : unreleasable B x r ≡ true → (o : Walked) → (o then releasing B x r n) ≡ (o then refused_by not_releasable n)
  freeing_bad e (walking w) = rw e
  freeing_bad e (refused_at a q) = refl

-- ---- an import's label

-- with label x taken, the two updates of an import, unless there is a refusal already
pub taking_from : (at x n : ℕ) (ys : List ℕ) (s : Progress Reason) (l : List ℕ)
    → (reached ys (record { len = s.len; label = x + 1; refused = s.refused; node = s.node }) l then emit n (Update (reserve x) false_element) then emit n (Update at true_element))
    ≡ (reached ys s l then importing at x n)
unfolding reached
taking_from at x n ys s l = rw (add-one x) (go (eqb (refusal_number s.refused) 0))
  where
    go : (b : Bool) → ((if b then walking (record { made = items l s.len; next = suc x; left = ys }) else refused_at (refusal_number s.refused) s.node) then emit n (Update (reserve x) false_element) then emit n (Update at true_element))
        ≡ ((if b then walking (walk_from ys s l) else refused_at (refusal_number s.refused) s.node) then importing at x n)
    go true = refl
    go false = refl

module _ (E at x n : ℕ) where
  pub enrolling_in : x < E → (o : Walked) → (o then importing_found E at x n) ≡ (o then importing at x n)
  enrolling_in h (walking w) = rw (lt-ltb x E h)
  enrolling_in h (refused_at r q) = refl

  pub enrolling_none : E ≤ x → (o : Walked) → (o then importing_found E at x n) ≡ (o then refused_by no_label_left n)
  enrolling_none h (walking w) = rw (le-ltb x E h)
  enrolling_none h (refused_at r q) = refl

-- ---- picks

-- a list from place i on is its element there and the rest
drop_at : (ys : List ℕ) (i : ℕ) → i < length ys → drop i ys ≡ get_or ys i 0 ∷ drop (suc i) ys
drop_at [] i h = absurd (omega arith)
drop_at (y ∷ ys) zero h = refl
drop_at (y ∷ ys) (suc i) h = drop_at ys i (omega arith)

drop_past : (ys : List ℕ) (i : ℕ) → length ys ≤ i → drop i ys ≡ []
drop_past [] zero h = refl
drop_past [] (suc i) h = refl
drop_past (y ∷ ys) zero h = absurd (omega arith)
drop_past (y ∷ ys) (suc i) h = drop_past ys i (omega arith)

-- what the code finds as the pick that is next
module _ (E : ℕ) (ys : List ℕ) (i : ℕ) where
  pub next_low : i < length ys → get_or ys i 0 < E → next_pick E (drop i ys) ≡ get_or ys i 0
  next_low h l = rw (drop_at ys i h, lt-ltb (get_or ys i 0) E l)

  pub next_high : i < length ys → E ≤ get_or ys i 0 → next_pick E (drop i ys) ≡ E
  next_high h l = rw (drop_at ys i h, le-ltb (get_or ys i 0) E l)

  pub next_none : length ys ≤ i → next_pick E (drop i ys) ≡ E
  next_none h = rw (drop_past ys i h)

-- Kind 28, a choose, by the picks that are left
module _ (s : Progress Reason) (l : List ℕ) (ys : List ℕ) (i v n : ℕ) where
  pub picking_none : length ys ≤ i → (reached (drop i ys) s l then refused_by pick_count n) ≡ (reached (drop i ys) s l then picking v n)
  unfolding reached
  picking_none h = rw (drop_past ys i h) (go (eqb (refusal_number s.refused) 0))
    where
      go : (b : Bool) → ((if b then walking (walk_from [] s l) else refused_at (refusal_number s.refused) s.node) then refused_by pick_count n)
          ≡ ((if b then walking (walk_from [] s l) else refused_at (refusal_number s.refused) s.node) then picking v n)
      go true = refl
      go false = refl

  pub picking_some : i < length ys → v ≡ true_element → reached (drop (suc i) ys) s l ≡ (reached (drop i ys) s l then picking v n)
  unfolding reached
  picking_some h e = rw (drop_at ys i h, e) (go (eqb (refusal_number s.refused) 0))
    where
      go : (b : Bool) → (if b then walking (walk_from (drop (suc i) ys) s l) else refused_at (refusal_number s.refused) s.node)
          ≡ ((if b then walking (walk_from (get_or ys i 0 ∷ drop (suc i) ys) s l) else refused_at (refusal_number s.refused) s.node) then picking true_element n)
      go true = refl
      go false = refl

  pub picking_other : i < length ys → v ≢ true_element → (reached (drop i ys) s l then refused_by not_in_universe n) ≡ (reached (drop i ys) s l then picking v n)
  unfolding reached
  picking_other h e = rw (drop_at ys i h) (go (eqb (refusal_number s.refused) 0))
    where
      go : (b : Bool) → ((if b then walking (walk_from (get_or ys i 0 ∷ drop (suc i) ys) s l) else refused_at (refusal_number s.refused) s.node) then refused_by not_in_universe n)
          ≡ ((if b then walking (walk_from (get_or ys i 0 ∷ drop (suc i) ys) s l) else refused_at (refusal_number s.refused) s.node) then picking v n)
      go true = rw (ne_eqb v true_element e)
      go false = refl

-- at the end all picks are used, or one is left: refusal 19
module _ (s : Progress Reason) (l : List ℕ) (ys : List ℕ) (i q : ℕ) where
  pub taken_all : length ys ≤ i → reached [] s l ≡ (reached (drop i ys) s l then λ w. all_taken q w.left w)
  unfolding reached
  taken_all h = rw (drop_past ys i h) (go (eqb (refusal_number s.refused) 0))
    where
      go : (b : Bool) → (if b then walking (walk_from [] s l) else refused_at (refusal_number s.refused) s.node)
          ≡ ((if b then walking (walk_from [] s l) else refused_at (refusal_number s.refused) s.node) then λ w. all_taken q w.left w)
      go true = refl
      go false = refl

  pub taken_some : i < length ys → (reached [] s l then refused_by pick_count q) ≡ (reached (drop i ys) s l then λ w. all_taken q w.left w)
  unfolding reached
  taken_some h = rw (drop_at ys i h) (go (eqb (refusal_number s.refused) 0))
    where
      go : (b : Bool) → ((if b then walking (walk_from [] s l) else refused_at (refusal_number s.refused) s.node) then refused_by pick_count q)
          ≡ ((if b then walking (walk_from (get_or ys i 0 ∷ drop (suc i) ys) s l) else refused_at (refusal_number s.refused) s.node) then λ w. all_taken q w.left w)
      go true = refl
      go false = refl
