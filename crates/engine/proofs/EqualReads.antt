-- Equal reads (SPECIFICATION 5.7): two contents with equal static functions that agree on what a move reads in one of them give it the same instructions
-- if it meets none of refusals 11 to 14, 18 and 19 there, and otherwise the same refusal if they agree on Reserve throughout.
use Rattle.std.specs.Prelude.{Option, None, Some}
use Rattle.std.specs.Prelude.{if◌then◌else◌}
use mathlib.Core.Path.{◌≡◌, refl, sym, ap, ◌∙◌}
use mathlib.Core.Logic.{dite}
use mathlib.Core.Bool.{Bool, true, false, ◌||◌, or-true}
use mathlib.Core.List.{List, [], ◌∷◌}
use Prim.Native.Nat.{ℕ, ◌≤◌, ◌<◌}
use native.Mathlib.Omega.{arith}
use native.Mathlib.Decide.{dec_lt}
use lib.Dec.{eqb}
use lib.ListN.{length, get_or-eq_default}
use borrow.Author.Tests.{eqb-true, eq-eqb}
use Rattle.text.specs.Words.{has, least}
use Rattle.book.specs.Book.{Program, L, dynamic_at}
use Rattle.book.specs.Sound.{at}
use Rattle.engine.specs.Reader.{locations_read}
use Rattle.engine.specs.Rule.{Walk, Walked, walking, refused_at, agent_walk}
use Rattle.engine.specs.Claims.{SameStatic}
use Rattle.engine.specs.Move.{Input, Fired, fires, unless_clash, clashes, walked, walk_reads, fired_of, fire_or_clash, settle, move, reads_of, reads, dynamic_among, extra_reads}
use Rattle.engine.proofs.Reader.{Agree, local, reads_local}
use Rattle.text.proofs.Words.{has_append}

-- contents with equal static functions agree on every static location; past the last location both have 0
static_agree : {B : Program} {c d : List ℕ} → SameStatic B c d → (l : ℕ) → dynamic_at B l ≡ false → at c l ≡ at d l
static_agree {B} {c} {d} s l e = dite (dec_lt l (L B)) (λ h. s.static l h e)
    (λ (h : ¬ (l < L B)). get_or-eq_default c 0 {n = l} (omega (arith, s.long)) ∙ sym (get_or-eq_default d 0 {n = l} (omega (arith, s.as_long))))

-- a dynamic location of a list is one of its dynamic locations
has_dynamic : (B : Program) (ls : List ℕ) (l : ℕ) → has ls l ≡ true → dynamic_at B l ≡ true → has (dynamic_among B ls) l ≡ true
unfolding dynamic_among
has_dynamic B [] l h e = h
has_dynamic B (k ∷ ls) l h e = go (eqb k l) refl h (has_dynamic B ls l)
  where
    keep : (b : Bool) → has (dynamic_among B ls) l ≡ true → has (if b then k ∷ dynamic_among B ls else dynamic_among B ls) l ≡ true
    keep true r = rw r (or-true (eqb k l))
    keep false r = r

    go : (b : Bool) → eqb k l ≡ b → (b || has ls l) ≡ true → (has ls l ≡ true → dynamic_at B l ≡ true → has (dynamic_among B ls) l ≡ true)
        → has (if dynamic_at B k then k ∷ dynamic_among B ls else dynamic_among B ls) l ≡ true
    go true q h r = rw (eqb-true k l q, e, eq-eqb l l refl)
    go false q h r = keep (dynamic_at B k) (r h e)

-- what the walk reads is read by the move, whether it fires or is refused
looked_read : (B : Program) (c : List ℕ) (i : Input) (l : ℕ) → has (walk_reads B c i) l ≡ true → has (reads B c i) l ≡ true
unfolding reads move settle fire_or_clash
looked_read B c i l h = go (walked B c i)
  where
    judge : (o : Option ℕ) (f : Fired) → has f.reads l ≡ true → has (reads_of (walk_reads B c i) (unless_clash o (fires f))) l ≡ true
    judge None f m = m
    judge (Some k) f m = h

    go : (w : Walked) → has (reads_of (walk_reads B c i) (settle B c (walk_reads B c i) w)) l ≡ true
    go (refused_at n q) = h
    go (walking w) =
        let f = fired_of B c (walk_reads B c i) w.made in
        judge (least (clashes f.instructions f.updates) (length f.updates)) f (rw (has_append (walk_reads B c i) (extra_reads B c w.made f.updates) l, h))

-- if the walk meets none of refusals 11 to 14, 18 and 19 in c, it gives the same instructions in d and reads the same
pub same_instructions : (B : Program) (c d : List ℕ) (i : Input) → SameStatic B c d → (w : Walk) → walked B c i ≡ walking w
    → ((l : ℕ) → has (reads B c i) l ≡ true → at c l ≡ at d l) → (walked B d i ≡ walking w) × (walk_reads B d i ≡ walk_reads B c i)
same_instructions B c d i s w e h =
    (sym (local c d (agent_walk B i.agent i.picks) agree) ∙ e, ap (dynamic_among B) (sym (reads_local c d (agent_walk B i.agent i.picks) agree)))
  where
    by : (l : ℕ) → has (locations_read c (agent_walk B i.agent i.picks)) l ≡ true → (b : Bool) → dynamic_at B l ≡ b → at c l ≡ at d l
    by l m false q = static_agree s l q
    by l m true q = h l (looked_read B c i l (has_dynamic B (locations_read c (agent_walk B i.agent i.picks)) l m q))

    agree : Agree c d (locations_read c (agent_walk B i.agent i.picks))
    agree l m = by l m (dynamic_at B l) refl

-- If the walk meets a refusal in c, it meets the same in d, if Reserve, which is function 0, is the same throughout. The walk reads Reserve for refusals 12 and
-- 13 too, so of what it reads the contents need only agree past Reserve.
pub same_refusal : (B : Program) (c d : List ℕ) (i : Input) → SameStatic B c d → (n q : ℕ) → walked B c i ≡ refused_at n q
    → ((l : ℕ) → B.E ≤ l → has (reads B c i) l ≡ true → at c l ≡ at d l) → ((x : ℕ) → x < B.E → at c x ≡ at d x) → walked B d i ≡ refused_at n q
same_refusal B c d i s n q e h r = sym (local c d (agent_walk B i.agent i.picks) (λ l m. by l m (dynamic_at B l) refl)) ∙ e
  where
    by : (l : ℕ) → has (locations_read c (agent_walk B i.agent i.picks)) l ≡ true → (b : Bool) → dynamic_at B l ≡ b → at c l ≡ at d l
    by l m false p = static_agree s l p
    by l m true p = dite (dec_lt l B.E) (r l)
        (λ (z : ¬ (l < B.E)). h l (omega arith) (looked_read B c i l (has_dynamic B (locations_read c (agent_walk B i.agent i.picks)) l m p)))
