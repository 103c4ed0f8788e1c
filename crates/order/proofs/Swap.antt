-- The engine's moves have the laws that freedom of order needs. The swap comes from equal reads, and from where labels that are released are held: moves that
-- do not touch leave that as it is.
use mathlib.Core.Path.{◌≡◌, refl, sym, ◌∙◌}
use mathlib.Core.Logic.{◌↔◌, inl, inr, dite, ◌≢◌}
use mathlib.Core.Bool.{Bool, true, false, true≢false, false≢true}
use mathlib.Core.List.{List, [], ◌∷◌}
use mathlib.Core.Option.{some}
use Prim.Native.Nat.{ℕ, ◌≤◌, ◌<◌}
use native.Mathlib.Omega.{arith}
use native.Mathlib.Decide.{ℕ_discrete}
use lib.Seq.{ext_get_or}
use Rattle.text.specs.Words.{has}
use Rattle.book.specs.Book.{Program, L, true_element, dynamic_at}
use Rattle.book.specs.Sound.{Lawful, OnRoll, Sound, at}
use Rattle.engine.specs.Move.{Fired, Moved, fires, move_refused, move, fire, released, values_at, new_value, writes, is_some}
use Rattle.engine.specs.Claims.{SameHolders}
use Rattle.engine.proofs.Moves.{fired_frame, fired_static, fired_keep, held_inside, fired_label, fired_returns, fired_clears, fired_takes}
use Rattle.engine.proofs.Same.{same_fired}
use Rattle.text.proofs.Words.{refuted}
use Rattle.order.specs.Log.{Log, move_at}
use Rattle.order.specs.Orders.{Moves, Laws, value_after, Touch}
use Rattle.order.specs.Demand.{act_of, value_given, moves_of}

-- ---- acts

pub act_fires : (o : Moved) (f : Fired) → act_of o ≡ some f → o ≡ fires f
act_fires (fires e) f q = cc
act_fires (move_refused n p) f q = let z : ◌≡◌ {A = ℕ} 0 1 = cc in absurd (omega arith)

some_value : (vs : List ℕ) → (is_some vs ≡ true) ↔ ((v : ℕ) × (value_given vs ≡ some v))
some_value [] = (λ e. absurd (false≢true e), λ w. let z : ◌≡◌ {A = ℕ} 0 1 = cc w.1 in absurd (omega arith))
some_value (v ∷ vs) = (λ e. (v, refl), λ w. refl)

-- updates write where they give a value
pub writes_value : (us : List (List ℕ)) (l : ℕ) → (writes us l ≡ true) ↔ ((v : ℕ) × (value_given (values_at us l) ≡ some v))
writes_value us l = some_value (values_at us l)

put_new : (vs : List ℕ) (v : ℕ) → new_value v vs ≡ value_after (value_given vs) v
put_new [] v = refl
put_new (w ∷ vs) v = refl

new_none : (vs : List ℕ) (v : ℕ) → is_some vs ≡ false → new_value v vs ≡ v
new_none [] v e = refl
new_none (w ∷ vs) v e = absurd (true≢false e)

-- ---- the laws

module _ (B : Program) (lawful : Lawful B) (g : Log) where
  abbrev S : Moves
  S = moves_of B g

  fired_act : (i : ℕ) (c : List ℕ) (a : Fired) → S.does i c ≡ some a → move B c (move_at g i) ≡ fires a
  fired_act i c a e = act_fires (move B c (move_at g i)) a e

  -- a location that a move does not write keeps its value
  kept : (i : ℕ) (c : List ℕ) (a : Fired) → Sound B c → S.does i c ≡ some a → (l : ℕ) → ¬ (writes a.updates l ≡ true) → at (fire a.updates c) l ≡ at c l
  kept i c a s e l n =
      fired_frame B lawful c s (move_at g i) a (fired_act i c a e) l
      ∙ new_none (values_at a.updates l) (at c l) (refuted (writes a.updates l) n)

  static : (i : ℕ) (c : List ℕ) (a : Fired) → Sound B c → S.does i c ≡ some a → (l : ℕ) → dynamic_at B l ≡ false → ¬ (writes a.updates l ≡ true)
  static i c a s e l h w = true≢false (sym w ∙ fired_static B lawful c s (move_at g i) a (fired_act i c a e) l h)

  -- a move that fires does the same where what it reads, what it writes and the static functions are equal, and what it releases is held alike
  same : (i : ℕ) (c d : List ℕ) (a : Fired) → Sound B c → Sound B d → S.does i c ≡ some a
      → ((l : ℕ) → has a.reads l ≡ true → at c l ≡ at d l) → ((l : ℕ) → writes a.updates l ≡ true → at c l ≡ at d l)
      → ((l : ℕ) → dynamic_at B l ≡ false → at c l ≡ at d l) → SameHolders c d (released a.instructions) → S.does i d ≡ some a
  same i c d a sc sd e r w t h =
      rw (same_fired B c d (move_at g i) (record { long = sc.long; as_long = sd.long; static = λ l b. t l }) a (fired_act i c a e) r w h)

  -- a move that takes a label out of a location touches whatever releases the label
  pub touching : (i j : ℕ) (c d : List ℕ) (a b : Fired) → Sound B c → Sound B d → S.does i c ≡ some a → S.does j d ≡ some b
      → (x l : ℕ) → has (released b.instructions) x ≡ true → at c l ≡ x → at (fire a.updates c) l ≢ x → Touch S a b
  touching i j c d a b sc sd da db x l h e n =
      let ma = fired_act i c a da in
      let mb = fired_act j d b db in
      let p : B.P ≤ at c l = omega (arith, e, (fired_label B lawful d sd (move_at g j) b mb x h).0) in
      let r = fired_takes B lawful c sc (move_at g i) a ma l p (λ z. n (z ∙ e)) in
      (x, inr ((writes_value b.updates x).0 (fired_returns B lawful d sd (move_at g j) b mb x h).0, inl (rw e at r)))

  -- ---- two moves that do not touch

  module _ (i j : ℕ) (c : List ℕ) (a b : Fired) (s : Sound B c) (da : S.does i c ≡ some a) (db : S.does j (fire a.updates c) ≡ some b) (n : ¬ Touch S a b) where
    ma : move B c (move_at g i) ≡ fires a
    ma = fired_act i c a da

    mb : move B (fire a.updates c) (move_at g j) ≡ fires b
    mb = fired_act j (fire a.updates c) b db

    sa : Sound B (fire a.updates c)
    sa = fired_keep B lawful c s (move_at g i) a ma

    w : (f : Fired) (l : ℕ) → writes f.updates l ≡ true → (v : ℕ) × (value_given (values_at f.updates l) ≡ some v)
    w f l = (writes_value f.updates l).0

    -- no location is written by both moves
    not_both : (l : ℕ) → writes a.updates l ≡ true → writes b.updates l ≡ true → ⊥
    not_both l x y = n (l, inl (w a l x, inr (w b l y)))

    not_first : (l : ℕ) → writes a.updates l ≡ true → has b.reads l ≡ true → ⊥
    not_first l x y = n (l, inl (w a l x, inl y))

    not_second : (l : ℕ) → writes b.updates l ≡ true → has a.reads l ≡ true → ⊥
    not_second l x y = n (l, inr (w b l x, inl y))

    -- A label that the second move releases is held at the same locations before and after the first: the second writes each that holds it afterwards, so the
    -- first does not; and to take it out of one, the first would read Reserve at it, which the second writes.
    back : SameHolders (fire a.updates c) c (released b.instructions)
    back x l h = (
      λ e. sym (kept i c a s da l (λ o. not_both l o (fired_clears B lawful (fire a.updates c) sa (move_at g j) b mb x l h e))) ∙ e,
      λ e. dite (ℕ_discrete (at (fire a.updates c) l) x) (λ q. q)
          (λ (q : ¬ (at (fire a.updates c) l ≡ x)). absurd (n (touching i j c (fire a.updates c) a b s sa da db x l h e q))),
    )

    -- the second move does the same before the first
    first : S.does j c ≡ some b
    first =
        let k = kept i c a s da in
        same j (fire a.updates c) c b sa s db
        (λ l r. k l (λ o. not_first l o r))
        (λ l y. k l (λ o. not_both l o y))
        (λ l h. k l (static i c a s da l h))
        back

    sb : Sound B (fire b.updates c)
    sb = fired_keep B lawful c s (move_at g j) b (fired_act j c b first)

    -- A label that the first move releases is held at the same locations before and after the second: the first writes each that holds it before, so the second
    -- does not; and one that the second sets to it would hold it after both, where it is on the roll.
    beside : SameHolders c (fire b.updates c) (released a.instructions)
    beside x l h = (
      λ e. kept j c b s first l (λ o. not_both l (fired_clears B lawful c s (move_at g i) a ma x l h e) o) ∙ e,
      λ e. go e (writes b.updates l) refl,
    )
      where
        r : (writes a.updates x ≡ true) × (at (fire a.updates c) x ≡ true_element)
        r = fired_returns B lawful c s (move_at g i) a ma x h

        x_label : (B.P ≤ x) × (x < B.E)
        x_label = fired_label B lawful c s (move_at g i) a ma x h

        sab : Sound B (fire b.updates (fire a.updates c))
        sab = fired_keep B lawful (fire a.updates c) sa (move_at g j) b mb

        free : OnRoll B (fire b.updates (fire a.updates c)) x
        free = (x_label.1, kept j (fire a.updates c) b sa db x (λ o. not_both x r.0 o) ∙ r.1)

        -- what the second move sets is the same in both orders
        set_alike : (ws : List ℕ) (u v : ℕ) → is_some ws ≡ true → new_value u ws ≡ new_value v ws
        set_alike [] u v q = absurd (false≢true q)
        set_alike (y ∷ ws) u v q = refl

        go : at (fire b.updates c) l ≡ x → (o : Bool) → writes b.updates l ≡ o → at c l ≡ x
        go e false q = sym (kept j c b s first l (λ z. false≢true (sym q ∙ z))) ∙ e
        go e true q =
            let same_there : at (fire b.updates (fire a.updates c)) l ≡ x =
            fired_frame B lawful (fire a.updates c) sa (move_at g j) b mb l
            ∙ (set_alike (values_at b.updates l) (at (fire a.updates c) l) (at c l) q
            ∙ (sym (fired_frame B lawful c s (move_at g j) b (fired_act j c b first) l) ∙ e)) in
            let b_in : l < L B = held_inside B lawful (fire b.updates c) sb l (omega (arith, e, x_label.0)) in
            absurd (sab.values x l free b_in same_there)

    -- the first move does the same after the second
    second : S.does i (fire b.updates c) ≡ some a
    second =
        let k = kept j c b s first in
        same i c (fire b.updates c) a s sb da
        (λ l r. sym (k l (λ o. not_second l o r)))
        (λ l y. sym (k l (λ o. not_both l y o)))
        (λ l h. sym (k l (static j c b s first l h)))
        beside

  swap : (i j : ℕ) (c : List ℕ) (a b : Fired) → Sound B c → S.does i c ≡ some a → S.does j (fire a.updates c) ≡ some b → ¬ Touch S a b
      → (S.does j c ≡ some b) × (S.does i (fire b.updates c) ≡ some a)
  swap i j c a b s da db n = (first i j c a b s da db n, second i j c a b s da db n)

  pub laws : Laws S
  laws = record {
    frame = λ i c a l s e. fired_frame B lawful c s (move_at g i) a (fired_act i c a e) l ∙ put_new (values_at a.updates l) (at c l);
    keep = λ i c a s e. fired_keep B lawful c s (move_at g i) a (fired_act i c a e);
    swap = swap;
    ext = λ c d sc sd e. ext_get_or 0 c d (sc.long ∙ sym sd.long) (λ l h. e l);
  }
