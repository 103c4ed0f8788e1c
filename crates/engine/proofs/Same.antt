-- One move on two contents that agree: where both hold each label that is released at the same locations, it has the same updates; where they also agree on
-- what is written, it has the same reads.
use Rattle.std.specs.Prelude.{if◌then◌else◌}
use mathlib.Core.Path.{◌≡◌, refl, sym, ap, subst, ◌∙◌}
use mathlib.Core.Logic.{◌↔◌}
use mathlib.Core.Bool.{Bool, true, false, or-true, and-false}
use mathlib.Core.List.{List, [], ◌∷◌, ◌++◌}
use Prim.Native.Nat.{ℕ, ◌+◌}
use lib.Dec.{eqb, leb}
use borrow.Author.Tests.{eqb-true, eqb-false, eq-eqb, ne_eqb}
use Rattle.text.specs.Words.{has}
use Rattle.text.proofs.Words.{table_ext}
use Rattle.book.specs.Book.{Program, L}
use Rattle.book.specs.Sound.{at}
use Rattle.engine.specs.declared.Instruction.{Instruction}
use Rattle.engine.specs.declared.Instruction.TheVariants.{Update, Release}
use Rattle.engine.specs.Move.{given, values, updates, values_at, released, new_value, writes, release_gives, release_reads, taken_reads, changed_reads, extra_reads, Input, Fired, fires, walk_reads, fired_of, fire_or_clash, settle, move}
use Rattle.engine.specs.Claims.{SameStatic, SameHolders}
use Rattle.engine.proofs.EqualReads.{same_instructions}
use Rattle.engine.proofs.Append.{append_same}
use Rattle.engine.proofs.Moves.{firing, fired_reads}

module _ (B : Program) (c d : List ℕ) where
  holds_same : (x l : ℕ) → (at c l ≡ x) ↔ (at d l ≡ x) → eqb (at c l) x ≡ eqb (at d l) x
  holds_same x l h = go (eqb (at c l) x) refl
    where
      go : (b : Bool) → eqb (at c l) x ≡ b → b ≡ eqb (at d l) x
      go true e = sym (eq-eqb (at d l) x (h.0 (eqb-true (at c l) x e)))
      go false e = sym (ne_eqb (at d l) x (λ q. eqb-false (at c l) x e (h.1 q)))

  given_same : (l x : ℕ) → (at c l ≡ x) ↔ (at d l ≡ x) → given B c l (Release x) ≡ given B d l (Release x)
  unfolding given
  given_same l x h = rw (holds_same x l h)

  values_same : (l : ℕ) (is : List Instruction) → SameHolders c d (released is) → values B c l is ≡ values B d l is
  unfolding values released given
  values_same l [] h = refl
  values_same l (Update k v ∷ is) h = ap (λ (ws : List ℕ). (if eqb k l then v ∷ [] else []) ++ ws) (values_same l is h)
  values_same l (Release x ∷ is) h =
      rw (given_same l x (h x l (rw (eq-eqb x x refl))), values_same l is (λ y k m. h y k (rw m (or-true (eqb x y)))))

  pub updates_same : (is : List Instruction) → SameHolders c d (released is) → updates B c is ≡ updates B d is
  unfolding updates
  updates_same is h = table_ext (λ l. values B c l is) (λ l. values B d l is) (L B) (λ l b. values_same l is h)

  gives_same : (l : ℕ) (xs : List ℕ) → SameHolders c d xs → release_gives B c xs l ≡ release_gives B d xs l
  unfolding release_gives
  gives_same l [] h = refl
  gives_same l (x ∷ xs) h =
      rw (given_same l x (h x l (rw (eq-eqb x x refl))), gives_same l xs (λ y k m. h y k (rw m (or-true (eqb x y)))))

  -- both contents are equal at each location that the updates write
  abbrev Written : List (List ℕ) → Type 0
  Written us = (l : ℕ) → writes us l ≡ true → at c l ≡ at d l

  changed_same : (us : List (List ℕ)) (l : ℕ) → Written us → changed_reads B c us l ≡ changed_reads B d us l
  changed_same us l h = go (values_at us l) refl
    where
      -- a location that keeps its value takes no label out
      untaken : (v : ℕ) → taken_reads B.P v v ≡ []
      untaken v = rw (eq-eqb v v refl, and-false (leb B.P v))

      go : (ws : List ℕ) → values_at us l ≡ ws → taken_reads B.P (at c l) (new_value (at c l) ws) ≡ taken_reads B.P (at d l) (new_value (at d l) ws)
      go [] e = untaken (at c l) ∙ sym (untaken (at d l))
      go (w ∷ ws) e = rw (h l (rw e))

  extra_same : (is : List Instruction) (us : List (List ℕ)) → SameHolders c d (released is) → Written us → extra_reads B c is us ≡ extra_reads B d is us
  unfolding extra_reads
  extra_same is us h k =
      rw (
        append_same (release_reads B c (released is)) (release_reads B d (released is)) 0 0 (L B) (λ l m. rw (gives_same (0 + l) (released is) h)),
        append_same (changed_reads B c us) (changed_reads B d us) 0 0 (L B) (λ l m. changed_same us (0 + l) k),
      )

module _ (B : Program) (c d : List ℕ) (i : Input) (t : SameStatic B c d) (f : Fired) (moves : move B c i ≡ fires f)
    (agree : (l : ℕ) → has f.reads l ≡ true → at c l ≡ at d l) where
  made_same : SameHolders c d (released f.instructions) → updates B d f.instructions ≡ f.updates
  made_same h =
      sym (updates_same B c d f.instructions h)
      ∙ subst (λ (k : Fired). updates B c k.instructions ≡ k.updates) (firing B c i f moves).gave refl

  whole : Written B c d f.updates → SameHolders c d (released f.instructions) → fired_of B d (walk_reads B c i) f.instructions ≡ f
  whole k h =
      rw (made_same h, ← (extra_same B c d f.instructions f.updates h k))
      (subst (λ (g : Fired). record { instructions = g.instructions; updates = g.updates; reads = walk_reads B c i ++ extra_reads B c g.instructions g.updates } ≡ g) (firing B c i f moves).gave refl)

  pub same_fired : Written B c d f.updates → SameHolders c d (released f.instructions) → move B d i ≡ fires f
  unfolding move settle fire_or_clash
  same_fired k h =
      let s = firing B c i f moves in
      let r = same_instructions B c d i t s.walk s.went (λ l h. agree l (rw (fired_reads B c i f moves) at h)) in
      let o : s.walk.made ≡ f.instructions = ap (λ (g : Fired). g.instructions) s.gave in
      rw (r.0, r.1, o) (ap fire_or_clash (whole k h) ∙ rw s.no_clash)
