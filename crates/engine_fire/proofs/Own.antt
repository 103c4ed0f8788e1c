-- A value that is put in its function's part is put in the whole table, and its mark likewise.
use Rattle.std.specs.Prelude.{if◌then◌else◌}
use mathlib.Core.Path.{◌≡◌, refl, sym, ap, ◌∙◌}
use mathlib.Core.Bool.{Bool, true, false, ◌&&◌}
use mathlib.Core.List.{List, ◌++◌}
use Prim.Native.Nat.{ℕ, ◌-◌, ◌<◌, ◌≤◌, min}
use native.Mathlib.Nat.{add-sub_of_le}
use native.Mathlib.Omega.{arith}
use borrow.Author.Tests.{ltb-true, ltb-false, leb-true, lt-ltb, le-ltb}
use lib.Dec.{ltb, leb}
use lib.ListN.{length, get_or, set, take, drop}
use lib.Seq.{get_or-take, get_or-drop, set-get_or}
use Rattle.book.specs.Book.{Program, L}
use Rattle.book_parts.specs.declared.Part.{Part}
use Rattle.book_parts.specs.Part.{put_in, part_of}
use Rattle.book_parts.proofs.Parts.{between_inside, between_after, part_starts, part_alike, part_numbered, part_past, put_back}
use Rattle.engine_fire.specs.Steps.{part_after}
use Rattle.engine_term.specs.Marks.{mark}

-- ---- the part held from one location to the next

module _ (B : Program) where
  -- p is the part of each of its locations
  abbrev pub Whole : Part → Type 0
  Whole p = (k : ℕ) → p.first ≤ k → k < p.end → part_of B k ≡ p

  pub next_held : (held : Part) (l : ℕ) → Whole held → part_after B held l ≡ part_of B l
  next_held held l w = go (leb held.first l) refl (ltb l held.end) refl
    where
      go : (s : Bool) → leb held.first l ≡ s → (t : Bool) → ltb l held.end ≡ t → (if s && t then held else part_of B l) ≡ part_of B l
      go true e true f = sym (w l (leb-true held.first l e) (ltb-true l held.end f))
      go true e false f = refl
      go false e t f = refl

  pub own_part : (l : ℕ) → Whole (part_of B l)
  own_part l k a b = part_alike B l k a b

  -- a location of the book is one of its part
  pub part_has : (l : ℕ) → ltb l (part_of B l).end ≡ ltb l (L B)
  part_has l = go (ltb l (L B)) refl
    where
      go : (b : Bool) → ltb l (L B) ≡ b → ltb l (part_of B l).end ≡ b
      go true e = lt-ltb l (part_of B l).end (part_numbered B l (ltb-true l (L B) e)).inside
      go false e = let h = ltb-false l (L B) e in rw (part_past B l h, le-ltb l (L B) h)

  pub part_min : (l n : ℕ) → ltb l (min (part_of B l).end n) ≡ ltb l (min (L B) n)
  part_min l n = ltb_min (part_of B l).end ∙ ap (λ (b : Bool). b && ltb l n) (part_has l) ∙ sym (ltb_min (L B))
    where
      ltb_min : (k : ℕ) → ltb l (min k n) ≡ ltb l k && ltb l n
      ltb_min k = go (ltb l k) refl (ltb l n) refl
        where
          go : (s : Bool) → ltb l k ≡ s → (t : Bool) → ltb l n ≡ t → ltb l (min k n) ≡ s && t
          go true e true f = lt-ltb l (min k n) (omega (arith, ltb-true l k e, ltb-true l n f))
          go true e false f = le-ltb l (min k n) (omega (arith, ltb-false l n f))
          go false e t f = le-ltb l (min k n) (omega (arith, ltb-false l k e))

  -- ---- what is put in the part of a location is put in the table

  pub put_value : (l v : ℕ) (c : List ℕ) → put_in (part_of B l).first (part_of B l).end l v c ≡ (if ltb l (L B) then set c l v else c)
  put_value l v c = go (ltb l (L B)) refl
    where
      go : (t : Bool) → ltb l (L B) ≡ t → put_in (part_of B l).first (part_of B l).end l v c ≡ (if t then set c l v else c)
      go true e = rw (between_inside (part_of B l).first (part_of B l).end l (part_starts B l).0 (part_numbered B l (ltb-true l (L B) e)).inside)
      go false e = let h = ltb-false l (L B) e in rw (part_past B l h, between_after (L B) (L B) l h)

  pub put_mark : (l bit n : ℕ) (ms : List ℕ)
      → put_in (part_of B l).first (part_of B l).end l (mark bit (ltb l n) (get_or ms l 0)) ms ≡ set ms l (mark bit (ltb l (min (L B) n)) (get_or ms l 0))
  put_mark l bit n ms = put_value l (mark bit (ltb l n) (get_or ms l 0)) ms ∙ go (ltb l (L B)) refl (ltb l n) refl
    where
      go : (t : Bool) → ltb l (L B) ≡ t → (u : Bool) → ltb l n ≡ u
          → (if t then set ms l (mark bit u (get_or ms l 0)) else ms) ≡ set ms l (mark bit (ltb l (min (L B) n)) (get_or ms l 0))
      go true e true f = rw (lt-ltb l (min (L B) n) (omega (arith, ltb-true l (L B) e, ltb-true l n f)))
      go true e false f = rw (le-ltb l (min (L B) n) (omega (arith, ltb-false l n f)))
      go false e u f = rw (le-ltb l (min (L B) n) (omega (arith, ltb-false l (L B) e))) (sym (set-get_or ms l 0))

-- ---- the part from `first` to `end`, as far as the table goes, is lent; one place of it is stored, and it is put back

module _ (first end at : ℕ) (c : List ℕ) (reached : first ≤ at) (e : ℕ) (e_is : e ≡ min end (length c)) where
  pub put_inside : (v : ℕ) → at < e → (ys : List ℕ) → ys ≡ set (take (e - first) (drop first c)) (at - first) v
      → take first c ++ (ys ++ drop (e - first) (drop first c)) ≡ put_in first end at v c
  put_inside v h ys q =
      put_back first end (at - first) v c (omega arith) first e (omega arith) e_is ys q ∙ ap (λ (l : ℕ). put_in first end l v c) (add-sub_of_le reached)

  -- what the part holds at the location is what the table holds
  pub held_inside : at < e → get_or (take (e - first) (drop first c)) (at - first) 0 ≡ get_or c at 0
  held_inside h =
      get_or-take (e - first) (drop first c) (at - first) 0 (omega arith) ∙ get_or-drop first c (at - first) 0
      ∙ ap (λ (z : ℕ). get_or c z 0) (add-sub_of_le reached)
