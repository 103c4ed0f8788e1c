-- A function's part of the contents table: the location numbers that it has, and what a store in it does to the whole table.
use Rattle.std.specs.Prelude.{if◌then◌else◌}
use mathlib.Core.Path.{◌≡◌, refl, sym, ap, ap₂, ◌∙◌}
use mathlib.Core.Bool.{Bool, true, false, and-false}
use mathlib.Core.List.{List, [], ◌∷◌, ◌++◌}
use Prim.Native.Nat.{ℕ, ◌+◌, ◌-◌, ◌<◌, ◌≤◌, min}
use native.Mathlib.Omega.{arith}
use borrow.Author.Tests.{ltb-true, ltb-false, lt-ltb, le-ltb, lt-leb, le-leb}
use lib.Dec.{ltb, leb}
use lib.ListN.{length, set, take, drop, length-take, length-drop, take-append-drop, drop_of_length-le, get_or-eq_default}
use lib.Seq.{set_out, take-set-le, take-set-lt, drop-set-lt, drop-set-add}
use Rattle.book.specs.declared.Function.{Function}
use Rattle.book.specs.Book.{Program, L, size, total, no_function, offset, location, function_at, Place, place_in, place}
use Rattle.book.specs.Sum.{first_argument, second_argument, apart}
use Rattle.book.specs.Sound.{Lawful}
use Rattle.book.proofs.Apart.{own_place}
use Rattle.book.proofs.Places.{located}
use Rattle.book_parts.specs.declared.Part.{Part}
use Rattle.book_parts.specs.declared.Owner.{Owner}
use Rattle.book_parts.specs.Part.{between, put_in, part_from, part_in, part_of, owner_of}
use Rattle.book_parts.proofs.Places.{functions_from, place_past, From, from_at, from_past, part_ends, part_after}

-- ---- the locations from a up to e

pub between_before : (a e k : ℕ) → k < a → between a e k ≡ false
between_before a e k h = rw (lt-leb a k h)

pub between_inside : (a e k : ℕ) → a ≤ k → k < e → between a e k ≡ true
between_inside a e k h l = rw (le-leb a k h, lt-ltb k e l)

pub between_after : (a e k : ℕ) → e ≤ k → between a e k ≡ false
between_after a e k h = rw (le-ltb k e h) (and-false (leb a k))

-- ---- the part that a location is in

module _ (E : ℕ) where
  abbrev next : ℕ → Function → ℕ
  next n f = n + size E f.arity

  -- the part p starts at location l or before, whether there is such a location or not
  record Starts (n l : ℕ) (p : Part) : Type 0 where
    pub low : n ≤ p.first
    pub reached : p.first ≤ l
    pub ordered : p.first ≤ p.end

  starts : (n : ℕ) (fs : List Function) (l : ℕ) → n ≤ l → Starts n l (part_in E n fs l)
  unfolding part_in
  starts n [] l h = record { low = omega arith; reached = h; ordered = omega arith }
  starts n (f ∷ fs) l h = go (ltb l (next n f)) refl (λ k. starts (next n f) fs l k)
    where
      go : (b : Bool) → ltb l (next n f) ≡ b → (next n f ≤ l → Starts (next n f) l (part_in E (next n f) fs l))
          → Starts n l (if b then record { first = n; end = next n f } else part_in E (next n f) fs l)
      go true e r = record { low = omega arith; reached = h; ordered = omega arith }
      go false e r = let s = r (ltb-false l (next n f) e) in record { low = omega (arith, s.low); reached = s.reached; ordered = s.ordered }

  -- all locations of a part have that part
  alike : (n : ℕ) (fs : List Function) (l k : ℕ) → n ≤ l → (part_in E n fs l).first ≤ k → k < (part_in E n fs l).end → part_in E n fs k ≡ part_in E n fs l
  unfolding part_in
  alike n [] l k h a b = refl
  alike n (f ∷ fs) l k h a b = go (ltb l (next n f)) refl a b (λ m. (starts (next n f) fs l m).low) (λ m a b. alike (next n f) fs l k m a b)
    where
      go : (t : Bool) → ltb l (next n f) ≡ t
          → (if t then record { first = n; end = next n f } else part_in E (next n f) fs l).first ≤ k
          → k < (if t then record { first = n; end = next n f } else part_in E (next n f) fs l).end
          → (next n f ≤ l → next n f ≤ (part_in E (next n f) fs l).first)
          → (next n f ≤ l → (part_in E (next n f) fs l).first ≤ k → k < (part_in E (next n f) fs l).end → part_in E (next n f) fs k ≡ part_in E (next n f) fs l)
          → (if ltb k (next n f) then record { first = n; end = next n f } else part_in E (next n f) fs k) ≡ (if t then record { first = n; end = next n f } else part_in E (next n f) fs l)
      go true e a b low r = rw (lt-ltb k (next n f) b)
      go false e a b low r = let m = ltb-false l (next n f) e in rw (le-ltb k (next n f) (omega (arith, low m))) (r m a b)

  -- the numbering of the locations: l is location `index` of its function, counted from the part's first, and the part is as long as the function
  pub record Numbered (l : ℕ) (p : Part) (s : Place) : Type 0 where
    pub number : p.first + s.index ≡ l
    pub long : p.end ≡ p.first + size E s.function.arity
    pub inside : l < p.end

  numbered : (n : ℕ) (fs : List Function) (l : ℕ) → n ≤ l → l < n + total E fs → Numbered l (part_in E n fs l) (place_in E fs (l - n))
  unfolding part_in place_in total
  numbered n [] l h k = absurd (omega arith)
  numbered n (f ∷ fs) l h k = go (ltb l (next n f)) refl (λ m. numbered (next n f) fs l m (omega arith))
    where
      go : (b : Bool) → ltb l (next n f) ≡ b → (next n f ≤ l → Numbered l (part_in E (next n f) fs l) (place_in E fs (l - next n f)))
          → Numbered l (if b then record { first = n; end = next n f } else part_in E (next n f) fs l) (if ltb (l - n) (size E f.arity) then record { function = f; index = l - n } else place_in E fs (l - n - size E f.arity))
      go true e r =
          let m = ltb-true l (next n f) e in
          rw (lt-ltb (l - n) (size E f.arity) (omega arith)) (record { number = omega arith; long = refl; inside = m })
      go false e r =
          let m = ltb-false l (next n f) e in
          let q : l - n - size E f.arity ≡ l - next n f = omega arith in
          rw (le-ltb (l - n) (size E f.arity) (omega arith), q) (r m)

  past : (n : ℕ) (fs : List Function) (l : ℕ) → n + total E fs ≤ l → part_in E n fs l ≡ record { first = n + total E fs; end = n + total E fs }
  unfolding part_in total
  past n [] l h = let e : n + 0 ≡ n = omega arith in rw e
  past n (f ∷ fs) l h =
      let e : n + (size E f.arity + total E fs) ≡ next n f + total E fs = omega arith in
      rw (le-ltb l (next n f) (omega arith), e) (past (next n f) fs l (omega arith))

module _ (B : Program) where
  pub part_starts : (l : ℕ) → ((part_of B l).first ≤ l) × ((part_of B l).first ≤ (part_of B l).end)
  part_starts l = let s = starts B.E 0 B.functions l (omega arith) in (s.reached, s.ordered)

  pub part_alike : (l k : ℕ) → (part_of B l).first ≤ k → k < (part_of B l).end → part_of B k ≡ part_of B l
  part_alike l k a b = alike B.E 0 B.functions l k (omega arith) a b

  pub part_numbered : (l : ℕ) → l < L B → Numbered B.E l (part_of B l) (place B l)
  part_numbered l h = let e : l - 0 ≡ l = omega arith in rw e at (numbered B.E 0 B.functions l (omega arith) (omega arith))

  pub part_past : (l : ℕ) → L B ≤ l → part_of B l ≡ record { first = L B; end = L B }
  part_past l h = let e : 0 + L B ≡ L B = omega arith in rw e at (past B.E 0 B.functions l (omega arith))

  -- in an accepted book a location's part starts at its function's first location
  pub part_own : Lawful B → (f x y : ℕ) → f < length B.functions → x < B.E → y < B.E
      → part_of B (location B f x y) ≡ record { first = (function_at B f).first; end = (function_at B f).first + size B.E (function_at B f).arity }
  part_own ok f x y h a b =
      let s = located B ok f x y h a b in
      let p = part_of B (location B f x y) in
      let r : Numbered B.E (location B f x y) p (record { function = function_at B f; index = offset B.E (function_at B f).arity x y }) = rw s.where_at at (part_numbered (location B f x y) s.inside) in
      let e : p.first ≡ (function_at B f).first = omega (arith, r.number) in
      let g : p.end ≡ (function_at B f).first + size B.E (function_at B f).arity = omega (arith, r.long, e) in
      ap₂ (λ (u v : ℕ). record { first = u; end = v }) e g

-- ---- the search for the owner of location l: it is not among the functions before g, whose locations are those below first

module _ (B : Program) (l : ℕ) where
  abbrev pub Sought : ℕ → ℕ → Type 0
  Sought g first = From B g first × (first ≤ l) × (part_of B l ≡ part_in B.E first (drop g B.functions) l)

  owner_is : (f : Function) (i first end : ℕ) → place B l ≡ record { function = f; index = i } → ◌≡◌ {A = Part} (record { first = first; end = end }) (part_of B l)
      → ◌≡◌ {A = Owner} (record { function = f; first = first; end = end }) (owner_of B l)
  owner_is f i first end p q = rw (p, ← q)

  module _ (g first : ℕ) (own : Owner) (at : Sought g first) (is : own ≡ part_from B g first) (more : g < length B.functions) where
    abbrev end : ℕ
    end = first + size B.E (function_at B g).arity

    part_here : l < end → record { first = first; end = end } ≡ part_of B l
    unfolding part_in
    part_here h = sym (at.2 ∙ rw (functions_from B g more, lt-ltb l end h))

    pub owner_here : l < own.end → own ≡ owner_of B l
    owner_here h =
        let k : l < end = omega (arith, part_ends B g first own is, h) in
        is ∙ owner_is (function_at B g) (l - first) first end (from_at B g first at.0 more l at.1 k) (part_here k)

    pub owner_next : own.end ≤ l → Sought (g + 1) own.end
    unfolding part_in
    owner_next h = (
      part_after B g first own is at.0 more,
      h,
      at.2 ∙ rw (functions_from B g more, ← part_ends B g first own is, le-ltb l own.end h),
    )

  pub owner_none : (g first : ℕ) (f : Function) → Sought g first → length B.functions ≤ g → f ≡ function_at B (length B.functions)
      → record { function = f; first = first; end = first } ≡ owner_of B l
  unfolding part_in
  owner_none g first f at done is =
      let none : f ≡ no_function = is ∙ get_or-eq_default B.functions no_function {n = length B.functions} (omega arith) in
      owner_is f 0 first first (from_past B g first at.0 done l at.1 ∙ rw none) (sym (at.2 ∙ rw (drop_of_length-le B.functions {i = g} done)))

  -- the number of location l within its function, counted from the part's first; past L it is 0
  pub owner_index : (place B l).index ≡ (if ltb l (owner_of B l).end then l - (owner_of B l).first else 0)
  owner_index = go (ltb l (L B)) refl
    where
      go : (b : Bool) → ltb l (L B) ≡ b → (place B l).index ≡ (if ltb l (part_of B l).end then l - (part_of B l).first else 0)
      go true e =
          let n = part_numbered B l (ltb-true l (L B) e) in
          rw (lt-ltb l (part_of B l).end n.inside) (omega (arith, n.number))
      go false e =
          let h = ltb-false l (L B) e in
          rw (part_past B l h, le-ltb l (L B) h, place_past B l h)

  -- In an accepted book the owner of a location, and the location's number there taken apart by the owner's stride, are what the location is apart: so
  -- `owner_of` and `take_apart` together undo the sum.
  pub owner_apart : Lawful B → l < L B
      → ((owner_of B l).function ≡ function_at B (apart B l).function)
      × (first_argument (owner_of B l).function (l - (owner_of B l).first) ≡ (apart B l).first)
      × (second_argument (owner_of B l).function (l - (owner_of B l).first) ≡ (apart B l).second)
  owner_apart ok h =
      let p = own_place B ok l h in
      let e : l - (part_of B l).first ≡ (place B l).index = omega (arith, (part_numbered B l h).number) in
      (sym p.0, rw e (sym p.2), rw e (sym p.3))

-- ---- a part that is lent, one place of it stored, and put back

module _ (first end i v : ℕ) (c : List ℕ) (ordered : first ≤ end) (a b : ℕ) (a_is : a ≡ min first (length c)) (b_is : b ≡ min end (length c)) where
  abbrev mid : List ℕ
  mid = take (b - a) (drop a c)

  abbrev rest : List ℕ
  rest = drop (b - a) (drop a c)

  whole : take a c ++ (mid ++ rest) ≡ c
  whole = ap (λ (z : List ℕ). take a c ++ z) (take-append-drop (b - a) (drop a c)) ∙ take-append-drop a c

  out : length mid ≤ i → take a c ++ (set mid i v ++ rest) ≡ c
  out h = rw (set_out mid i v h) whole

  stored : first + i < end → first + i < length c → take a c ++ (set mid i v ++ rest) ≡ set c (first + i) v
  stored h k =
      let n : a ≡ first = omega arith in
      let s = set c (a + i) v in
      let t : take a s ≡ take a c = take-set-le a c (a + i) v (omega arith) in
      let d : drop a s ≡ set (drop a c) i v = drop-set-add a c i v in
      let m : take (b - a) (drop a s) ≡ set mid i v = ap (take (b - a)) d ∙ take-set-lt (b - a) (drop a c) i v (omega arith) in
      let r : drop (b - a) (drop a s) ≡ rest = ap (drop (b - a)) d ∙ drop-set-lt (b - a) (drop a c) i v (omega arith) in
      rw (← t, ← m, ← r) (ap (λ (z : List ℕ). take a s ++ z) (take-append-drop (b - a) (drop a s)) ∙ take-append-drop a s ∙ ap (λ (z : ℕ). set c (z + i) v) n)

  long : length mid ≡ b - a
  long = length-take (b - a) (drop a c) ∙ simp length-drop (omega arith)

  pub put_back : (ys : List ℕ) → ys ≡ set (take (b - a) (drop a c)) i v → take a c ++ (ys ++ drop (b - a) (drop a c)) ≡ put_in first end (first + i) v c
  put_back ys q = ap (λ (z : List ℕ). take a c ++ (z ++ rest)) q ∙ go (ltb (first + i) end) refl (ltb (first + i) (length c)) refl
    where
      go : (s : Bool) → ltb (first + i) end ≡ s → (t : Bool) → ltb (first + i) (length c) ≡ t → take a c ++ (set mid i v ++ rest) ≡ put_in first end (first + i) v c
      go true e true f =
          let h = ltb-true (first + i) end e in
          rw (between_inside first end (first + i) (omega arith) h) (stored h (ltb-true (first + i) (length c) f))
      go true e false f =
          let k = ltb-false (first + i) (length c) f in
          rw (between_inside first end (first + i) (omega arith) (ltb-true (first + i) end e)) (out (omega (arith, long)) ∙ sym (set_out c (first + i) v k))
      go false e t f =
          let h = ltb-false (first + i) end e in
          rw (between_after first end (first + i) h) (out (omega (arith, long)))
