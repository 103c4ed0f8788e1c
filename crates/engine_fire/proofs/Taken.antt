-- What firing reads, step by step, is what the definition says that a fired move reads beside what its walk reads.
use Rattle.std.specs.Prelude.{None}
use Rattle.std.specs.Prelude.{if◌then◌else◌}
use mathlib.Core.Path.{◌≡◌, refl, sym, ap, ◌∙◌}
use mathlib.Core.Logic.{◌⊎◌, inl, inr, dite, ◌≢◌}
use mathlib.Core.Bool.{Bool, true, false, ◌||◌, or-true, false≢true, true≢false}
use mathlib.Core.List.{List, [], ◌∷◌}
use Prim.Native.Nat.{ℕ, ◌+◌, ◌<◌, ◌≤◌, min}
use native.Mathlib.Nat.{div-one}
use native.Mathlib.Omega.{arith}
use native.Mathlib.Decide.{ℕ_discrete}
use borrow.Author.Tests.{eqb-true, eq-eqb, ne_eqb, ltb-true, ltb-false, lt-ltb}
use lib.Dec.{eqb, ltb}
use lib.ListN.{length, get_or, set}
use Rattle.text.specs.Words.{has, least}
use Rattle.text.proofs.Words.{and_cases, or_cases, has_append, set_at, both_ways}
use Rattle.book.specs.Book.{Program, L, true_element, dynamic_at, default_at, concerns, place}
use Rattle.book.specs.Sound.{Lawful}
use Rattle.book.proofs.Places.{roll_place, default_low}
use Rattle.engine.specs.declared.Instruction.{Instruction}
use Rattle.engine.specs.declared.Instruction.TheVariants.{Update, Release}
use Rattle.engine.specs.Move.{given, values, updates, released, other, two_values, clashes, new_value, is_some, append_from, release_gives, release_reads, taken_reads, changed_reads, extra_reads}
use Rattle.engine.proofs.Append.{append_has, append_in}
use Rattle.engine.proofs.Extra.{release_in, taken_in, taken_has}
use Rattle.engine.proofs.Values.{Releases, updates_at, releases_values, only_value}
use Rattle.engine_instruction.specs.Given.{own, gets, any, clears_at}
use Rattle.engine_instruction.proofs.Strides.{clears_strided}
use Rattle.engine_release.specs.Part.{cleared_reads}
use Rattle.engine_release.specs.Steps.{value_cleared, instruction_cleared, label_reads, all_cleared, all_reads}
use Rattle.engine_fire.specs.Steps.{put_reads, fire_reads}
use Rattle.engine_fire.proofs.Fires.{rest, clear_by, about, instruction_clears, cleared_true, cleared_false, clear_by_rest, own_is, both, some_given, some_values, length_clear_of, length_clears, length_put, clear_of_at, all_cleared_at, unclashed}

module _ (B : Program) where
  -- ---- labels cleared

  -- why location k is read where location l, which held v, is cleared
  abbrev Why : ℕ → ℕ → ℕ → Type 0
  Why l v k = (k ≡ l) ⊎ ((B.P ≤ v) × (default_at B l ≢ v) × (k ≡ v))

  abbrev cleared_at : ℕ → List ℕ → ℕ → List ℕ
  cleared_at x c l = if clears_at B l (get_or c l 0) x then cleared_reads B.P (default_at B l) l (get_or c l 0) else []

  why_read : (l v k : ℕ) → has (cleared_reads B.P (default_at B l) l v) k ≡ true → Why l v k
  why_read l v k h = go (or_cases (eqb l k) (has (taken_reads B.P v (default_at B l)) k) h)
    where
      go : (eqb l k ≡ true) ⊎ (has (taken_reads B.P v (default_at B l)) k ≡ true) → Why l v k
      go (inl e) = inl (sym (eqb-true l k e))
      go (inr e) = let s = taken_in B.P v (default_at B l) k e in inr (s.0, s.1, sym s.2)

  read_why : (l v k : ℕ) → Why l v k → has (cleared_reads B.P (default_at B l) l v) k ≡ true
  read_why l v k (inl e) = rw (eq-eqb l k (sym e))
  read_why l v k (inr (p, n, e)) = rw (e, taken_has B.P v (default_at B l) p n) (or-true (eqb l v))

  clear_in : (x : ℕ) (c : List ℕ) (k : ℕ) → has (label_reads B x c) k ≡ true
      → (l : ℕ) × (l < length c) × (clears_at B l (get_or c l 0) x ≡ true) × Why l (get_or c l 0) k
  clear_in x c k h = let s = append_in (cleared_at x c) 0 (length c) k h in go s.0 s.1 (clears_at B s.0 (get_or c s.0 0) x) refl s.2
    where
      go : (l : ℕ) → l < 0 + length c → (b : Bool) → clears_at B l (get_or c l 0) x ≡ b
          → has (if b then cleared_reads B.P (default_at B l) l (get_or c l 0) else []) k ≡ true
          → (l : ℕ) × (l < length c) × (clears_at B l (get_or c l 0) x ≡ true) × Why l (get_or c l 0) k
      go l m true e h = (l, omega arith, e, why_read l (get_or c l 0) k h)
      go l m false e h = absurd (false≢true h)

  clear_has : (x : ℕ) (c : List ℕ) (l k : ℕ) → l < length c → clears_at B l (get_or c l 0) x ≡ true → Why l (get_or c l 0) k → has (label_reads B x c) k ≡ true
  clear_has x c l k h e w = append_has (cleared_at x c) 0 (length c) l k (omega arith) (omega arith) (rw e (read_why l (get_or c l 0) k w))

  -- k is read where some location is cleared: what that held before the first release decides
  abbrev ClearedAt : List Instruction → List ℕ → ℕ → Type 0
  ClearedAt is c k = (l : ℕ) × (l < length c) × (any (instruction_clears B l (get_or c l 0)) is ≡ true) × Why l (get_or c l 0) k

  clears_in : (is : List Instruction) (c : List ℕ) (k : ℕ) → has (all_reads B is c) k ≡ true → ClearedAt is c k
  unfolding all_reads any
  clears_in [] c k h = absurd (false≢true h)
  clears_in (Update j w ∷ is) c k h = clears_in is c k h
  clears_in (Release x ∷ is) c k h =
      go (or_cases (has (label_reads B x c) k) (has (all_reads B is (instruction_cleared B (Release x) c)) k) (sym (has_append (label_reads B x c) (all_reads B is (instruction_cleared B (Release x) c)) k) ∙ h))
      (clears_in is (instruction_cleared B (Release x) c) k)
    where
      later : (l : ℕ) → l < length c → (v : ℕ) → v ≡ value_cleared B x l (get_or c l 0) → any (instruction_clears B l v) is ≡ true → Why l v k → (b : Bool) → clears_at B l (get_or c l 0) x ≡ b → ClearedAt (Release x ∷ is) c k
      later l m v q a (inl e) true t = (l, m, rw t, inl e)
      later l m v q a (inr (p, n, e)) true t = absurd (n (sym (q ∙ cleared_true B l x (get_or c l 0) t)))
      later l m v q a w false t =
          let s : v ≡ get_or c l 0 = q ∙ cleared_false B l x (get_or c l 0) t in
          (l, m, rw (rw s at a) (or-true (clears_at B l (get_or c l 0) x)), rw s at w)

      go : (has (label_reads B x c) k ≡ true) ⊎ (has (all_reads B is (instruction_cleared B (Release x) c)) k ≡ true)
          → (has (all_reads B is (instruction_cleared B (Release x) c)) k ≡ true → ClearedAt is (instruction_cleared B (Release x) c) k) → ClearedAt (Release x ∷ is) c k
      go (inl e) r = let s = clear_in x c k e in (s.0, s.1, rw s.2, s.3)
      go (inr e) r =
          let s = r e in
          let m : s.0 < length c = omega (arith, s.1, length_clear_of B (Release x) c) in
          later s.0 m (get_or (instruction_cleared B (Release x) c) s.0 0) (clear_of_at B (Release x) c s.0 m) s.2 s.3 (clears_at B s.0 (get_or c s.0 0) x) refl

  clears_has : (is : List Instruction) (c : List ℕ) (l k : ℕ) → l < length c → any (instruction_clears B l (get_or c l 0)) is ≡ true → Why l (get_or c l 0) k
      → has (all_reads B is c) k ≡ true
  unfolding all_reads any
  clears_has [] c l k h a w = absurd (false≢true a)
  clears_has (Update j v ∷ is) c l k h a w = clears_has is c l k h a w
  clears_has (Release x ∷ is) c l k h a w =
      has_append (label_reads B x c) (all_reads B is (instruction_cleared B (Release x) c)) k
      ∙ go (clears_at B l (get_or c l 0) x) refl (clears_has is (instruction_cleared B (Release x) c) l k (omega (arith, length_clear_of B (Release x) c)))
    where
      go : (b : Bool) → clears_at B l (get_or c l 0) x ≡ b
          → (any (instruction_clears B l (get_or (instruction_cleared B (Release x) c) l 0)) is ≡ true → Why l (get_or (instruction_cleared B (Release x) c) l 0) k → has (all_reads B is (instruction_cleared B (Release x) c)) k ≡ true)
          → (has (label_reads B x c) k || has (all_reads B is (instruction_cleared B (Release x) c)) k) ≡ true
      go true t r = rw (clear_has x c l k h t w)
      go false t r =
          let q : get_or (instruction_cleared B (Release x) c) l 0 ≡ get_or c l 0 = clear_of_at B (Release x) c l h ∙ cleared_false B l x (get_or c l 0) t in
          let z : any (instruction_clears B l (get_or c l 0)) is ≡ true = rw t at a in
          rw (r (rw q z) (rw q w)) (or-true (has (label_reads B x c) k))

  -- what clearing by these instructions leaves of v at l
  pub clear_is : (l : ℕ) (is : List Instruction) (v : ℕ) → clear_by B l is v ≡ (if any (instruction_clears B l v) is then rest B l else v)
  unfolding clear_by any
  clear_is l [] v = refl
  clear_is l (Update j w ∷ is) v = clear_is l is v
  clear_is l (Release x ∷ is) v = go (clears_at B l v x) refl (clear_is l is v)
    where
      go : (b : Bool) → clears_at B l v x ≡ b → clear_by B l is v ≡ (if any (instruction_clears B l v) is then rest B l else v)
          → clear_by B l is (value_cleared B x l v) ≡ (if clears_at B l v x || any (instruction_clears B l v) is then rest B l else v)
      go true t r = ap (clear_by B l is) (cleared_true B l x v t) ∙ clear_by_rest B l is ∙ rw t
      go false t r = ap (clear_by B l is) (cleared_false B l x v t) ∙ r ∙ rw t

  -- a location that is cleared is cleared by the release of some label
  clears_released : (l v : ℕ) (is : List Instruction) → any (instruction_clears B l v) is ≡ true → (x : ℕ) × Releases x is × (clears_at B l v x ≡ true)
  unfolding any
  clears_released l v [] h = absurd (false≢true h)
  clears_released l v (Update j w ∷ is) h = clears_released l v is h
  clears_released l v (Release x ∷ is) h = go (or_cases (clears_at B l v x) (any (instruction_clears B l v) is) h) (clears_released l v is)
    where
      go : (clears_at B l v x ≡ true) ⊎ (any (instruction_clears B l v) is ≡ true) → (any (instruction_clears B l v) is ≡ true → (y : ℕ) × Releases y is × (clears_at B l v y ≡ true))
          → (y : ℕ) × Releases y (Release x ∷ is) × (clears_at B l v y ≡ true)
      go (inl e) r = (x, inl refl, e)
      go (inr e) r = let s = r e in (s.0, inr s.1, s.2)

-- ---- values put

-- instructions about one of the first n locations give it one value
abbrev Alike : ℕ → (ℕ → ℕ) → List Instruction → Type 0
Alike n w [] = Unit {0}
Alike n w (i ∷ is) = (own i < n → gets i ≡ w (own i)) × Alike n w is

module _ (P n : ℕ) (w : ℕ → ℕ) where
  abbrev stored : Instruction → List ℕ → List ℕ
  stored i c = if ltb (own i) n then set c (own i) (gets i) else c

  abbrev put_at : Instruction → List ℕ → List ℕ
  put_at i c = if ltb (own i) (min n (length c)) then taken_reads P (get_or c (own i) 0) (gets i) else []

  stored_at : (i : Instruction) (c : List ℕ) (l : ℕ) → l < n → l < length c → get_or (stored i c) l 0 ≡ (if eqb (own i) l then gets i else get_or c l 0)
  stored_at i c l h m = go (ltb (own i) n) refl
    where
      go : (b : Bool) → ltb (own i) n ≡ b → get_or (if b then set c (own i) (gets i) else c) l 0 ≡ (if eqb (own i) l then gets i else get_or c l 0)
      go true e = set_at c (own i) (gets i) l m
      go false e = rw (ne_eqb (own i) l (λ q. omega (arith, ltb-false (own i) n e)))

  -- k is read where some location that held k gets another value
  abbrev PutAt : List ℕ → ℕ → Type 0
  PutAt c k = (l : ℕ) × (l < n) × (l < length c) × (P ≤ get_or c l 0) × (k ≡ get_or c l 0) × (w l ≢ get_or c l 0)

  puts_in : (is : List Instruction) → Alike n w is → (c : List ℕ) (k : ℕ) → has (put_reads P n is c) k ≡ true → PutAt c k
  unfolding put_reads
  puts_in [] a c k h = absurd (false≢true h)
  puts_in (i ∷ is) a c k h =
      go (or_cases (has (put_at i c) k) (has (put_reads P n is (stored i c)) k) (sym (has_append (put_at i c) (put_reads P n is (stored i c)) k) ∙ h))
      (puts_in is a.1 (stored i c) k)
    where
      now : (b : Bool) → ltb (own i) (min n (length c)) ≡ b → has (if b then taken_reads P (get_or c (own i) 0) (gets i) else []) k ≡ true → PutAt c k
      now false e q = absurd (false≢true q)
      now true e q =
          let s = taken_in P (get_or c (own i) 0) (gets i) k q in
          let m = ltb-true (own i) (min n (length c)) e in
          let b : own i < n = omega arith in
          (own i, b, omega arith, s.0, sym s.2, λ z. s.1 (a.0 b ∙ z))

      later : (l : ℕ) → l < n → l < length c → (v : ℕ) → v ≡ (if eqb (own i) l then gets i else get_or c l 0) → P ≤ v → k ≡ v → w l ≢ v → (b : Bool) → eqb (own i) l ≡ b → PutAt c k
      later l b m v q p e f true t =
          let o = eqb-true (own i) l t in
          absurd (f (ap w (sym o) ∙ (sym (a.0 (omega arith)) ∙ sym (q ∙ rw t))))
      later l b m v q p e f false t = let s : v ≡ get_or c l 0 = q ∙ rw t in (l, b, m, rw s at p, e ∙ s, λ z. f (z ∙ sym s))

      go : (has (put_at i c) k ≡ true) ⊎ (has (put_reads P n is (stored i c)) k ≡ true)
          → (has (put_reads P n is (stored i c)) k ≡ true → PutAt (stored i c) k) → PutAt c k
      go (inl e) r = now (ltb (own i) (min n (length c))) refl e
      go (inr e) r =
          let s = r e in
          let m : s.0 < length c = omega (arith, s.2, length_put (ltb (own i) n) c (own i) (gets i)) in
          later s.0 s.1 m (get_or (stored i c) s.0 0) (stored_at i c s.0 s.1 m) s.3 s.4 s.5 (eqb (own i) s.0) refl

  puts_has : (is : List Instruction) → Alike n w is → (c : List ℕ) (l : ℕ) → l < n → l < length c → any (λ i. eqb (own i) l) is ≡ true → P ≤ get_or c l 0 → w l ≢ get_or c l 0
      → has (put_reads P n is c) (get_or c l 0) ≡ true
  unfolding put_reads any
  puts_has [] a c l b m o p f = absurd (false≢true o)
  puts_has (i ∷ is) a c l b m o p f =
      has_append (put_at i c) (put_reads P n is (stored i c)) (get_or c l 0)
      ∙ go (eqb (own i) l) refl (puts_has is a.1 (stored i c) l b (omega (arith, length_put (ltb (own i) n) c (own i) (gets i))))
    where
      go : (t : Bool) → eqb (own i) l ≡ t
          → (any (λ i. eqb (own i) l) is ≡ true → P ≤ get_or (stored i c) l 0 → w l ≢ get_or (stored i c) l 0 → has (put_reads P n is (stored i c)) (get_or (stored i c) l 0) ≡ true)
          → (has (put_at i c) (get_or c l 0) || has (put_reads P n is (stored i c)) (get_or c l 0)) ≡ true
      go true t r =
          let q = eqb-true (own i) l t in
          let g : gets i ≢ get_or c l 0 = λ z. f (ap w (sym q) ∙ (sym (a.0 (omega arith)) ∙ z)) in
          rw (lt-ltb (own i) (min n (length c)) (omega arith), q, taken_has P (get_or c l 0) (gets i) p g)
      go false t r =
          let q : get_or (stored i c) l 0 ≡ get_or c l 0 = stored_at i c l b m ∙ rw t in
          let z : any (λ i. eqb (own i) l) is ≡ true = rw t at o in
          let y : has (put_reads P n is (stored i c)) (get_or c l 0) ≡ true = rw q at (r z (rw q p) (λ e. f (e ∙ q))) in
          rw y (or-true (has (put_at i c) (get_or c l 0)))

-- ---- clearing and putting together

module _ (B : Program) (ok : Lawful B) (c : List ℕ) (long : length c ≡ L B) (is : List Instruction)
    (fired : least (clashes is (updates B c is)) (length (updates B c is)) ≡ None)
    (labels : (x : ℕ) → has (released is) x ≡ true → x < B.E) where
  -- the value that a location is given, or keeps
  abbrev new : ℕ → ℕ
  new l = new_value (get_or c l 0) (values B c l is)

  one : (l : ℕ) → l < L B → other (new l) (values B c l is) ≡ false
  unfolding other two_values
  one l h = go (values B c l is) (unclashed B is c fired l h)
    where
      go : (vs : List ℕ) → two_values vs ≡ false → other (new_value (get_or c l 0) vs) vs ≡ false
      go [] e = refl
      go (v ∷ vs) e = rw (eq-eqb v v refl) e

  alike : (js : List Instruction) → ((l : ℕ) → l < L B → other (new l) (values B c l js) ≡ false) → Alike (L B) new js
  alike [] h = tt
  alike (i ∷ js) h = (
    λ b. own_is B (own i) c i (new (own i)) (eq-eqb (own i) (own i) refl) (both B (own i) c i js (new (own i)) (h (own i) b)).0,
    alike js (λ l b. (both B l c i js (new l) (h l b)).1),
  )

  low : (l : ℕ) → default_at B l < B.P
  low l = omega (arith, ok.low, default_low (place B l).function)

  -- a release gives a value exactly to the locations that it clears
  gives_cleared : (l x : ℕ) → x < B.E → is_some (given B c l (Release x)) ≡ clears_at B l (get_or c l 0) x
  gives_cleared l x h = some_given B l c ok.strides (Release x) ∙ go (eqb x l) refl
    where
      go : (b : Bool) → eqb x l ≡ b → (eqb x l || clears_at B l (get_or c l 0) x) ≡ clears_at B l (get_or c l 0) x
      go false e = rw e
      go true e = rw (e, ← (eqb-true x l e), roll_place B ok x h, ok.reserve, div-one x, eq-eqb x x refl)

  gives_any : (l : ℕ) (js : List Instruction) → ((x : ℕ) → has (released js) x ≡ true → x < B.E)
      → release_gives B c (released js) l ≡ any (instruction_clears B l (get_or c l 0)) js
  unfolding release_gives released any
  gives_any l [] h = refl
  gives_any l (Update j w ∷ js) h = gives_any l js h
  gives_any l (Release x ∷ js) h =
      rw (gives_cleared l x (h x (rw (eq-eqb x x refl))), gives_any l js (λ y m. h y (rw m (or-true (eqb x y)))))

  -- a location that is cleared gets a value that is no label
  cleared_new : (l : ℕ) → l < L B → any (instruction_clears B l (get_or c l 0)) is ≡ true → new l < B.P
  cleared_new l h a =
      let s = clears_released B l (get_or c l 0) is a in
      let t = and_cases (dynamic_at B l) (concerns B l (get_or c l 0) s.0) (sym (clears_strided B ok.strides l (get_or c l 0) s.0) ∙ s.2) in
      dite (ℕ_discrete s.0 l)
      (λ (e : s.0 ≡ l). omega (arith, given true_element (releases_values B c is s.0 l true_element s.1 (inl (e, refl))), ok.low))
      (λ (e : s.0 ≢ l). omega (arith, given (default_at B l) (releases_values B c is s.0 l (default_at B l) s.1 (inr (e, t.0, t.1, refl))), low l))
    where
      given : (v : ℕ) → has (values B c l is) v ≡ true → new l ≡ v
      given v m = only_value (get_or c l 0) (values B c l is) v (unclashed B is c fired l h) m

  wiped_at : (l : ℕ) → l < L B → get_or (all_cleared B is c) l 0 ≡ (if any (instruction_clears B l (get_or c l 0)) is then rest B l else get_or c l 0)
  wiped_at l h = all_cleared_at B is c l (omega (arith, long)) ∙ clear_is B l is (get_or c l 0)

  changes : (l : ℕ) → l < L B → B.P ≤ get_or c l 0 → new l ≢ get_or c l 0 → has (append_from (changed_reads B c (updates B c is)) 0 (L B)) (get_or c l 0) ≡ true
  changes l h p n =
      append_has (changed_reads B c (updates B c is)) 0 (L B) l (get_or c l 0) (omega arith) (omega arith)
      (rw (updates_at B c is l h) (taken_has B.P (get_or c l 0) (new l) p n))

  abbrev releases : List ℕ
  releases = append_from (release_reads B c (released is)) 0 (L B)

  abbrev changed : List ℕ
  changed = append_from (changed_reads B c (updates B c is)) 0 (L B)

  abbrev Read : ℕ → Type 0
  Read k = (has (all_reads B is c) k || has (put_reads B.P (L B) is (all_cleared B is c)) k) ≡ true

  to : (k : ℕ) → has (fire_reads B is c) k ≡ true → has (extra_reads B c is (updates B c is)) k ≡ true
  unfolding extra_reads
  to k h =
      has_append releases changed k
      ∙ go (or_cases (has (all_reads B is c) k) (has (put_reads B.P (L B) is (all_cleared B is c)) k) (sym (has_append (all_reads B is c) (put_reads B.P (L B) is (all_cleared B is c)) k) ∙ h))
    where
      by_clearing : (l : ℕ) → l < L B → any (instruction_clears B l (get_or c l 0)) is ≡ true → Why B l (get_or c l 0) k → (has releases k || has changed k) ≡ true
      by_clearing l b a (inl e) =
          let g : release_gives B c (released is) k ≡ true = rw e (gives_any l is labels ∙ a) in
          rw (append_has (release_reads B c (released is)) 0 (L B) k k (omega arith) (omega arith) (rw (g, eq-eqb k k refl)))
      by_clearing l b a (inr (p, n, e)) =
          let m : has changed k ≡ true = rw e (changes l b p (λ z. omega (arith, cleared_new l b a))) in
          rw m (or-true (has releases k))

      by_putting : (l : ℕ) → l < L B → (v : ℕ) → B.P ≤ v → k ≡ v → new l ≢ v → (t : Bool) → v ≡ (if t then rest B l else get_or c l 0) → (has releases k || has changed k) ≡ true
      by_putting l b v p e n true q = absurd (omega (arith, q, low l))
      by_putting l b v p e n false q =
          let m : has changed k ≡ true = rw (e ∙ q) (changes l b (rw q at p) (λ z. n (z ∙ sym q))) in
          rw m (or-true (has releases k))

      go : (has (all_reads B is c) k ≡ true) ⊎ (has (put_reads B.P (L B) is (all_cleared B is c)) k ≡ true) → (has releases k || has changed k) ≡ true
      go (inl e) = let s = clears_in B is c k e in by_clearing s.0 (omega (arith, s.1, long)) s.2 s.3
      go (inr e) =
          let s = puts_in B.P (L B) new is (alike is one) (all_cleared B is c) k e in
          by_putting s.0 s.1 (get_or (all_cleared B is c) s.0 0) s.3 s.4 s.5 (any (instruction_clears B s.0 (get_or c s.0 0)) is) (wiped_at s.0 s.1)

  from : (k : ℕ) → has (extra_reads B c is (updates B c is)) k ≡ true → has (fire_reads B is c) k ≡ true
  unfolding extra_reads
  from k h =
      has_append (all_reads B is c) (put_reads B.P (L B) is (all_cleared B is c)) k
      ∙ go (or_cases (has releases k) (has changed k) (sym (has_append releases changed k) ∙ h))
    where
      -- a label that is taken out of a location is taken by a release, or else by a value that is put
      by_taking : (l : ℕ) → l < L B → B.P ≤ get_or c l 0 → new l ≢ get_or c l 0 → get_or c l 0 ≡ k → (t : Bool) → any (instruction_clears B l (get_or c l 0)) is ≡ t → Read k
      by_taking l b p n e true a = rw (clears_has B is c l k (omega (arith, long)) a (inr (p, (λ z. omega (arith, low l)), sym e)))
      by_taking l b p n e false a =
          let q : get_or (all_cleared B is c) l 0 ≡ get_or c l 0 = wiped_at l b ∙ rw a in
          let o : any (about B l) is ≡ true = given_about (values B c l is) refl in
          let m = puts_has B.P (L B) new is (alike is one) (all_cleared B is c) l b (omega (arith, long, length_clears B is c)) o (rw q p) (λ z. n (z ∙ q)) in
          let y : has (put_reads B.P (L B) is (all_cleared B is c)) k ≡ true = rw (q ∙ e) at m in
          rw y (or-true (has (all_reads B is c) k))
        where
          given_about : (vs : List ℕ) → values B c l is ≡ vs → any (about B l) is ≡ true
          given_about [] r = absurd (n (rw r))
          given_about (v ∷ vs) r =
              let g : any (about B l) is || any (instruction_clears B l (get_or c l 0)) is ≡ true = sym (some_values B l c ok.strides is) ∙ rw r in
              pick (or_cases (any (about B l) is) (any (instruction_clears B l (get_or c l 0)) is) g)
            where
              pick : (any (about B l) is ≡ true) ⊎ (any (instruction_clears B l (get_or c l 0)) is ≡ true) → any (about B l) is ≡ true
              pick (inl x) = x
              pick (inr x) = absurd (true≢false (sym x ∙ a))

      go : (has releases k ≡ true) ⊎ (has changed k ≡ true) → Read k
      go (inl e) =
          let s = append_in (release_reads B c (released is)) 0 (L B) k e in
          let t = release_in B c (released is) s.0 k s.2 in
          rw (clears_has B is c s.0 k (omega (arith, long, s.1)) (sym (gives_any s.0 is labels) ∙ t.0) (inl (sym t.1)))
      go (inr e) =
          let s = append_in (changed_reads B c (updates B c is)) 0 (L B) k e in
          let b : s.0 < L B = omega (arith, s.1) in
          let t = taken_in B.P (get_or c s.0 0) (new s.0) k (rw (updates_at B c is s.0 b) at s.2) in
          by_taking s.0 b t.0 t.1 t.2 (any (instruction_clears B s.0 (get_or c s.0 0)) is) refl

  pub fire_reads_are : (k : ℕ) → has (fire_reads B is c) k ≡ has (extra_reads B c is (updates B c is)) k
  fire_reads_are k = both_ways (has (fire_reads B is c) k) (has (extra_reads B c is (updates B c is)) k) (to k) (from k)
