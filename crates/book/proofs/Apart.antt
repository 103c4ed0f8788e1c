-- A location taken apart: its function is found, its arguments are those that it was made of, and their sum is the location again.
use Rattle.std.specs.Prelude.{if◌then◌else◌}
use mathlib.Core.Path.{◌≡◌, refl, sym, ◌∙◌}
use mathlib.Core.Bool.{Bool, true, false, ◌||◌}
use mathlib.Core.List.{List, [], ◌∷◌}
use Prim.Native.Nat.{ℕ, zero, suc, ◌+◌, ◌-◌, ◌*◌, ◌/◌, ◌%◌, ◌≤◌, ◌<◌}
use native.Mathlib.Nat.{div-one, mod-one, mod-lt, mod-eq_of_lt, div-eq_of_lt, div-add-mod', div-lt_iff_lt-mul, mul-add-div_right, mul-add-mod_self_right}
use native.Mathlib.Omega.{arith}
use lib.Dec.{eqb, ltb}
use lib.ListN.{length, get_or}
use borrow.Author.Tests.{eqb-true, ltb-true, ltb-false, lt-ltb, le-ltb}
use Rattle.book.specs.declared.Function.{Function}
use Rattle.book.specs.Book.{Program, no_function, size, total, L, stride, offset, location, function_at, place, arguments_at}
use Rattle.book.specs.Sum.{sum, Fitting, first_argument, second_argument, arguments_by, number_in, apart}
use Rattle.book.specs.Sound.{Laid, Lawful}
use Rattle.book.specs.Claims.{Summed}
use Rattle.book.proofs.Places.{past_laid, offset_fits, located}
use Rattle.book.proofs.Sum.{stride_low, sum_location, arguments_apart}

-- ---- the function's number

-- location i of function f has that function's number, the functions being laid out from n on
number_laid : (E n : ℕ) (gs : List Function) → Laid E n gs → (f i : ℕ) → f < length gs → i < size E (get_or gs f no_function).arity
    → number_in E gs ((get_or gs f no_function).first + i - n) ≡ f
unfolding number_in
number_laid E n [] d f i h k = absurd (omega arith)
number_laid E n (g ∷ gs) d zero i h k = let e : g.first + i - n ≡ i = omega (arith, d.0) in rw (e, lt-ltb i (size E g.arity) k)
number_laid E n (g ∷ gs) d (suc f) i h k =
    let p = past_laid E (n + size E g.arity) gs d.1 f (omega arith) in
    let l : ℕ = (get_or gs f no_function).first + i in
    let e : l - n - size E g.arity ≡ l - (n + size E g.arity) = omega arith in
    rw (le-ltb (l - n) (size E g.arity) (omega (arith, p)), e, number_laid E (n + size E g.arity) gs d.1 f i (omega arith) k)

-- location l is one of the function whose number it gets
record Numbered (E : ℕ) (gs : List Function) (l f : ℕ) : Type 0 where
  pub is : f < length gs
  pub low : (get_or gs f no_function).first ≤ l
  pub high : l < (get_or gs f no_function).first + size E (get_or gs f no_function).arity

numbered : (E n : ℕ) (gs : List Function) → Laid E n gs → (l : ℕ) → n ≤ l → l < n + total E gs → Numbered E gs l (number_in E gs (l - n))
unfolding number_in total
numbered E n [] d l h k = absurd (omega arith)
numbered E n (g ∷ gs) d l h k = go (ltb (l - n) (size E g.arity)) refl (λ a. numbered E (n + size E g.arity) gs d.1 l a (omega arith))
  where
    e : l - n - size E g.arity ≡ l - (n + size E g.arity)
    e = omega arith

    go : (b : Bool) → ltb (l - n) (size E g.arity) ≡ b
        → (n + size E g.arity ≤ l → Numbered E gs l (number_in E gs (l - (n + size E g.arity))))
        → Numbered E (g ∷ gs) l (if b then 0 else suc (number_in E gs (l - n - size E g.arity)))
    go true p r = let q = ltb-true (l - n) (size E g.arity) p in record { is = omega arith; low = omega (arith, d.0); high = omega (arith, d.0, q) }
    go false p r =
        let s = r (omega (arith, ltb-false (l - n) (size E g.arity) p)) in
        rw e (record { is = omega (arith, s.is); low = s.low; high = s.high })

-- ---- the arguments

-- a second argument that fits is below the stride
stride_above : (E arity x y : ℕ) → y < E → Fitting arity x y → y < stride E arity
stride_above E arity x y k h = go (eqb arity 0) refl (eqb arity 1) refl
  where
    go : (a : Bool) → eqb arity 0 ≡ a → (b : Bool) → eqb arity 1 ≡ b → y < (if a || b then 1 else E)
    go true p b q = let z : arity ≡ 0 = eqb-true arity 0 p in omega (arith, h.1 (omega arith))
    go false p true q = let z : arity ≡ 1 = eqb-true arity 1 q in omega (arith, h.1 (omega arith))
    go false p false q = k

-- what the stride s gives back of the sum at x and y, if y is below it
whole : (s x y : ℕ) → y < s → (x * s + y) / s ≡ x
whole s x y h = mul-add-div_right {m = s} (omega arith) x y ∙ rw (div-eq_of_lt h) (omega arith)

rest : (s x y : ℕ) → y < s → (x * s + y) % s ≡ y
rest s x y h = mul-add-mod_self_right x s y ∙ mod-eq_of_lt h

-- the first argument of a function's location is an element
first_low : (E arity i : ℕ) → 0 < E → i < size E arity → i / stride E arity < E
first_low E arity i h k = go (eqb arity 0) (eqb arity 1) k
  where
    go : (a b : Bool) → i < (if a then 1 else if b then E else E * E) → i / (if a || b then 1 else E) < E
    go true b k = rw (div-one i) (omega arith)
    go false true k = rw (div-one i) k
    go false false k = (div-lt_iff_lt-mul {k = E} {x = i} {y = E} h).1 k

-- so is the second
second_low : (E arity i : ℕ) → 0 < E → i % stride E arity < E
second_low E arity i h = go (eqb arity 0) (eqb arity 1)
  where
    go : (a b : Bool) → i % (if a || b then 1 else E) < E
    go true b = rw (mod-one i) h
    go false true = rw (mod-one i) h
    go false false = mod-lt i h

-- the arguments of a function's location fit it
fitting_apart : (E arity i : ℕ) → i < size E arity → Fitting arity (i / stride E arity) (i % stride E arity)
fitting_apart E arity i k = (first, second)
  where
    first : arity < 1 → i / stride E arity ≡ 0
    first h = let e : arity ≡ 0 = omega arith in let z : i < 1 = rw e at k in rw (stride_low E arity (omega arith), div-one i) (omega arith)

    second : arity < 2 → i % stride E arity ≡ 0
    second h = rw (stride_low E arity h, mod-one i)

-- ---- both ways round

module _ (B : Program) (ok : Lawful B) where
  -- the sum taken apart gives the function and the arguments that it was made of
  pub apart_of_sum : (f x y : ℕ) → f < length B.functions → x < B.E → y < B.E → Fitting (function_at B f).arity x y
      → apart B (sum (function_at B f) x y) ≡ record { function = f; first = x; second = y }
  apart_of_sum f x y h a b k =
      let g = function_at B f in
      let s = stride_above B.E g.arity x y b k in
      let i : ℕ = offset B.E g.arity x y in
      let e : g.first + i - 0 ≡ sum g x y = omega (arith, sum_location B ok.strides f x y k) in
      let own = number_laid B.E 0 B.functions ok.laid f i h (offset_fits B.E g.arity x y a b) in
      let n : number_in B.E B.functions (sum g x y) ≡ f = rw e at own in
      let j : sum g x y - g.first ≡ x * g.stride + y = omega arith in
      rw (n, j, ok.strides f, whole (stride B.E g.arity) x y s, rest (stride B.E g.arity) x y s)

  -- a location taken apart gives the location again as the sum
  pub summed : (l : ℕ) → l < L B → Summed B l
  summed l h =
      let f : ℕ = number_in B.E B.functions l in
      let g = function_at B f in
      let e : l - 0 ≡ l = omega arith in
      let n : Numbered B.E B.functions l f = rw e at (numbered B.E 0 B.functions ok.laid l (omega arith) (omega arith)) in
      let i : ℕ = l - g.first in
      let k : i < size B.E g.arity = omega (arith, n.low, n.high) in
      let some : 0 < B.E = omega (arith, ok.low, ok.high) in
      record {
        function = n.is;
        first = rw (ok.strides f) (first_low B.E g.arity i some k);
        second = rw (ok.strides f) (second_low B.E g.arity i some);
        fitting = rw (ok.strides f) (fitting_apart B.E g.arity i k);
        again = omega (arith, div-add-mod' i g.stride, n.low);
      }

  -- a location taken apart gives the function of its place and its arguments
  pub own_place : (l : ℕ) → l < L B
      → (function_at B (apart B l).function ≡ (place B l).function)
      × (arguments_by (function_at B (apart B l).function).arity (apart B l).first (apart B l).second ≡ arguments_at B l)
      × ((apart B l).first ≡ first_argument (place B l).function (place B l).index)
      × ((apart B l).second ≡ second_argument (place B l).function (place B l).index)
  own_place l h =
      let s = summed l h in
      let p = apart B l in
      let f : ℕ = p.function in
      let i : ℕ = l - (function_at B f).first in
      let t = sum_location B ok.strides f p.first p.second s.fitting in
      let e : location B f p.first p.second ≡ l = sym t ∙ s.again in
      let at = rw e at (located B ok f p.first p.second s.function s.first s.second).where_at in
      let j : offset B.E (function_at B f).arity p.first p.second ≡ i = omega (arith, e) in
      (rw at, rw (at, j) (arguments_apart B ok.strides f i), rw (at, j), rw (at, j))
