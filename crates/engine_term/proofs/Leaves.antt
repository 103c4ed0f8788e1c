-- Laws of the program that an image holds: a lawful one has its locations placed, and what that says of them; and of the bindings.
use Rattle.std.specs.Prelude.{if◌then◌else◌}
use mathlib.Core.Path.{◌≡◌, refl, sym, ◌∙◌}
use mathlib.Core.Logic.{dite, ◌⊎◌, inl, inr}
use mathlib.Core.Bool.{Bool, true, false, ◌&&◌, ◌||◌, and-false, or-true, false≢true}
use mathlib.Core.List.{List}
use Prim.Native.Nat.{ℕ, ◌≤◌, ◌<◌}
use native.Mathlib.Nat.{mul-le-mul_left}
use native.Mathlib.Omega.{arith}
use native.Mathlib.Decide.{dec_lt}
use lib.Dec.{ltb, leb}
use lib.ListN.{length, get_or, take, length-take, get_or-eq_default}
use lib.Seq.{get_or-take}
use borrow.Author.Tests.{ltb-true, leb-true, lt-ltb, le-ltb, le-leb}
use Rattle.text.proofs.Words.{or_cases}
use Rattle.book.specs.Book.{undef, Program, dynamic, no_function, function_at, node_at, location, dynamic_at}
use Rattle.book.specs.Sum.{sum}
use Rattle.book.specs.declared.Node.{Node}
use Rattle.book.specs.Sound.{Lawful}
use Rattle.book.proofs.Places.{located, roll_place}
use Rattle.book.proofs.Sum.{stride_most, product, sum_location}
use Rattle.engine.proofs.Decode.{names_none, names_one, names_two, universe_of_forall, universe_of_import, universe_of_choose}
use Rattle.engine_term.specs.Bindings.{variables_of}
use Rattle.engine_term.specs.Marks.{dynamic_of, Has, InUniverse, Placed, SumAt}

-- ---- a lawful book has its locations placed

module _ (B : Program) (ok : Lawful B) where
  first_small : (f : ℕ) → (function_at B f).first ≤ 65536
  first_small f = dite (dec_lt f (length B.functions)) inside past
    where
      inside : f < length B.functions → (function_at B f).first ≤ 65536
      inside h = omega (arith, (located B ok f 0 0 h (omega (arith, ok.low, ok.high)) (omega (arith, ok.low, ok.high))).inside, ok.locations)

      past : ¬ (f < length B.functions) → (function_at B f).first ≤ 65536
      past h = let e : function_at B f ≡ no_function = get_or-eq_default B.functions no_function {n = f} (omega arith) in rw e (omega arith)

  stride_small : (f : ℕ) → (function_at B f).stride ≤ 10000
  stride_small f = rw (ok.strides f) (stride_most B.E (function_at B f).arity 10000 (omega arith) ok.elements)

  sum_small : (f x y : ℕ) → x < 65536 → y < 65536 → sum (function_at B f) x y < 4294967296
  sum_small f x y h k =
      omega (arith, first_small f, product 65536 {a = x} {b = (function_at B f).stride} (omega arith) (omega (arith, stride_small f)), mul-le-mul_left x (stride_small f))

  pub placed : Placed B
  placed =
      record {
        own = λ f x y h a b. rw (located B ok f x y h a b).where_at;
        roll = λ x h. rw (roll_place B ok x h, ok.reserve);
        strides = ok.strides;
        none = λ n e. ((names_none B ok n e).1, (names_none B ok n e).2);
        one = λ n e. ((names_one B ok n e).1, (names_one B ok n e).2);
        two = λ n e. ((names_two B ok n e).1, (names_two B ok n e).2);
        universe = λ n k. named_universe n k;
        small = sum_small;
      }
    where
      named_universe : (n : ℕ) → InUniverse (node_at B n).kind → Has B (node_at B n).b 1
      named_universe n (inl e) = ((universe_of_forall B ok n e).1, (universe_of_forall B ok n e).2)
      named_universe n (inr (inl e)) = ((universe_of_import B ok n e).1, (universe_of_import B ok n e).2)
      named_universe n (inr (inr e)) = ((universe_of_choose B ok n e).1, (universe_of_choose B ok n e).2)

-- ---- where the locations are placed, a function with as many arguments has its location at the sum, and its kind says what its locations are

module _ (B : Program) (f : ℕ) where
  -- a nullary function's location is its sum at 0 and 0
  pub at_none : Has B f 0 → SumAt B f 0 0 (location B f 0 0)
  at_none h p = (sum_location B p.strides f 0 0 (λ k. refl, λ k. refl), λ i j. p.own f 0 0 h.0 i j)

  -- a unary function's location at x is its sum at 0 and x: its stride is 1
  pub at_one : (x : ℕ) → Has B f 1 → SumAt B f 0 x (location B f x 0)
  at_one x h p = (rw h.1 (omega arith), λ i j. p.own f x 0 h.0 j i)

  -- a binary function's location is its sum
  pub at_two : (x y : ℕ) → Has B f 2 → SumAt B f x y (location B f x y)
  at_two x y h p = (sum_location B p.strides f x y (λ k. absurd (omega (arith, h.1)), λ k. absurd (omega (arith, h.1))), λ i j. p.own f x y h.0 i j)

  -- the location that is a sum is dynamic as its function's kind says, if the arguments are elements
  pub dynamic_placed : (x y l : ℕ) → SumAt B f x y l → Placed B → dynamic_of B (function_at B f) x y l ≡ dynamic_at B l
  dynamic_placed x y l s p = go (ltb x B.E) refl (ltb y B.E) refl
    where
      go : (t : Bool) → ltb x B.E ≡ t → (u : Bool) → ltb y B.E ≡ u → (if t && u then dynamic (function_at B f) else dynamic_at B l) ≡ dynamic_at B l
      go true i true j = sym ((s p).1 (ltb-true x B.E i) (ltb-true y B.E j))
      go true i false j = refl
      go false i u j = refl

-- a term of kind 4 to 6 at node n, which is x, names a function with as many arguments
module _ (B : Program) (p : Placed B) (n : ℕ) (x : Node) (e : x ≡ node_at B n) where
  pub named_none : x.kind ≡ 4 → Has B x.a 0
  named_none k = rw e (p.none n (rw (← e) k))

  pub named_one : x.kind ≡ 5 → Has B x.a 1
  named_one k = rw e (p.one n (rw (← e) k))

  pub named_two : x.kind ≡ 6 → Has B x.a 2
  named_two k = rw e (p.two n (rw (← e) k))

  pub named_universe : InUniverse x.kind → Has B x.b 1
  named_universe k = rw e (p.universe n (rw (← e) k))

-- ---- two numbers tested against the elements at once

pub past_elements : (E x y : ℕ) → (leb E x || leb E y) ≡ true → (ltb x E && ltb y E) ≡ false
past_elements E x y h = go (or_cases (leb E x) (leb E y) h)
  where
    go : (leb E x ≡ true) ⊎ (leb E y ≡ true) → (ltb x E && ltb y E) ≡ false
    go (inl e) = rw (le-ltb x E (leb-true E x e))
    go (inr e) = rw (le-ltb y E (leb-true E y e)) (and-false (ltb x E))

pub within_elements : (E x y : ℕ) → (leb E x || leb E y) ≡ false → (ltb x E && ltb y E) ≡ true
within_elements E x y h = dite (dec_lt x E) (λ i. dite (dec_lt y E) (λ j. rw (lt-ltb x E i, lt-ltb y E j))
    (λ (j : ¬ (y < E)). absurd (false≢true (sym h ∙ rw (le-leb E y (omega arith)) (or-true (leb E x))))))
    (λ (i : ¬ (x < E)). absurd (false≢true (sym h ∙ rw (le-leb E x (omega arith)))))

-- ---- the bindings

pub variable_in : (s : List ℕ) (a : ℕ) → a < 8 → get_or s a 0 ≡ get_or (variables_of s) a undef
variable_in s a h = let e = get_or-take 8 s a 0 h in cc

pub variable_past : (s : List ℕ) (a : ℕ) → 8 ≤ a → 0 ≡ get_or (variables_of s) a undef
variable_past s a h = let e = get_or-eq_default (take 8 s) 0 {n = a} (rw (length-take 8 s) (omega arith)) in cc
