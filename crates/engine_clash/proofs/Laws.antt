-- Laws that several proofs cite: a location taken apart, what it is given, a label that is released.
use Rattle.std.specs.Prelude.{if◌then◌else◌}
use mathlib.Core.Path.{◌≡◌, refl, sym, ap, ap₂, ◌∙◌}
use mathlib.Core.Bool.{Bool, true, false, ◌&&◌, ◌||◌, or-true, or-false}
use mathlib.Core.List.{List, [], ◌∷◌, ◌++◌}
use Prim.Native.Nat.{ℕ}
use borrow.Author.Tests.{eq-eqb}
use lib.Dec.{eqb, leb}
use Rattle.std.specs.List.{list_any}
use lib.ListN.{get_or}
use Rattle.text.specs.Words.{has}
use Rattle.book.specs.declared.Function.{Function}
use Rattle.book.specs.Book.{Program, dynamic, place}
use Rattle.book.specs.Sum.{Strided, first_argument, second_argument}
use Rattle.book_parts.specs.declared.Arguments.{Arguments}
use Rattle.engine.specs.declared.Instruction.{Instruction}
use Rattle.engine.specs.declared.Instruction.TheVariants.{Update, Release}
use Rattle.engine.specs.Move.{given, values, label_of, released, other}
use Rattle.engine_instruction.specs.Code.{decode_of, decoded}
use Rattle.engine_instruction.specs.Given.{own, gets, any, clears_by}
use Rattle.engine_instruction.proofs.Laws.{other_append}
use Rattle.engine_instruction.proofs.Strides.{has_by, clears_strided}
use Rattle.engine_clash.specs.declared.HeldPlace.{HeldPlace}
use Rattle.engine_clash.specs.LeastClash.{held_place, values_given, values_given_by}

-- a location taken apart, from its place
pub held_place_is :
    (B : Program) (c : List ℕ) (l : ℕ) (f : Function) (i v x y : ℕ) (a : Arguments) → place B l ≡ record { function = f; index = i } →
    (a.first ≡ first_argument f i) × (a.second ≡ second_argument f i) → v ≡ get_or c l 0 → x ≡ (if leb 1 f.arity then a.first else v) →
    y ≡ (if leb 2 f.arity then a.second else v) →
    ◌≡◌ {A = HeldPlace} (record { location = l; function = f; first = x; second = y; held = v }) (held_place B c l)
held_place_is B c l f i v x y a p e h q r =
    let first : x ≡ (if leb 1 f.arity then first_argument f i else get_or c l 0) = q ∙ rw (e.0, h) in
    let second : y ≡ (if leb 2 f.arity then second_argument f i else get_or c l 0) = r ∙ rw (e.1, h) in
    rw (p, h) (ap₂ (λ (x y : ℕ). record { location = l; function = f; first = x; second = y; held = get_or c l 0 }) first second)

-- what a location holds may stand in place of an argument that its function has not
one_more : (x : ℕ) (p q : Bool) (a b v : ℕ) → eqb (if p then a else v) x || eqb (if q then b else v) x || eqb v x ≡ (p && eqb a x || q && eqb b x) || eqb v x
one_more x p q a b v = go p q (eqb v x) refl
  where
    go : (p q : Bool) (z : Bool) → eqb v x ≡ z → eqb (if p then a else v) x || eqb (if q then b else v) x || eqb v x ≡ (p && eqb a x || q && eqb b x) || eqb v x
    go true true z e = refl
    go true false true e = rw (e, or-true (eqb a x), or-true (eqb a x || false))
    go true false false e = rw e
    go false true true e = rw (e, or-true (eqb b x))
    go false true false e = rw e
    go false false true e = rw e
    go false false false e = rw e

held_clears : (f : Function) (a b v x : ℕ)
    → dynamic f && (eqb (if leb 1 f.arity then a else v) x || eqb (if leb 2 f.arity then b else v) x || eqb v x) ≡ clears_by f a b v x
held_clears f a b v x =
    ap (λ (t : Bool). dynamic f && t) (one_more x (leb 1 f.arity) (leb 2 f.arity) a b v ∙ ap (λ (t : Bool). t || eqb v x) (has_by f.arity a b x))

-- a value other than w is given exactly if some instruction gives one
pub other_any : (w : ℕ) (s : HeldPlace) (is : List Instruction) → other w (values_given_by s is) ≡ any (λ i. other w (values_given s i)) is
unfolding any other values_given_by
other_any w s [] = refl
other_any w s (i ∷ is) = other_append w (values_given s i) (values_given_by s is) ∙ rw (other_any w s is)

-- an instruction whose own location is that of s gives it its own value
pub own_value : (s : HeldPlace) (i : Instruction) → own i ≡ s.location → values_given s i ≡ gets i ∷ []
unfolding values_given
own_value s (Update k v) e = rw (eq-eqb k s.location e)
own_value s (Release x) e = rw (eq-eqb x s.location e)

-- in a program with the strides of its arities, what a location is given by its stride is what it is given
module _ (B : Program) (ok : Strided B) (c : List ℕ) (l : ℕ) where
  one_given : (i : Instruction) → values_given (held_place B c l) i ≡ given B c l i
  unfolding given values_given
  one_given (Update k v) = refl
  one_given (Release x) =
      let p = place B l in
      rw (held_clears p.function (first_argument p.function p.index) (second_argument p.function p.index) (get_or c l 0) x, clears_strided B ok l (get_or c l 0) x)

  pub given_strided : (is : List Instruction) → values_given_by (held_place B c l) is ≡ values B c l is
  unfolding values_given_by values
  given_strided [] = refl
  given_strided (i ∷ is) = ap₂ ◌++◌ (one_given i) (given_strided is)

has_label : (x : ℕ) (i : Instruction) (xs : List ℕ) → has (label_of i xs) x ≡ has (label_of i []) x || has xs x
has_label x (Update l v) xs = refl
has_label x (Release y) xs = ap (λ (b : Bool). b || has xs x) (sym (or-false (eqb y x)))

pub has_any : (x : ℕ) (is : List Instruction) → has (released is) x ≡ any (λ i. has (label_of i []) x) is
unfolding any released
has_any x [] = refl
has_any x (i ∷ is) = has_label x i (released is) ∙ ap (λ (b : Bool). has (label_of i []) x || b) (has_any x is)

-- some number of a list stands for an instruction that passes a test, by the library's word for it
pub any_decoded : (p : Instruction → Bool) (list : List ℕ) → list_any (λ c. p (decode_of c)) list ≡ any p (decoded list)
unfolding any
any_decoded p [] = refl
any_decoded p (c ∷ cs) = ap (λ (b : Bool). p (decode_of c) || b) (any_decoded p cs)
