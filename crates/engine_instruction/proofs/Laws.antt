-- Laws that several proofs cite: an instruction's own value, a length that is clipped, the instructions of a list that are left.
use mathlib.Core.Path.{◌≡◌, refl, sym, ap, ◌∙◌}
use mathlib.Core.Bool.{Bool, true, false, ◌&&◌, ◌||◌, not}
use mathlib.Core.List.{List, [], ◌∷◌, ◌++◌}
use Prim.Native.Nat.{ℕ, ◌+◌, ◌<◌, ◌≤◌, min}
use native.Mathlib.Numerals.{add-one}
use native.Mathlib.Omega.{arith}
use borrow.Author.Tests.{leb-true, leb-false, eq-eqb}
use lib.Dec.{eqb, leb}
use lib.ListN.{length, get_or, take, drop, drop_of_length-le}
use lib.Seq.{drop-cons, take_all}
use Rattle.book.specs.Book.{Program}
use Rattle.engine.specs.declared.Instruction.{Instruction}
use Rattle.engine.specs.declared.Instruction.TheVariants.{Update, Release}
use Rattle.engine.specs.Move.{given, other}
use Rattle.engine_instruction.specs.Code.{decode_of, decoded}
use Rattle.engine_instruction.specs.Given.{own, gets}

pub or_assoc : (a b c : Bool) → (a || b) || c ≡ a || (b || c)
or_assoc true b c = refl
or_assoc false b c = refl

pub and_none : (b : Bool) → b && false ≡ false
and_none true = refl
and_none false = refl

pub other_append : (w : ℕ) (xs ys : List ℕ) → other w (xs ++ ys) ≡ other w xs || other w ys
unfolding other
other_append w [] ys = refl
other_append w (x ∷ xs) ys =
    ap (λ (b : Bool). not (eqb x w) || b) (other_append w xs ys) ∙ sym (or_assoc (not (eqb x w)) (other w xs) (other w ys))

-- an instruction whose own location is l gives l its own value
pub own_given : (B : Program) (c : List ℕ) (l : ℕ) (i : Instruction) → own i ≡ l → given B c l i ≡ gets i ∷ []
unfolding given
own_given B c l (Update k v) e = rw (eq-eqb k l e)
own_given B c l (Release x) e = rw (eq-eqb x l e)

-- ---- the list

pub take_min : (list : List ℕ) (n k : ℕ) → n ≡ min k (length list) → take n list ≡ take k list
take_min list n k e = split (leb k (length list)) refl
  where
    split : (b : Bool) → leb k (length list) ≡ b → take n list ≡ take k list
    split true h = let g : n ≡ k = omega (arith, leb-true) in ap (λ (m : ℕ). take m list) g
    split false h = take_all n list (omega (arith, leb-false)) ∙ sym (take_all k list (omega (arith, leb-false)))

pub drop_min : (list : List ℕ) (n k : ℕ) → n ≡ min k (length list) → drop n list ≡ drop k list
drop_min list n k e = split (leb k (length list)) refl
  where
    split : (b : Bool) → leb k (length list) ≡ b → drop n list ≡ drop k list
    split true h = let g : n ≡ k = omega (arith, leb-true) in ap (λ (m : ℕ). drop m list) g
    split false h = drop_of_length-le list {i = n} (omega (arith, leb-false)) ∙ sym (drop_of_length-le list {i = k} (omega (arith, leb-false)))

-- ---- a list of instructions that is gone over: those from place j on are left

pub left_next : (list : List ℕ) (j : ℕ) → j < length list → decoded (drop j list) ≡ decode_of (get_or list j 0) ∷ decoded (drop (j + 1) list)
left_next list j h = rw (drop-cons list j 0 h, add-one)

pub left_none : (list : List ℕ) (j : ℕ) → length list ≤ j → decoded (drop j list) ≡ []
left_none list j h = rw (drop_of_length-le list {i = j} h)
