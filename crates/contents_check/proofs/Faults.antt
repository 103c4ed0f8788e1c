-- What the code tests of one location is what refusal 8 says of it.
use Rattle.std.specs.Prelude.{if◌then◌else◌}
use mathlib.Core.Path.{◌≡◌}
use mathlib.Core.Bool.{Bool, true, false, ◌&&◌, ◌||◌, not}
use mathlib.Core.List.{List}
use Prim.Native.Nat.{ℕ, ◌<◌, ◌≤◌}
use borrow.Author.Tests.{lt-ltb, le-ltb, ne_eqb}
use lib.Dec.{eqb, ltb, leb}
use lib.ListN.{get_or}
use Rattle.book.specs.declared.Function.{Function}
use Rattle.book.specs.Book.{Program, true_element, boolean, relation, dynamic, default, arguments, place}
use Rattle.book.specs.Contents.{some_on_roll, all_permanent, bad_value}

module _ (B : Program) (c : List ℕ) (f : Function) (l i v : ℕ) (rel bool fine : Bool)
    (here : place B l ≡ record { function = f; index = i }) (v_is : v ≡ get_or c l 0) (rel_is : rel ≡ relation f) (Bool_is : bool ≡ boolean v)
    (fine_is : fine ≡ (dynamic f || eqb v (default f) || all_permanent B.P (arguments B.E f.arity i) && ltb v B.P)) where
  abbrev lawful : Bool
  lawful = ltb v B.E && (not rel || bool) && fine

  -- a location of Reserve is at fault exactly if the code's test says so
  pub own_cell : l < B.E → not (lawful && (not (eqb v true_element) || leb B.P l)) ≡ bad_value B c l
  unfolding bad_value
  own_cell h = rw (here, fine_is, Bool_is, rel_is, v_is, lt-ltb l B.E h)

  -- a location of another function is at fault exactly if the code's test says so
  pub far_cell :
      (d : ℕ) (roll args : Bool) → d ≡ default f → roll ≡ (ltb v B.E && eqb (get_or c v 0) true_element) →
      args ≡ some_on_roll B c (arguments B.E f.arity i) → B.E ≤ l → not (lawful && not (roll || not (eqb v d) && args)) ≡ bad_value B c l
  unfolding bad_value
  far_cell d roll args d_is roll_is args_is h =
      rw (here, roll_is, args_is, fine_is, Bool_is, rel_is, d_is, v_is, le-ltb l B.E h)

-- a location at its default, if that is an element not on the roll, is not at fault
pub at_rest :
    (B : Program) (c : List ℕ) (l : ℕ) (f : Function) → (place B l).function ≡ f → get_or c l 0 ≡ default f → default f < B.E →
    (get_or c (default f) 0 ≡ true_element → ⊥) → bad_value B c l ≡ false
unfolding bad_value
at_rest B c l f here held low off = rw (here, held) (go (relation f) (dynamic f) (ltb l B.E) low off)
  where
    go :
        (r dyn own : Bool) → (if r then 1 else 0) < B.E → (get_or c (if r then 1 else 0) 0 ≡ true_element → ⊥) →
        not
        (ltb (if r then 1 else 0) B.E
        && (not r || boolean (if r then 1 else 0))
        && (dyn || eqb (if r then 1 else 0) (if r then 1 else 0) || all_permanent B.P (arguments B.E f.arity (place B l).index) && ltb (if r then 1 else 0) B.P)
        && (if own then not (eqb (if r then 1 else 0) true_element) || leb B.P l
        else
        not
        (ltb (if r then 1 else 0) B.E && eqb (get_or c (if r then 1 else 0) 0) true_element
        || not (eqb (if r then 1 else 0) (if r then 1 else 0)) && some_on_roll B c (arguments B.E f.arity (place B l).index))))
        ≡ false
    go true true true h k = rw (lt-ltb 1 B.E h)
    go true true false h k = rw (lt-ltb 1 B.E h, ne_eqb (get_or c 1 0) 2 k)
    go true false true h k = rw (lt-ltb 1 B.E h)
    go true false false h k = rw (lt-ltb 1 B.E h, ne_eqb (get_or c 1 0) 2 k)
    go false true true h k = rw (lt-ltb 0 B.E h)
    go false true false h k = rw (lt-ltb 0 B.E h, ne_eqb (get_or c 0 0) 2 k)
    go false false true h k = rw (lt-ltb 0 B.E h)
    go false false false h k = rw (lt-ltb 0 B.E h, ne_eqb (get_or c 0 0) 2 k)
