-- Laws of marks made while reading: a computation and its marks run as its parts run, one after the other.
use Rattle.std.specs.Prelude.{if◌then◌else◌}
use mathlib.Core.Path.{◌≡◌, refl, ap, sym, ◌∙◌}
use mathlib.Core.Bool.{Bool, true, false}
use mathlib.Core.List.{List, [], ◌∷◌, ◌++◌}
use Prim.Native.Nat.{ℕ}
use lib.Bits.{bit_or}
use lib.ListN.{length, get_or, length-set}
use Rattle.book.specs.Book.{Program, dynamic_at}
use Rattle.engine.specs.Reader.{Reader, done, read, value_in, locations_read, ◌>>=◌}
use Rattle.engine.specs.Move.{dynamic_among}
use Rattle.engine.proofs.Reader.{value_bind, reads_bind}
use Rattle.engine_term.specs.Marks.{mark_one, marked, marked_if_dynamic, Placed, Runs}

pub dynamic_append : (B : Program) (ls ks : List ℕ) → dynamic_among B (ls ++ ks) ≡ dynamic_among B ls ++ dynamic_among B ks
unfolding dynamic_among
dynamic_append B [] ks = refl
dynamic_append B (l ∷ ls) ks = go (dynamic_at B l) (dynamic_append B ls ks)
  where
    go : (b : Bool) → dynamic_among B (ls ++ ks) ≡ dynamic_among B ls ++ dynamic_among B ks
        → (if b then l ∷ dynamic_among B (ls ++ ks) else dynamic_among B (ls ++ ks)) ≡ (if b then l ∷ dynamic_among B ls else dynamic_among B ls) ++ dynamic_among B ks
    go true e = ap (λ (s : List ℕ). l ∷ s) e
    go false e = e

pub marked_append : (bit : ℕ) (xs ys m : List ℕ) → marked bit (xs ++ ys) m ≡ marked bit ys (marked bit xs m)
unfolding marked
marked_append bit [] ys m = refl
marked_append bit (x ∷ xs) ys m = marked_append bit xs ys (mark_one bit x m)

-- marks of one list and then of another are the marks of both lists together
pub marked_on : (bit : ℕ) (xs ys m n o : List ℕ) → n ≡ marked bit xs m → o ≡ marked bit ys n → o ≡ marked bit (xs ++ ys) m
marked_on bit xs ys m n o p q = q ∙ ap (marked bit ys) p ∙ sym (marked_append bit xs ys m)

pub length_marked : (bit : ℕ) (ls m : List ℕ) → length (marked bit ls m) ≡ length m
unfolding marked
length_marked bit [] m = refl
length_marked bit (l ∷ ls) m = length_marked bit ls (mark_one bit l m) ∙ length-set m l (bit_or (get_or m l 0) bit)

-- marks of a list with one location more
pub marked_noted : (B : Program) (bit l : ℕ) (ls m : List ℕ) → marked bit (dynamic_among B (l ∷ ls)) m ≡ marked bit (dynamic_among B ls) (marked_if_dynamic B bit l m)
unfolding marked dynamic_among
marked_noted B bit l ls m = go (dynamic_at B l)
  where
    go : (b : Bool) → marked bit (if b then l ∷ dynamic_among B ls else dynamic_among B ls) m ≡ marked bit (dynamic_among B ls) (if b then mark_one bit l m else m)
    go true = refl
    go false = refl

module _ (B : Program) (c : List ℕ) (bit : ℕ) where
  pub runs_done : {A : Type 0} (a : A) (m : List ℕ) → Runs B c bit (done a) a m m
  unfolding value_in locations_read dynamic_among marked
  runs_done a m = record { value = λ p. refl; marks = λ p. refl }

  -- what holds of a program that the engine can rely on may be used
  pub runs_given : {A : Type 0} (w : Reader A) (a : A) (m n : List ℕ) → (Placed B → Runs B c bit w a m n) → Runs B c bit w a m n
  runs_given w a m n h = record { value = λ p. (h p).value p; marks = λ p. (h p).marks p }

  pub runs_value : {A : Type 0} (a b : A) (m : List ℕ) → a ≡ b → Runs B c bit (done b) a m m
  runs_value a b m e = rw e (runs_done b m)

  pub runs_read : (l v : ℕ) (m n : List ℕ) → (Placed B → v ≡ get_or c l 0) → (Placed B → n ≡ marked_if_dynamic B bit l m) → Runs B c bit (read l) v m n
  unfolding value_in locations_read marked dynamic_among
  runs_read l v m n e h = record { value = e; marks = λ p. h p ∙ sym (marked_noted B bit l [] m) }

  pub runs_bind : {A C : Type 0} (w : Reader A) (f : A → Reader C) (a : A) (z : C) (m n o : List ℕ)
      → Runs B c bit w a m n → Runs B c bit (f a) z n o → Runs B c bit (w >>= f) z m o
  runs_bind w f a z m n o h k =
      record {
        value = λ p. k.value p ∙ rw (h.value p) (sym (value_bind c w f));
        marks = λ p. k.marks p ∙ rw (h.marks p, h.value p, reads_bind c w f, dynamic_append B (locations_read c w) (locations_read c (f (value_in c w)))) (sym (marked_append bit (dynamic_among B (locations_read c w)) (dynamic_among B (locations_read c (f (value_in c w)))) m));
      }

  -- a computation may be put in another, equal form
  pub runs_as : {A : Type 0} (v w : Reader A) (a : A) (m n : List ℕ) → v ≡ w → Runs B c bit w a m n → Runs B c bit v a m n
  runs_as v w a m n e h = rw e h
