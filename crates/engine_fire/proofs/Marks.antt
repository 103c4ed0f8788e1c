-- Marks put in one by one are the marks joined where the list has the location.
use mathlib.Core.Path.{◌≡◌, refl, sym, ap, ◌∙◌}
use mathlib.Core.Bool.{Bool, true, false, ◌||◌, or-true, or-false}
use mathlib.Core.List.{List, [], ◌∷◌}
use Prim.Native.Nat.{ℕ, ◌<◌}
use native.Mathlib.Omega.{arith}
use borrow.Author.Tests.{eqb-true, eqb-false}
use lib.Bits.{bit_or}
use lib.Dec.{eqb}
use lib.ListN.{length, get_or, length-set}
use lib.Seq.{get_or-set_same, get_or-set_other}
use Rattle.text.specs.Words.{has}
use Rattle.engine_term.specs.Marks.{mark_one, marked, mark, marked_where}
use Rattle.engine_term.proofs.Marking.{length_marked}
use Rattle.engine_release.proofs.ByPlace.{each_is}
use Rattle.engine_fire.proofs.Fires.{mark_mark}

mark_one_at : (bit l : ℕ) (m : List ℕ) (k : ℕ) → k < length m → get_or (mark_one bit l m) k 0 ≡ mark bit (eqb l k) (get_or m k 0)
mark_one_at bit l m k h = go (eqb l k) refl
  where
    go : (b : Bool) → eqb l k ≡ b → get_or (mark_one bit l m) k 0 ≡ mark bit b (get_or m k 0)
    go true e = rw (eqb-true l k e) (get_or-set_same m k (bit_or (get_or m k 0) bit) 0 h)
    go false e = get_or-set_other m l k (bit_or (get_or m l 0) bit) 0 (λ q. eqb-false l k e (sym q))

marked_at : (bit : ℕ) (ls m : List ℕ) (k : ℕ) → k < length m → get_or (marked bit ls m) k 0 ≡ mark bit (has ls k) (get_or m k 0)
unfolding marked
marked_at bit [] m k h = refl
marked_at bit (l ∷ ls) m k h =
    marked_at bit ls (mark_one bit l m) k (omega (arith, length-set m l (bit_or (get_or m l 0) bit)))
    ∙ ap (mark bit (has ls k)) (mark_one_at bit l m k h)
    ∙ mark_mark bit (has ls k) (eqb l k) (get_or m k 0)
    ∙ ap (λ (b : Bool). mark bit b (get_or m k 0)) (turned (has ls k) (eqb l k))
  where
    turned : (a b : Bool) → a || b ≡ b || a
    turned true b = sym (or-true b)
    turned false b = sym (or-false b)

pub marked_is_where : (bit : ℕ) (ls m : List ℕ) → marked bit ls m ≡ marked_where bit (has ls) m
marked_is_where bit ls m = each_is (λ l v. mark bit (has ls l) v) m (marked bit ls m) (length_marked bit ls m) (marked_at bit ls m)
