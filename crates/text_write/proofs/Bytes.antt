-- Laws of bytes put into a text: one after the other, apart from each other, and where they fit.
use mathlib.Core.Path.{◌≡◌, refl, sym, ◌∙◌}
use mathlib.Core.List.{List, [], ◌∷◌, ◌++◌, append_assoc}
use Prim.Native.Nat.{ℕ, suc, ◌+◌, ◌≤◌, ◌<◌}
use native.Mathlib.Omega.{arith}
use lib.ListN.{length, take, drop, set}
use lib.Seq.{length-sets, sets-eq, set_comm, take-set-le, drop-set-lt}
use Rattle.text.specs.declared.Line.{Line}
use Rattle.text.specs.Text.{newline, field_bytes, written}
use Rattle.text_write.specs.Bytes.{put_bytes}

-- ---- bytes put side by side

pub put_none : (i : ℕ) (m : List ℕ) → put_bytes i [] m ≡ m
unfolding put_bytes
put_none i m = refl

put_one : (i x : ℕ) (m : List ℕ) → put_bytes i (x ∷ []) m ≡ set m i x
unfolding put_bytes
put_one i x m = refl

-- bytes put right after others are put together with them
pub put_append : (i : ℕ) (a b m : List ℕ) → put_bytes i (a ++ b) m ≡ put_bytes (i + length a) b (put_bytes i a m)
unfolding put_bytes
put_append i [] b m = let e : i + 0 ≡ i = omega arith in rw e
put_append i (x ∷ a) b m = let e : i + suc (length a) ≡ suc i + length a = omega arith in rw e (put_append (suc i) a b (set m i x))

-- bytes put from j on, where others put from i on end, are put together with them
pub put_then : (i j : ℕ) (a b m : List ℕ) → i + length a ≡ j → put_bytes i (a ++ b) m ≡ put_bytes j b (put_bytes i a m)
put_then i j a b m e = rw (← e) (put_append i a b m)

pub length_put : (i : ℕ) (bs m : List ℕ) → length (put_bytes i bs m) ≡ length m
unfolding put_bytes
length_put i bs m = length-sets m i bs

put_set : (i j : ℕ) (x : ℕ) (bs m : List ℕ) → j < i → put_bytes i bs (set m j x) ≡ set (put_bytes i bs m) j x
unfolding put_bytes
put_set i j x [] m h = refl
put_set i j x (b ∷ bs) m h =
    let n : j ≡ i → ⊥ = λ e. omega arith in rw (set_comm m j i x b n) (put_set (suc i) j x bs (set m i b) (omega arith))

-- six stores side by side
pub put_six :
    (at k a b c d e f : ℕ) (m : List ℕ) →
    set (set (set (set (set (set m (at + k) a) (at + (k + 1)) b) (at + (k + 2)) c) (at + (k + 3)) d) (at + (k + 4)) e) (at + (k + 5)) f
    ≡ put_bytes (at + k) (a ∷ b ∷ c ∷ d ∷ e ∷ f ∷ []) m
unfolding put_bytes
put_six at k a b c d e f m =
    let e1 : at + (k + 1) ≡ suc (at + k) = omega arith in
    let e2 : at + (k + 2) ≡ suc (suc (at + k)) = omega arith in
    let e3 : at + (k + 3) ≡ suc (suc (suc (at + k))) = omega arith in
    let e4 : at + (k + 4) ≡ suc (suc (suc (suc (at + k)))) = omega arith in
    let e5 : at + (k + 5) ≡ suc (suc (suc (suc (suc (at + k))))) = omega arith in
    rw (e1, e2, e3, e4, e5)

-- a line is its four fields and its last byte, put side by side
pub put_line :
    (at : ℕ) (l : Line) (m : List ℕ) →
    set (put_bytes (at + 18) (field_bytes l.d) (put_bytes (at + 12) (field_bytes l.c) (put_bytes (at + 6) (field_bytes l.b) (put_bytes (at + 0) (field_bytes l.a) m)))) (at + 24) newline
    ≡ put_bytes at (written l) m
put_line at l m =
    let z : at + 0 ≡ at = omega arith in
    let ends = newline ∷ [] in
    let m1 = put_bytes at (field_bytes l.a) m in
    let m2 = put_bytes (at + 6) (field_bytes l.b) m1 in
    let m3 = put_bytes (at + 12) (field_bytes l.c) m2 in
    let m4 = put_bytes (at + 18) (field_bytes l.d) m3 in
    let p1 = put_then at (at + 6) (field_bytes l.a) (field_bytes l.b ++ (field_bytes l.c ++ (field_bytes l.d ++ ends))) m (omega arith) in
    let p2 = put_then (at + 6) (at + 12) (field_bytes l.b) (field_bytes l.c ++ (field_bytes l.d ++ ends)) m1 (omega arith) in
    let p3 = put_then (at + 12) (at + 18) (field_bytes l.c) (field_bytes l.d ++ ends) m2 (omega arith) in
    let p4 = put_then (at + 18) (at + 24) (field_bytes l.d) ends m3 (omega arith) in
    rw z (sym (p1 ∙ p2 ∙ p3 ∙ p4 ∙ put_one (at + 24) newline m4))

-- which of two parts that lie apart is put first does not matter
pub put_apart : (i j : ℕ) (a b m : List ℕ) → j + length b ≤ i → put_bytes j b (put_bytes i a m) ≡ put_bytes i a (put_bytes j b m)
unfolding put_bytes
put_apart i j a [] m h = refl
put_apart i j a (x ∷ b) m h =
    rw (← put_set i j x a m (omega arith)) (put_apart i (suc j) a b (set m j x) (omega arith))

-- ---- the text before the bytes put, there, and after them

-- nothing before the index changes
pub take_put : (n i : ℕ) (bs m : List ℕ) → n ≤ i → take n (put_bytes i bs m) ≡ take n m
unfolding put_bytes
take_put n i [] m h = refl
take_put n i (b ∷ bs) m h = take_put n (suc i) bs (set m i b) (omega arith) ∙ take-set-le n m i b h

-- nothing past the last byte put changes
pub drop_put : (n i : ℕ) (bs m : List ℕ) → i + length bs ≤ n → drop n (put_bytes i bs m) ≡ drop n m
unfolding put_bytes
drop_put n i [] m h = refl
drop_put n i (b ∷ bs) m h = drop_put n (suc i) bs (set m i b) (omega arith) ∙ drop-set-lt n m i b (omega arith)

-- bytes that fit stand there whole
pub put_fits : (i : ℕ) (bs m : List ℕ) → i + length bs ≤ length m → put_bytes i bs m ≡ take i m ++ (bs ++ drop (i + length bs) m)
unfolding put_bytes
put_fits i bs m h = sets-eq bs m i h ∙ append_assoc (take i m) bs (drop (i + length bs) m)

pub put_front : (bs m : List ℕ) → length bs ≤ length m → put_bytes 0 bs m ≡ bs ++ drop (length bs) m
put_front bs m h =
    let e : 0 + length bs ≡ length bs = omega arith in
    let l : 0 + length bs ≤ length m = omega arith in
    rw e at (put_fits 0 bs m l)

-- ---- lines

pub length_written : (l : Line) → length (written l) ≡ 25
length_written l = refl
