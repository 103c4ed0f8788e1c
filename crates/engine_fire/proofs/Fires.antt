-- Firing: clearing the released labels one by one and then putting each instruction's own value is what the definitions say of each location.
use Rattle.std.specs.Prelude.{None}
use Rattle.std.specs.Prelude.{if◌then◌else◌}
use mathlib.Core.Path.{◌≡◌, refl, sym, ap, ap₂, ◌∙◌}
use mathlib.Core.Bool.{Bool, true, false, ◌&&◌, ◌||◌, not, or-true, or-false}
use mathlib.Core.List.{List, [], ◌∷◌, ◌++◌}
use Prim.Native.Nat.{ℕ, ◌+◌, ◌*◌, ◌/◌, ◌%◌, ◌<◌, ◌≤◌, min, max}
use native.Mathlib.Omega.{arith}
use borrow.Author.Tests.{eqb-true, ltb-true, ltb-false, eq-eqb, ne_eqb, lt-ltb, le-ltb, not-false}
use lib.Dec.{eqb, ltb}
use lib.Bits.{bit_or, or_step, or_self}
use lib.Arith.{bin_ind}
use lib.ListN.{length, get_or, set, length-set}
use lib.Seq.{get_or-set_other, ext_get_or}
use Rattle.text.specs.Words.{least}
use Rattle.text.proofs.Words.{or_no, least_none, set_at}
use Rattle.book.specs.Book.{Program, L, true_element, default_at}
use Rattle.book.specs.Sum.{Strided}
use Rattle.book_parts.proofs.Places.{place_past}
use Rattle.engine.specs.declared.Instruction.{Instruction}
use Rattle.engine.specs.declared.Instruction.TheVariants.{Update, Release}
use Rattle.engine.specs.Move.{given, values, updates, values_at, released, other, two_values, set_to_label, clashes, new_value, fire, is_some, writes, clears}
use Rattle.engine.proofs.Values.{length_updates, updates_at, updates_past, fire_inside}
use Rattle.engine.proofs.Moves.{fire_length}
use Rattle.engine_fire.specs.Outcome.{write_marked}
use Rattle.engine_instruction.specs.Given.{own, gets, any, clears_at}
use Rattle.engine_release.specs.Steps.{value_cleared, instruction_cleared, instruction_marked, all_cleared, all_marked}
use Rattle.engine_fire.specs.Steps.{puts, put_marked}
use Rattle.engine_instruction.proofs.Laws.{and_none, other_append, own_given}
use Rattle.engine_release.proofs.ByPlace.{length_each, getD_each, each_is}
use Rattle.engine_instruction.proofs.Strides.{clears_strided}
use Rattle.engine_term.specs.Marks.{mark}

-- ---- marks: a bit that is there stays

or_again : (a b : ℕ) → bit_or (bit_or a b) b ≡ bit_or a b
or_again =
    bin_ind (λ (a : ℕ). (b : ℕ) → bit_or (bit_or a b) b ≡ bit_or a b) (λ b. or_self b)
    (λ a ih b.
    or_step (bit_or a b) b
    ∙ ap₂ (λ (x y : ℕ). x * 2 + y) (ap (λ (x : ℕ). bit_or x (b / 2)) (half a b) ∙ ih (b / 2)) (odd a b)
    ∙ sym (or_step a b))
  where
    half : (a b : ℕ) → bit_or a b / 2 ≡ bit_or (a / 2) (b / 2)
    half a b = omega (arith, or_step a b)

    odd : (a b : ℕ) → max (bit_or a b % 2) (b % 2) ≡ max (a % 2) (b % 2)
    odd a b = omega (arith, or_step a b)

pub mark_mark : (bit : ℕ) (s t : Bool) (m : ℕ) → mark bit s (mark bit t m) ≡ mark bit (s || t) m
mark_mark bit true true m = or_again m bit
mark_mark bit true false m = refl
mark_mark bit false t m = refl

-- ---- one location, l; v is what it holds

module _ (B : Program) (l : ℕ) where
  abbrev pub rest : ℕ
  rest = default_at B l

  abbrev clear_of_value : Instruction → ℕ → ℕ
  clear_of_value (Update k w) v = v
  clear_of_value (Release x) v = value_cleared B x l v

  -- what clearing by these instructions leaves at l
  unfoldable pub clear_by : List Instruction → ℕ → ℕ
  clear_by [] v = v
  clear_by (i ∷ is) v = clear_by is (clear_of_value i v)

  -- what putting the instructions' own values leaves at l
  unfoldable put_by : List Instruction → ℕ → ℕ
  put_by [] v = v
  put_by (i ∷ is) v = put_by is (if eqb (own i) l then gets i else v)

  abbrev pub about : Instruction → Bool
  about i = eqb (own i) l

  -- the instruction is a release that clears l
  abbrev pub instruction_clears : ℕ → Instruction → Bool
  instruction_clears v (Update k w) = false
  instruction_clears v (Release x) = clears_at B l v x

  abbrev mark_of : ℕ → Instruction → ℕ → ℕ → ℕ
  mark_of bit i v m = mark bit (instruction_clears v i) m

  unfoldable mark_by : ℕ → List Instruction → ℕ → ℕ → ℕ
  mark_by bit [] v m = m
  mark_by bit (i ∷ is) v m = mark_by bit is (clear_of_value i v) (mark_of bit i v m)

  -- past the last location nothing is cleared
  clears_past : L B ≤ l → (v x : ℕ) → clears_at B l v x ≡ false
  clears_past h v x = rw (place_past B l h)

  none_clears_past : L B ≤ l → (v : ℕ) (is : List Instruction) → any (instruction_clears v) is ≡ false
  unfolding any
  none_clears_past h v [] = refl
  none_clears_past h v (Update k w ∷ is) = none_clears_past h v is
  none_clears_past h v (Release x ∷ is) = rw (clears_past h v x) (none_clears_past h v is)

  past_clear : L B ≤ l → (is : List Instruction) (v : ℕ) → clear_by is v ≡ v
  unfolding clear_by
  past_clear h [] v = refl
  past_clear h (Update k w ∷ is) v = past_clear h is v
  past_clear h (Release x ∷ is) v = rw (clears_past h v x) (past_clear h is v)

  pub cleared_true : (x v : ℕ) → clears_at B l v x ≡ true → value_cleared B x l v ≡ rest
  cleared_true x v e = rw e

  pub cleared_false : (x v : ℕ) → clears_at B l v x ≡ false → value_cleared B x l v ≡ v
  cleared_false x v e = rw e

  -- the default stays the default
  clear_rest : (i : Instruction) → clear_of_value i rest ≡ rest
  clear_rest (Update k w) = refl
  clear_rest (Release x) = step (clears_at B l rest x) refl
    where
      step : (b : Bool) → clears_at B l rest x ≡ b → value_cleared B x l rest ≡ rest
      step true e = cleared_true x rest e
      step false e = cleared_false x rest e

  pub clear_by_rest : (is : List Instruction) → clear_by is rest ≡ rest
  unfolding clear_by
  clear_by_rest [] = refl
  clear_by_rest (i ∷ is) = ap (clear_by is) (clear_rest i) ∙ clear_by_rest is

  put_none : (is : List Instruction) (v : ℕ) → any about is ≡ false → put_by is v ≡ v
  unfolding put_by any
  put_none [] v h = refl
  put_none (i ∷ is) v h = let n = or_no (about i) (any about is) h in rw n.0 (put_none is v n.1)

  -- ---- the mark of the location

  mark_by_again : (bit : ℕ) (is : List Instruction) (v m : ℕ) → mark_by bit is v (mark bit true m) ≡ mark bit true m
  unfolding mark_by
  mark_by_again bit [] v m = refl
  mark_by_again bit (i ∷ is) v m =
      ap (mark_by bit is (clear_of_value i v)) (mark_mark bit (instruction_clears v i) true m ∙ ap (λ (b : Bool). mark bit b m) (or-true (instruction_clears v i)))
      ∙ mark_by_again bit is (clear_of_value i v) m

  mark_by_is : (bit : ℕ) (is : List Instruction) (v m : ℕ) → mark_by bit is v m ≡ mark bit (any (instruction_clears v) is) m
  unfolding mark_by any
  mark_by_is bit [] v m = refl
  mark_by_is bit (i ∷ is) v m = step i (mark_by_is bit is v m)
    where
      step : (j : Instruction) → mark_by bit is v m ≡ mark bit (any (instruction_clears v) is) m
          → mark_by bit is (clear_of_value j v) (mark_of bit j v m) ≡ mark bit (instruction_clears v j || any (instruction_clears v) is) m
      step (Update k w) r = r
      step (Release x) r = look (clears_at B l v x) refl
        where
          look : (b : Bool) → clears_at B l v x ≡ b → mark_by bit is (value_cleared B x l v) (mark bit (clears_at B l v x) m) ≡ mark bit (clears_at B l v x || any (instruction_clears v) is) m
          look true e = rw e (mark_by_again bit is rest m)
          look false e =
              ap₂ (mark_by bit is) (cleared_false x v e) (ap (λ (b : Bool). mark bit b m) e) ∙ r ∙ ap (λ (b : Bool). mark bit (b || any (instruction_clears v) is) m) (sym e)

  -- ---- what the location is given in the contents c

  module _ (c : List ℕ) where
    abbrev held : ℕ
    held = get_or c l 0

    given_update : (k w : ℕ) → eqb k l ≡ false → given B c l (Update k w) ≡ []
    unfolding given
    given_update k w h = rw h

    given_release : Strided B → (x : ℕ) (b : Bool) → eqb x l ≡ false → clears_at B l held x ≡ b → given B c l (Release x) ≡ (if b then rest ∷ [] else [])
    unfolding given
    given_release ok x b h e = rw (h, sym (clears_strided B ok l held x) ∙ e)

    -- if no instruction is about the location, clearing leaves the value that it is given
    clear_latest : Strided B → (is : List Instruction) → any about is ≡ false → clear_by is held ≡ new_value held (values B c l is)
    unfolding clear_by any values
    clear_latest ok [] h = refl
    clear_latest ok (i ∷ is) h = let n = or_no (about i) (any about is) h in step i n.0 (clear_latest ok is n.1)
      where
        step : (j : Instruction) → about j ≡ false → clear_by is held ≡ new_value held (values B c l is)
            → clear_by is (clear_of_value j held) ≡ new_value held (given B c l j ++ values B c l is)
        step (Update k w) f r = rw (given_update k w f) r
        step (Release x) f r = look (clears_at B l held x) refl
          where
            look : (b : Bool) → clears_at B l held x ≡ b → clear_by is (value_cleared B x l held) ≡ new_value held (given B c l (Release x) ++ values B c l is)
            look true e = ap (clear_by is) (cleared_true x held e) ∙ clear_by_rest is ∙ rw (given_release ok x true f e)
            look false e = ap (clear_by is) (cleared_false x held e) ∙ r ∙ rw (given_release ok x false f e)

    pub own_is : (i : Instruction) (w : ℕ) → about i ≡ true → other w (given B c l i) ≡ false → gets i ≡ w
    unfolding other
    own_is i w f k =
        let g : not (eqb (gets i) w) || false ≡ false = rw (own_given B c l i (eqb-true (own i) l f)) at k in
        eqb-true (gets i) w (not-false (eqb (gets i) w) (sym (or-false (not (eqb (gets i) w))) ∙ g))

    pub both : (i : Instruction) (is : List Instruction) (w : ℕ) → other w (values B c l (i ∷ is)) ≡ false → (other w (given B c l i) ≡ false) × (other w (values B c l is) ≡ false)
    unfolding values
    both i is w h =
        or_no (other w (given B c l i)) (other w (values B c l is)) (sym (other_append w (given B c l i) (values B c l is)) ∙ h)

    -- if every value that the location is given is w, putting leaves w
    put_same : (is : List Instruction) (w : ℕ) → other w (values B c l is) ≡ false → put_by is w ≡ w
    unfolding put_by
    put_same [] w h = refl
    put_same (i ∷ is) w h =
        let g = both i is w h in
        ap (put_by is) (step (about i) refl g.0) ∙ put_same is w g.1
      where
        step : (b : Bool) → about i ≡ b → other w (given B c l i) ≡ false → (if b then gets i else w) ≡ w
        step true f k = own_is i w f k
        step false f k = refl

    put_some : (is : List Instruction) (w u : ℕ) → other w (values B c l is) ≡ false → any about is ≡ true → put_by is u ≡ w
    unfolding put_by any
    put_some [] w u h e = let z : ◌≡◌ {A = ℕ} 0 1 = cc in absurd (omega arith)
    put_some (i ∷ is) w u h e =
        let g = both i is w h in
        step (about i) refl e g.0 g.1 (λ n. put_some is w u g.1 n)
      where
        step : (b : Bool) → about i ≡ b → b || any about is ≡ true → other w (given B c l i) ≡ false → other w (values B c l is) ≡ false
            → (any about is ≡ true → put_by is u ≡ w) → put_by is (if b then gets i else u) ≡ w
        step true f k m n r = ap (put_by is) (own_is i w f m) ∙ put_same is w n
        step false f k m n r = r k

    -- ---- whether the location is given a value at all

    some_append : (xs ys : List ℕ) → is_some (xs ++ ys) ≡ is_some xs || is_some ys
    some_append [] ys = refl
    some_append (x ∷ xs) ys = refl

    pub some_given : Strided B → (i : Instruction) → is_some (given B c l i) ≡ about i || instruction_clears held i
    unfolding given
    some_given ok (Update k w) = step (eqb k l)
      where
        step : (b : Bool) → is_some (if b then w ∷ [] else []) ≡ b || false
        step true = refl
        step false = refl
    some_given ok (Release x) = rw (clears_strided B ok l held x) (step (eqb x l) (clears B l held x))
      where
        step : (b t : Bool) → is_some (if b then true_element ∷ [] else if t then rest ∷ [] else []) ≡ b || t
        step true t = refl
        step false true = refl
        step false false = refl

    pub some_values : Strided B → (is : List Instruction) → is_some (values B c l is) ≡ any about is || any (instruction_clears held) is
    unfolding values any
    some_values ok [] = refl
    some_values ok (i ∷ is) =
        some_append (given B c l i) (values B c l is)
        ∙ ap₂ ◌||◌ (some_given ok i) (some_values ok is)
        ∙ swap (about i) (instruction_clears held i) (any about is) (any (instruction_clears held) is)
      where
        swap : (a b c d : Bool) → (a || b) || (c || d) ≡ (a || c) || (b || d)
        swap true b c d = refl
        swap false true c d = sym (or-true c)
        swap false false c d = refl

    -- ---- the contents at the location

    after_is : Strided B → (is : List Instruction) → two_values (values B c l is) ≡ false → put_by is (clear_by is held) ≡ new_value held (values B c l is)
    unfolding two_values other
    after_is ok is m = step (any about is) refl
      where
        one : (vs : List ℕ) → values B c l is ≡ vs → two_values vs ≡ false → any about is ≡ true → put_by is (clear_by is held) ≡ new_value held vs
        one [] e n f =
            let z : is_some (values B c l is) ≡ true = some_values ok is ∙ rw f in
            let y : ◌≡◌ {A = ℕ} 0 1 = cc (sym (ap is_some e) ∙ z) in
            absurd (omega arith)
        one (w ∷ us) e n f = put_some is w (clear_by is held) (ap (other w) e ∙ rw (eq-eqb w w refl) n) f

        step : (b : Bool) → any about is ≡ b → put_by is (clear_by is held) ≡ new_value held (values B c l is)
        step true f = one (values B c l is) refl m f
        step false f = put_none is (clear_by is held) f ∙ clear_latest ok is f

-- ---- the whole tables

pub length_clear_of : (B : Program) (i : Instruction) (c : List ℕ) → length (instruction_cleared B i c) ≡ length c
length_clear_of B (Update k w) c = refl
length_clear_of B (Release x) c = length_each (value_cleared B x) 0 c

pub length_clears : (B : Program) (is : List Instruction) (c : List ℕ) → length (all_cleared B is c) ≡ length c
unfolding all_cleared
length_clears B [] c = refl
length_clears B (i ∷ is) c = length_clears B is (instruction_cleared B i c) ∙ length_clear_of B i c

pub length_put : (b : Bool) (c : List ℕ) (k v : ℕ) → length (if b then set c k v else c) ≡ length c
length_put true c k v = length-set c k v
length_put false c k v = refl

length_puts : (n : ℕ) (is : List Instruction) (c : List ℕ) → length (puts n is c) ≡ length c
unfolding puts
length_puts n [] c = refl
length_puts n (i ∷ is) c =
    length_puts n is (if ltb (own i) n then set c (own i) (gets i) else c) ∙ length_put (ltb (own i) n) c (own i) (gets i)

length_clear_marks_of : (bit : ℕ) (B : Program) (i : Instruction) (c ms : List ℕ) → length (instruction_marked bit B i c ms) ≡ length ms
length_clear_marks_of bit B (Update k w) c ms = refl
length_clear_marks_of bit B (Release x) c ms = length_each (λ (l m : ℕ). mark bit (ltb l (length c) && clears_at B l (get_or c l 0) x) m) 0 ms

length_clear_marks : (bit : ℕ) (B : Program) (is : List Instruction) (c ms : List ℕ) → length (all_marked bit B is c ms) ≡ length ms
unfolding all_marked
length_clear_marks bit B [] c ms = refl
length_clear_marks bit B (i ∷ is) c ms =
    length_clear_marks bit B is (instruction_cleared B i c) (instruction_marked bit B i c ms) ∙ length_clear_marks_of bit B i c ms

length_put_marks : (bit n : ℕ) (is : List Instruction) (ms : List ℕ) → length (put_marked bit n is ms) ≡ length ms
unfolding put_marked
length_put_marks bit n [] ms = refl
length_put_marks bit n (i ∷ is) ms = length_put_marks bit n is (set ms (own i) (mark bit (ltb (own i) n) (get_or ms (own i) 0))) ∙ simp length-set

pub clear_of_at : (B : Program) (i : Instruction) (c : List ℕ) (l : ℕ) → l < length c → get_or (instruction_cleared B i c) l 0 ≡ clear_of_value B l i (get_or c l 0)
clear_of_at B (Update k w) c l h = refl
clear_of_at B (Release x) c l h = getD_each (value_cleared B x) c l h

pub all_cleared_at : (B : Program) (is : List Instruction) (c : List ℕ) (l : ℕ) → l < length c → get_or (all_cleared B is c) l 0 ≡ clear_by B l is (get_or c l 0)
unfolding all_cleared clear_by
all_cleared_at B [] c l h = refl
all_cleared_at B (i ∷ is) c l h =
    all_cleared_at B is (instruction_cleared B i c) l (omega (arith, length_clear_of B i c)) ∙ ap (clear_by B l is) (clear_of_at B i c l h)

puts_at : (B : Program) (n : ℕ) (is : List Instruction) (c : List ℕ) (l : ℕ) → l < length c → l < n → get_or (puts n is c) l 0 ≡ put_by B l is (get_or c l 0)
unfolding puts put_by
puts_at B n [] c l h k = refl
puts_at B n (i ∷ is) c l h k =
    puts_at B n is (if ltb (own i) n then set c (own i) (gets i) else c) l (omega (arith, length_put (ltb (own i) n) c (own i) (gets i))) k
    ∙ ap (put_by B l is) (step (ltb (own i) n) refl)
  where
    step : (b : Bool) → ltb (own i) n ≡ b → get_or (if b then set c (own i) (gets i) else c) l 0 ≡ (if eqb (own i) l then gets i else get_or c l 0)
    step true e = set_at c (own i) (gets i) l h
    step false e = rw (ne_eqb (own i) l (λ o. omega (arith, ltb-false (own i) n e)))

-- past the book's last location nothing is put
puts_past : (n : ℕ) (is : List Instruction) (c : List ℕ) (l : ℕ) → n ≤ l → get_or (puts n is c) l 0 ≡ get_or c l 0
unfolding puts
puts_past n [] c l k = refl
puts_past n (i ∷ is) c l k = puts_past n is (if ltb (own i) n then set c (own i) (gets i) else c) l k ∙ step (ltb (own i) n) refl
  where
    step : (b : Bool) → ltb (own i) n ≡ b → get_or (if b then set c (own i) (gets i) else c) l 0 ≡ get_or c l 0
    step true e = get_or-set_other c (own i) l (gets i) 0 (λ o. omega (arith, ltb-true (own i) n e))
    step false e = refl

clear_marks_of_at :
    (bit : ℕ) (B : Program) (i : Instruction) (c ms : List ℕ) (l : ℕ) → l < length ms →
    get_or (instruction_marked bit B i c ms) l 0 ≡ mark bit (ltb l (length c) && instruction_clears B l (get_or c l 0) i) (get_or ms l 0)
clear_marks_of_at bit B (Update k w) c ms l h = rw (and_none (ltb l (length c)))
clear_marks_of_at bit B (Release x) c ms l h = getD_each (λ (l m : ℕ). mark bit (ltb l (length c) && clears_at B l (get_or c l 0) x) m) ms l h

clear_marks_at :
    (bit : ℕ) (B : Program) (is : List Instruction) (c ms : List ℕ) (l : ℕ) → l < length ms → l < length c →
    get_or (all_marked bit B is c ms) l 0 ≡ mark_by B l bit is (get_or c l 0) (get_or ms l 0)
unfolding all_marked mark_by
clear_marks_at bit B [] c ms l h k = refl
clear_marks_at bit B (i ∷ is) c ms l h k =
    clear_marks_at bit B is (instruction_cleared B i c) (instruction_marked bit B i c ms) l (omega (arith, length_clear_marks_of bit B i c ms))
    (omega (arith, length_clear_of B i c))
    ∙ ap₂ (mark_by B l bit is) (clear_of_at B i c l k) (clear_marks_of_at bit B i c ms l h ∙ rw (lt-ltb l (length c) k))

clear_marks_out :
    (bit : ℕ) (B : Program) (is : List Instruction) (c ms : List ℕ) (l : ℕ) → l < length ms → length c ≤ l →
    get_or (all_marked bit B is c ms) l 0 ≡ get_or ms l 0
unfolding all_marked
clear_marks_out bit B [] c ms l h k = refl
clear_marks_out bit B (i ∷ is) c ms l h k =
    clear_marks_out bit B is (instruction_cleared B i c) (instruction_marked bit B i c ms) l (omega (arith, length_clear_marks_of bit B i c ms))
    (omega (arith, length_clear_of B i c))
    ∙ clear_marks_of_at bit B i c ms l h
    ∙ rw (le-ltb l (length c) k)

put_marks_at :
    (bit n : ℕ) (is : List Instruction) (ms : List ℕ) (l : ℕ) → l < length ms →
    get_or (put_marked bit n is ms) l 0 ≡ mark bit (ltb l n && any (λ i. eqb (own i) l) is) (get_or ms l 0)
unfolding put_marked any
put_marks_at bit n [] ms l h = rw (and_none (ltb l n))
put_marks_at bit n (i ∷ is) ms l h =
    let k = own i in
    let v = mark bit (ltb k n) (get_or ms k 0) in
    put_marks_at bit n is (set ms k v) l (omega (arith, length-set ms k v))
    ∙ ap (mark bit (ltb l n && any (λ i. eqb (own i) l) is)) (set_at ms k v l h)
    ∙ step (eqb k l) refl (ltb l n) refl (any (λ i. eqb (own i) l) is)
  where
    step : (b : Bool) → eqb (own i) l ≡ b → (t : Bool) → ltb l n ≡ t → (a : Bool)
        → mark bit (t && a) (if b then mark bit (ltb (own i) n) (get_or ms (own i) 0) else get_or ms l 0) ≡ mark bit (t && (b || a)) (get_or ms l 0)
    step true e true f a = let g = eqb-true (own i) l e in rw (g, f) (mark_mark bit a true (get_or ms l 0) ∙ ap (λ (s : Bool). mark bit s (get_or ms l 0)) (or-true a))
    step true e false f a = let g = eqb-true (own i) l e in rw (g, f)
    step false e t f a = refl

-- ---- clearing and putting together

module _ (B : Program) (is : List Instruction) (c : List ℕ) where
  pub unclashed : least (clashes is (updates B c is)) (length (updates B c is)) ≡ None → (l : ℕ) → l < L B → two_values (values B c l is) ≡ false
  unfolding clashes
  unclashed h l k =
      let e = least_none (clashes is (updates B c is)) (length (updates B c is)) h l (omega (arith, length_updates B c is)) in
      rw (updates_at B c is l k) at (or_no (two_values (values_at (updates B c is) l)) (set_to_label (released is) l is) e).0

  -- the contents after a move that does not clash are what clearing and then putting leave
  pub fired_is : Strided B → least (clashes is (updates B c is)) (length (updates B c is)) ≡ None → puts (L B) is (all_cleared B is c) ≡ fire (updates B c is) c
  fired_is ok h =
      let n : length (puts (L B) is (all_cleared B is c)) ≡ length c = length_puts (L B) is (all_cleared B is c) ∙ length_clears B is c in
      ext_get_or 0 (puts (L B) is (all_cleared B is c)) (fire (updates B c is) c) (n ∙ sym (fire_length (updates B c is) c))
      (λ l k. let m : l < length c = omega arith in step l m (ltb l (L B)) refl ∙ sym (fire_inside (updates B c is) c l m))
    where
      step : (l : ℕ) → l < length c → (b : Bool) → ltb l (L B) ≡ b
          → get_or (puts (L B) is (all_cleared B is c)) l 0 ≡ new_value (get_or c l 0) (values_at (updates B c is) l)
      step l m true e =
          let i : l < L B = ltb-true l (L B) e in
          puts_at B (L B) is (all_cleared B is c) l (omega (arith, length_clears B is c)) i
          ∙ ap (put_by B l is) (all_cleared_at B is c l m)
          ∙ after_is B l c ok is (unclashed h l i)
          ∙ rw (updates_at B c is l i)
      step l m false e =
          let o : L B ≤ l = ltb-false l (L B) e in
          puts_past (L B) is (all_cleared B is c) l o
          ∙ all_cleared_at B is c l m
          ∙ past_clear B l o is (get_or c l 0)
          ∙ rw (updates_past B c is l o)

  -- the writer marks after a move that does not clash are what clearing and then putting leave
  abbrev n : ℕ
  n = min (L B) (length (all_cleared B is c))

  pub marked_is : Strided B → (bit : ℕ) (ms : List ℕ)
      → put_marked bit n is (all_marked bit B is c ms) ≡ write_marked bit (length c) (updates B c is) ms
  marked_is ok bit ms =
      each_is (λ (l m : ℕ). mark bit (ltb l (length c) && writes (updates B c is) l) m) ms (put_marked bit n is (all_marked bit B is c ms))
      (length_put_marks bit n is (all_marked bit B is c ms) ∙ length_clear_marks bit B is c ms)
      (λ l k. put_marks_at bit n is (all_marked bit B is c ms) l (omega (arith, length_clear_marks bit B is c ms))
      ∙ step l k (ltb l n) refl (ltb l (length c)) refl)
    where
      step : (l : ℕ) → l < length ms → (t : Bool) → ltb l n ≡ t → (u : Bool) → ltb l (length c) ≡ u
          → mark bit (t && any (about B l) is) (get_or (all_marked bit B is c ms) l 0) ≡ mark bit (u && writes (updates B c is) l) (get_or ms l 0)
      step l k true e true f =
          let h : l < L B = omega (arith, ltb-true l n e) in
          ap (mark bit (any (about B l) is)) (clear_marks_at bit B is c ms l k (ltb-true l (length c) f) ∙ mark_by_is B l bit is (get_or c l 0) (get_or ms l 0))
          ∙ mark_mark bit (any (about B l) is) (any (instruction_clears B l (get_or c l 0)) is) (get_or ms l 0)
          ∙ ap (λ (b : Bool). mark bit b (get_or ms l 0)) (sym (ap is_some (updates_at B c is l h) ∙ some_values B l c ok is))
      step l k true e false f = absurd (omega (arith, ltb-true l n e, ltb-false l (length c) f, length_clears B is c))
      step l k false e true f =
          let h : L B ≤ l = omega (arith, ltb-false l n e, ltb-true l (length c) f, length_clears B is c) in
          clear_marks_at bit B is c ms l k (ltb-true l (length c) f) ∙ mark_by_is B l bit is (get_or c l 0) (get_or ms l 0)
          ∙ rw (none_clears_past B l h (get_or c l 0) is, updates_past B c is l h)
      step l k false e false f = clear_marks_out bit B is c ms l k (ltb-false l (length c) f)
