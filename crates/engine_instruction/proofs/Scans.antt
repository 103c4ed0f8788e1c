-- Laws of a list of which the first `len` numbers are instructions, as far as it goes: one more instruction, the end, and whether some instruction passes a test.
use mathlib.Core.Path.{◌≡◌, refl, ◌∙◌}
use mathlib.Core.Bool.{Bool, true, false}
use mathlib.Core.List.{List, [], ◌∷◌, map}
use Prim.Native.Nat.{ℕ, zero, suc, ◌+◌, ◌<◌, ◌≤◌, min}
use native.Mathlib.Numerals.{add-one}
use native.Mathlib.Omega.{arith}
use lib.ListN.{length, get_or, take, drop, length-take, drop_of_length-le}
use lib.Seq.{drop-cons, get_or-take}
use Rattle.engine.specs.declared.Instruction.{Instruction}
use Rattle.engine_instruction.specs.Code.{decode_of, items}
use Rattle.engine_instruction.specs.Given.{any}
use Rattle.engine_instruction.proofs.Laws.{take_min}

map_drop : {A C : Type 0} (f : A → C) (j : ℕ) (xs : List A) → map f (drop j xs) ≡ drop j (map f xs)
map_drop f zero xs = refl
map_drop f (suc j) [] = refl
map_drop f (suc j) (x ∷ xs) = map_drop f j xs

module _ (list : List ℕ) (len n : ℕ) (clipped : n ≡ min len (length list)) where
  same : take n list ≡ take len list
  same = take_min list n len clipped

  pub items_cons : (j : ℕ) → j < n → drop j (items list len) ≡ decode_of (get_or list j 0) ∷ drop (j + 1) (items list len)
  items_cons j h =
      let k : j < length (take n list) = rw length-take (omega arith) in
      let e : drop j (take n list) ≡ get_or list j 0 ∷ drop (j + 1) (take n list) = drop-cons (take n list) j 0 k ∙ rw (add-one, get_or-take) in
      rw (← same, ← map_drop decode_of j (take n list), e, map_drop decode_of (j + 1) (take n list))

  pub items_end : (j : ℕ) → n ≤ j → drop j (items list len) ≡ []
  items_end j h =
      let k : length (take n list) ≤ j = rw length-take (omega arith) in
      rw (← same, ← map_drop decode_of j (take n list), drop_of_length-le (take n list) {i = j} k)

  module _ (p : Instruction → Bool) where
    pub next : (j : ℕ) → j < n → p (decode_of (get_or list j 0)) ≡ false → any p (drop (j + 1) (items list len)) ≡ any p (drop j (items list len))
    unfolding any
    next j h e = rw (items_cons j h, e)

    pub found : (j : ℕ) → j < n → p (decode_of (get_or list j 0)) ≡ true → any p (drop j (items list len)) ≡ true
    unfolding any
    found j h e = rw (items_cons j h, e)

    pub ended : (j : ℕ) → n ≤ j → any p (drop j (items list len)) ≡ false
    unfolding any
    ended j h = rw (items_end j h)
