-- A packed answer is had back whole, since its p and its q are below 2^24.
use mathlib.Core.Path.{◌≡◌, ap, ◌∙◌}
use mathlib.Core.List.{List}
use Prim.Native.Nat.{ℕ}
use native.Mathlib.Omega.{arith}
use Rattle.text.specs.Words.{Answer}
use Rattle.text.specs.Words.{answer_of}
use Rattle.text.proofs.Checks.{Small}
use Rattle.book.specs.Check.{check_book}
use Rattle.book.specs.Check.{packed as short}
use Rattle.book.proofs.Refusals.{book_answer}
use Rattle.c_api.specs.Packed.{packed_answer, unpacked, unpacked_check}

same : {n p q m u v : ℕ} → n ≡ m → p ≡ u → q ≡ v → ◌≡◌ {A = Answer} (record { number = n; p = p; q = q }) (record { number = m; p = u; q = v })
same e f g = rw (e, f, g)

-- r is the packed answer a, which is the answer b of a call
pub back : (r : ℕ) (a b : Answer) → Small b → r ≡ packed_answer a → a ≡ b → (r ≡ packed_answer b) × (unpacked r ≡ b)
back r a b h e f =
    let whole : unpacked (packed_answer b) ≡ b = same (omega arith) (omega arith) (omega arith) in
    let g = e ∙ ap packed_answer f in
    (g, ap unpacked g ∙ whole)

-- r is the packed answer a, which is that of a book's check
pub back_check : (r : ℕ) (a : Answer) (text : List ℕ) → r ≡ short a → a ≡ answer_of (check_book text)
    → (r ≡ short (answer_of (check_book text))) × (unpacked_check r ≡ answer_of (check_book text))
back_check r a text e f =
    let h = book_answer text in
    let whole : unpacked_check (short (answer_of (check_book text))) ≡ answer_of (check_book text) = same (omega arith) (omega arith) (omega arith) in
    let g = e ∙ ap short f in
    (g, ap unpacked_check g ∙ whole)
