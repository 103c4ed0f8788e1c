-- The whole call from its stages: a refusal of the book, refusal 9, 2 or 8, and the move.
use mathlib.Core.Path.{◌≡◌, refl, sym, ap, subst, ◌∙◌}
use mathlib.Core.Logic.{◌≢◌}
use mathlib.Core.List.{List}
use Prim.Native.Nat.{ℕ}
use lib.ListN.{take}
use Rattle.text.specs.Words.{Answer}
use Rattle.text.specs.Words.{Checked, good, refused, ◌>>=◌, ◌>>◌, answer_of}
use Rattle.book.specs.Book.{Program, Book, L}
use Rattle.book.specs.Sum.{Strided}
use Rattle.book.specs.Sound.{Lawful}
use Rattle.book.specs.Check.{check_book}
use Rattle.book.specs.Image.{word, low_program}
use Rattle.engine.specs.Move.{Input}
use Rattle.engine.specs.Single.{check_agent, check_picks, check_step_lengths, check_contents, check_step, step_move, step_answer, step_call}
use Rattle.engine_step.specs.Call.{check_call}
use Rattle.engine_step.specs.Leaves.{CallLeaves}
use Rattle.book.proofs.Accepted.{accepted}
use Rattle.book_check.specs.ImageOf.{ImageOf}
use Rattle.book_check.proofs.Fits.{low_program_is}
use Rattle.engine_step.proofs.UpToTen.{book_numbered, call_numbered, accepts}
use Rattle.engine_step.proofs.Checks.{lengths_are, Passed, call_passed}

-- a call that is refused before its move leaves no instruction, and the contents as they were
module _ (c l : List ℕ) (k : Input) where
  book_stops : (x : Checked Book) (f : Book → Checked Program) → (answer_of x).number ≢ 0 → CallLeaves (answer_of x) 0 l c (step_answer c k (x >>= f))
  unfolding ◌>>=◌
  book_stops (good b) f h = absurd (h refl)
  book_stops (refused n p q) f h = record { answer = refl; instructions = refl; contents = refl }

  call_stops : (x : Checked (Unit {0})) (B : Program) → (answer_of x).number ≢ 0 → CallLeaves (answer_of x) 0 l c (step_answer c k (x >> good B))
  unfolding ◌>>◌
  call_stops (good u) B h = absurd (h refl)
  call_stops (refused n p q) B h = record { answer = refl; instructions = refl; contents = refl }

  call_goes : (x : Checked (Unit {0})) (u : Unit {0}) (B : Program) → x ≡ good u → step_answer c k (x >> good B) ≡ step_move B c k
  unfolding ◌>>◌
  call_goes x u B e = rw e

-- what a call has passed before its move, whose image is m, and that the move is all that is left of it
pub record Cleared (text c : List ℕ) (k : Input) (n : ℕ) (m : List ℕ) : Type 0 where
  pub lawful : Lawful (low_program m)
  pub passed : Passed (low_program m) c k n
  pub locations : word m 6 ≡ L (low_program m)
  pub moved : step_move (low_program m) c k ≡ step_call text c k n

joined : {A : Type 0} (x y z v : Checked (Unit {0})) (w : Checked A) → (x >> (y >> (z >> (v >> w)))) ≡ ((x >> (y >> (z >> v))) >> w)
unfolding ◌>>◌
joined (good u) (good t) (good s) v w = refl
joined (good u) (good t) (refused n p q) v w = refl
joined (good u) (refused n p q) z v w = refl
joined (refused n p q) y z v w = refl

module _ (text c l : List ℕ) (k : Input) (n : ℕ) where
  -- ---- the book is refused

  pub refused_book : (a : Answer) → a ≡ answer_of (check_book text) → a.number ≢ 0 → CallLeaves a 0 l c (step_call text c k n)
  unfolding step_call check_step
  refused_book a e h = rw e (book_stops c l k (check_book text) _ (rw e at h))

  -- ---- the book is accepted, and m is its image

  step_good : (b : Book) → check_book text ≡ good b → (i : ℕ) → i ≡ L b.program
      → step_call text c k n ≡ step_answer c k (check_call b.program i c k n >> good b.program)
  unfolding step_call check_step check_call ◌>>=◌
  step_good b e i same =
      let B = b.program in
      rw (e, ← lengths_are B i c n same, ← same)
      (ap (step_answer c k) (joined (check_agent B k.agent) (check_picks B k.picks) (check_step_lengths i c n) (check_contents B (take i c)) (good B)))

  module _ (m : List ℕ) (opened : ImageOf m (check_book text)) (a : Answer) (told : a ≡ answer_of (check_book text)) (zero_a : a.number ≡ 0)
      (b : Answer) (call : Strided (low_program m) → b ≡ answer_of (check_call (low_program m) (word m 6) c k n)) where
    accepted_as : (b : Book) × (check_book text ≡ good b)
    accepted_as = accepts (check_book text) (book_numbered text) (sym (ap (λ (r : Answer). r.number) told) ∙ zero_a)

    abbrev B : Program
    B = accepted_as.0.program

    is_held : low_program m ≡ B
    is_held = low_program_is text m opened accepted_as.0 accepted_as.1

    lawful : Lawful (low_program m)
    lawful = subst Lawful (sym is_held) (accepted text accepted_as.0 accepted_as.1)

    called : b ≡ answer_of (check_call (low_program m) (word m 6) c k n)
    called = call lawful.strides

    located : word m 6 ≡ L B
    located = (opened accepted_as.0 accepted_as.1).1

    whole : step_call text c k n ≡ step_answer c k (check_call B (word m 6) c k n >> good B)
    whole = step_good accepted_as.0 accepted_as.1 (word m 6) located

    call_held : check_call (low_program m) (word m 6) c k n ≡ check_call B (word m 6) c k n
    call_held = ap (λ (A : Program). check_call A (word m 6) c k n) is_held

    pub refused_call : b.number ≢ 0 → CallLeaves b 0 l c (step_call text c k n)
    refused_call h =
        let e : b ≡ answer_of (check_call B (word m 6) c k n) = called ∙ ap (λ (x : Checked (Unit {0})). answer_of x) call_held in
        rw (e, whole) (call_stops c l k (check_call B (word m 6) c k n) B (λ z. h (ap (λ (r : Answer). r.number) e ∙ z)))

    module _ (zero_b : b.number ≡ 0) where
      goes : (u : Unit {0}) × (check_call (low_program m) (word m 6) c k n ≡ good u)
      goes = accepts (check_call (low_program m) (word m 6) c k n) (call_numbered (low_program m) (word m 6) c k n) (sym (ap (λ (r : Answer). r.number) called) ∙ zero_b)

      locations : word m 6 ≡ L (low_program m)
      locations = located ∙ ap L (sym is_held)

      shown : Passed (low_program m) c k n
      shown = call_passed (low_program m) (word m 6) c k n locations goes.0 goes.1

      moved : step_move (low_program m) c k ≡ step_call text c k n
      moved =
          ap (λ (A : Program). step_move A c k) is_held
          ∙ sym (call_goes c l k (check_call B (word m 6) c k n) goes.0 B (sym call_held ∙ goes.1))
          ∙ sym whole

      pub cleared : Cleared text c k n m
      cleared = record { lawful = lawful; passed = shown; locations = locations; moved = moved }
