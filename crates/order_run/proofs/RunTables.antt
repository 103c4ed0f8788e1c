-- Refusal 2, the start with no marks, and refusal 17 from the marks.
use Rattle.std.proofs.Common.{◌≡◌, ℕ, ◌<◌, ◌≤◌, Bool, true, false, leb, List, length, refl, ap, ◌∙◌, append-nil, arith, le-leb, leb-true}
use borrow.Author.Tests.{lt-leb}
use lib.Seq.{drop-length}
use Rattle.text.specs.Words.{Answer}
use Rattle.text.specs.Words.{good, ◌>>◌, must, answer_of}
use Rattle.text.proofs.Words.{test_good}
use Rattle.book.specs.Book.{Program, Book, L, start}
use Rattle.book.specs.Check.{check_book}
use Rattle.book.specs.Image.{word, program_in, low_program}
use Rattle.order.specs.Pairs.{PairFound, no_pair, a_pair, least_pair}
use Rattle.order.specs.Log.{Log}
use Rattle.order.specs.Run.{Run, readers, writers, touching, order_checked}
use Rattle.order.specs.declared.Lengths.{Lengths}
use Rattle.order.specs.Call.{check_lengths}
use Rattle.order.specs.Table.{OrderTable}
use Rattle.order_touch.specs.Marked.{unordered_marked, clipped}
use Rattle.order_touch.proofs.Fired.{touching_ordered}
use Rattle.contents_start.specs.Written.{started}
use Rattle.contents_start.proofs.Entries.{start_is}
use Rattle.order_run.specs.RunTables.{RunTables, touch_answer}
use Rattle.order_run.proofs.Marks.{length_readers}

abbrev triple : ℕ → ℕ → ℕ → Answer
triple n p q = record { number = n; p = p; q = q }

-- ---- Refusal 2

module _ (n : Lengths) (all : ℕ) where
  pub lent_0 : n.contents < all → triple 2 all 0 ≡ answer_of (check_lengths all n)
  unfolding check_lengths ◌>>◌ must
  lent_0 h = rw (lt-leb all n.contents h)

  pub lent_1 : all ≤ n.contents → n.readers < all → triple 2 all 1 ≡ answer_of (check_lengths all n)
  unfolding check_lengths ◌>>◌ must
  lent_1 g h = rw (le-leb all n.contents g, lt-leb all n.readers h)

  pub lent_2 : all ≤ n.contents → all ≤ n.readers → n.writers < all → triple 2 all 2 ≡ answer_of (check_lengths all n)
  unfolding check_lengths ◌>>◌ must
  lent_2 f g h = rw (le-leb all n.contents f, le-leb all n.readers g, lt-leb all n.writers h)

  pub lent_3 : all ≤ n.contents → all ≤ n.readers → all ≤ n.writers → n.instructions < 256 → triple 2 256 3 ≡ answer_of (check_lengths all n)
  unfolding check_lengths ◌>>◌ must
  lent_3 d f g h = rw (le-leb all n.contents d, le-leb all n.readers f, le-leb all n.writers g, lt-leb 256 n.instructions h)

  pub lent_all : all ≤ n.contents → all ≤ n.readers → all ≤ n.writers → 256 ≤ n.instructions → triple 0 0 0 ≡ answer_of (check_lengths all n)
  unfolding check_lengths ◌>>◌ must
  lent_all d f g h = rw (le-leb all n.contents d, le-leb all n.readers f, le-leb all n.writers g, le-leb 256 n.instructions h)

-- what passing refusal 2 shows
pub record Enough (n : Lengths) (all : ℕ) : Type 0 where
  pub contents : all ≤ n.contents
  pub readers : all ≤ n.readers
  pub writers : all ≤ n.writers
  pub instructions : 256 ≤ n.instructions

pub lengths_good : (n : Lengths) (all : ℕ) (u : Unit {0}) → check_lengths all n ≡ good u → Enough n all
unfolding check_lengths must
lengths_good n all u e =
    let c = test_good (leb all n.contents) 2 all 0 _ u e in
    let r = test_good (leb all n.readers) 2 all 1 _ u c.1 in
    let w = test_good (leb all n.writers) 2 all 2 _ u r.1 in
    let i = last_good (leb 256 n.instructions) w.1 in
    record {
      contents = leb-true all n.contents c.0;
      readers = leb-true all n.readers r.0;
      writers = leb-true all n.writers w.0;
      instructions = leb-true 256 n.instructions i;
    }
  where
    last_good : (b : Bool) → must b 2 256 3 ≡ good u → b ≡ true
    last_good true e = refl
    last_good false e = let z : ◌≡◌ {A = ℕ} 0 1 = cc in absurd (omega arith)

-- ---- clearing, and the start

-- the start written into a table of just the records needed is the whole table
pub only_start : (text : List ℕ) (b : Book) → check_book text ≡ good b → (m c : List ℕ) → program_in m ≡ b.program → word m 5 ≡ length b.entries → low_program m ≡ b.program
    → length c ≡ L b.program → started m text c ≡ start b
only_start text b passes m c is count low_program e = start_is text b passes m is count c low_program (omega arith) ∙ rw (← e, drop-length c) (append-nil (start b))

-- ---- Refusal 17

-- refusal 17 as the definition has it
pub order_answer : (B : Program) (g : Log) (s : Run) (c rs ws o : List ℕ) (n : ℕ) → n ≡ length g.moves → OrderTable g o → RunTables B s c rs ws
    → touch_answer (least_pair (unordered_marked o rs ws (clipped rs ws (length rs))) n) ≡ (order_checked B s (touching B g s.fired)).answer
order_answer B g s c rs ws o n en ordered marks = ap touch_answer found ∙ go (touching B g s.fired)
  where
    found : least_pair (unordered_marked o rs ws (clipped rs ws (length rs))) n ≡ touching B g s.fired
    found =
        let R = readers (L B) s.fired in
        let W = writers (L B) s.fired in
        rw (marks.readers, marks.writers, en)
        (ap (λ (k : ℕ). least_pair (unordered_marked o R W (clipped R W k)) (length g.moves)) (length_readers (L B) s.fired) ∙ touching_ordered B g o s.fired ordered)

    go : (x : PairFound) → touch_answer x ≡ (order_checked B s x).answer
    go no_pair = refl
    go (a_pair i j) = refl
