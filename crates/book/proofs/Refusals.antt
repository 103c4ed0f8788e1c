-- A book's check gives refusals 1 to 8 only, at a line, field, function, node or agent below 2^24, with q 0; and an accepted book has few nodes and locations,
-- and low roots.
use mathlib.Core.Path.{◌≡◌}
use mathlib.Core.List.{List}
use Prim.Native.Nat.{ℕ, ◌^◌, ◌≤◌, ◌<◌}
use native.Mathlib.Omega.{arith}
use native.Mathlib.Decide.{dec_lt}
use mathlib.Core.Logic.{dite}
use lib.ListN.{length, get_or-eq_default}
use Rattle.text.specs.Words.{Checked, good, refused, answer_of}
use Rattle.text.specs.Text.{bad_line}
use Rattle.text.proofs.Checks.{Ends, on, off, Any, also, bind_ends, then_ends, none_ends, must_ends, Before}
use Rattle.book.specs.declared.Header.{Header}
use Rattle.book.specs.Book.{Program, Book, L, no_agent, agent_at}
use Rattle.book.specs.Sound.{Lawful}
use Rattle.book.specs.Lines.{first_entry, line_count}
use Rattle.book.specs.Check.{check_header, check_present, check_surplus, check_program, check_lines, check_book}
use Rattle.book.proofs.Accepted.{Bounded, header_bounded, book_lengths, lines_book, accepted_lines, accepted}

abbrev pub OfBook : ℕ → ℕ → ℕ → Type 0
OfBook n p q = (1 ≤ n) × (n ≤ 8) × (p < 2 ^ 24) × (q ≡ 0)

header_ends : (text : List ℕ) → Ends Bounded OfBook (check_header text)
unfolding check_header
header_ends text =
    also {S = OfBook} (then_ends (none_ends OfBook 1 0 0 _ 2 (λ p k. omega arith)) (then_ends {H = Any} (none_ends OfBook 3 0 0 _ 8 (λ p k. omega arith)) (on tt)))
    (header_bounded text) (λ n p q r. r)

program_ends : (h : Header) (text : List ℕ) → Bounded h → Ends Any OfBook (check_program h text)
unfolding check_program
program_ends h text b =
    then_ends (none_ends OfBook 4 0 0 _ h.functions (λ p k. omega arith)) (then_ends (must_ends OfBook _ 3 8 0 (omega arith))
    (then_ends (none_ends OfBook 5 0 0 _ h.nodes (λ p k. omega arith)) (then_ends (none_ends OfBook 6 0 0 _ h.nodes (λ p k. omega arith))
    (then_ends (none_ends OfBook 6 0 0 _ h.nodes (λ p k. omega arith)) (none_ends OfBook 7 0 0 _ h.agents (λ p k. omega arith))))))

lines_ends : (h : Header) (text : List ℕ) → Bounded h → Ends Any OfBook (check_lines h text)
unfolding check_lines
lines_ends h text b =
    then_ends (program_ends h text b) (then_ends (none_ends OfBook 8 (first_entry h) 0 _ h.contents (λ p k. omega arith)) (on tt))

-- what the nodes, locations and roots of an accepted book's program are at most
pub record Fits (B : Program) : Type 0 where
  pub nodes : length B.nodes ≤ 1024
  pub locations : L B ≤ 65536
  pub roots : (k : ℕ) → (agent_at B k).root ≤ 1024

abbrev pub FitsOf : Book → Type 0
FitsOf b = Fits b.program

-- an agent's root is at most 1,024; past the agents there is none, with root 0
root_fits : (B : Program) → Lawful B → length B.nodes ≤ 1024 → (k : ℕ) → (agent_at B k).root ≤ 1024
root_fits B ok few k =
    dite (dec_lt k (length B.agents)) (λ h. omega (arith, (ok.roots k h).0))
    (λ (h : ¬ (k < length B.agents)). rw (get_or-eq_default B.agents no_agent {n = k} (omega arith)) (omega arith))

accepted_fits : (text : List ℕ) (b : Book) → check_book text ≡ good b → FitsOf b
accepted_fits text b e =
    let r = accepted_lines text b e in
    let h = r.0 in
    let few : length b.program.nodes ≤ 1024 = rw (lines_book text h b r.2) (omega (arith, (book_lengths h text).1, header_bounded text h r.1)) in
    record {
      nodes = few;
      locations = (accepted text b e).locations;
      roots = λ k. root_fits b.program (accepted text b e) few k;
    }

pub book_ends : (text : List ℕ) → Ends FitsOf OfBook (check_book text)
unfolding check_book check_present check_surplus
book_ends text =
    also {S = OfBook} (bind_ends {H = Any} (header_ends text) (λ h b.
    then_ends (none_ends OfBook 1 0 0 (bad_line text) (line_count h) (λ p k. omega arith))
    (then_ends (must_ends OfBook _ 1 (line_count h) 0 (omega arith)) (lines_ends h text b))))
    (accepted_fits text) (λ n p q r. r)

-- a book's check ends as one of the checks before the first move
pub book_before : (text : List ℕ) → Ends FitsOf Before (check_book text)
book_before text = also (book_ends text) (accepted_fits text) (λ n p q r. omega arith)

-- the answer of a book's check fits one number
pub book_answer : (text : List ℕ) → (
    let a = answer_of (check_book text) in (a.number ≤ 8) × (a.p < 2 ^ 24) × (a.q ≡ 0)
    )
book_answer text = go (check_book text) (book_ends text)
  where
    go : (c : Checked Book) → Ends FitsOf OfBook c → (let a = answer_of c in (a.number ≤ 8) × (a.p < 2 ^ 24) × (a.q ≡ 0))
    go (good b) (on g) = omega arith
    go (refused n p q) (off r) = omega arith
