-- The checks before the first move give refusals 1 to 10 only; and the answer of a log call fits one number, for all inputs: its number is at most 19
-- and never 16, its p and its q are below 2^24.
use mathlib.Core.Path.{◌≡◌, refl}
use mathlib.Core.Bool.{Bool}
use mathlib.Core.List.{List}
use Prim.Native.Nat.{ℕ, ◌+◌, ◌≤◌, ◌<◌}
use native.Mathlib.Omega.{arith}
use lib.ListN.{length}
use Rattle.text.specs.declared.Line.{Line}
use Rattle.text.specs.Words.{Checked, good, refused}
use Rattle.text.specs.Text.{bad_line}
use Rattle.text.proofs.Words.{length_table_from}
pub use Rattle.text.proofs.Checks.{on, off}
use Rattle.text.proofs.Checks.{Ends, Any, also, bind_ends, then_ends, none_ends, must_ends, Before, Small}
use Rattle.book.specs.Book.{Program, Book, L, start}
use Rattle.book.proofs.Refusals.{Fits, book_before}
use Rattle.order.specs.Pairs.{PairFound, no_pair, a_pair, least_pair, no_pair_at}
use Rattle.order.specs.declared.Lengths.{Lengths}
use Rattle.order.specs.Log.{Log, move_at, log_lines, log_of, check_agents, check_log_header, check_log_text, check_log_lines, read_log, check_log}
use Rattle.order.specs.Run.{Run, RunOutcome, ran, halted, run, touching, order_checked, run_answer, run_from}
use Rattle.order.specs.Call.{lengths, check_lengths, check_lent, check_all, log_answer, log_call}
use Rattle.order.specs.Demand.{count}
use Rattle.order.proofs.Pairs.{two_least}
use Rattle.order.proofs.Marks.{run_halted, halted_number}
use Rattle.order.proofs.Log.{header_few, input_at}
use Rattle.engine.specs.Tables.{Tables}

-- a pair of moves that is found is of the m moves
found_pair : (f : ℕ → ℕ → Bool) (m i j : ℕ) → least_pair f m ≡ a_pair i j → (i < m) × (j < m)
found_pair f m i j e = let r = ((two_least f m i j).0 e).holds in (omega (arith, r.0, r.1), r.1)

-- ---- the log

-- the bounds of the numbers in a log's header
abbrev LogBounded : Line → Type 0
LogBounded h = (h.a ≤ 64) × (h.b ≤ 2016) × (h.c ≤ 256)

log_header_ends : (text : List ℕ) → Ends LogBounded Before (check_log_header text)
unfolding check_log_header
log_header_ends text =
    also {S = Before} (then_ends (none_ends Before 1 0 1 _ 1 (λ p k. omega arith)) (then_ends {H = Any} (must_ends Before _ 9 0 0 (omega arith)) (on tt)))
    (header_few text) (λ n p q r. r)

log_text_ends : (h : Line) (text : List ℕ) → LogBounded h → Ends Any Before (check_log_text h text)
unfolding check_log_text
log_text_ends h text b =
    then_ends (none_ends Before 1 0 1 (bad_line text) (log_lines h) (λ p k. omega arith)) (must_ends Before _ 1 (log_lines h) 1 (omega arith))

log_lines_ends : (A E : ℕ) (h : Line) (text : List ℕ) → LogBounded h → Ends Any Before (check_log_lines A E h text)
unfolding check_log_lines
log_lines_ends A E h text b =
    then_ends (none_ends Before 9 1 0 _ h.a (λ p k. omega arith)) (then_ends (none_ends Before 9 (1 + h.a) 0 _ h.b (λ p k. omega arith))
    (none_ends Before 9 (1 + h.a + h.b) 0 _ h.c (λ p k. omega arith)))

agents_ends : (g : Log) → count g ≤ 64 → Ends Any Before (check_agents g)
unfolding check_agents no_pair_at
agents_ends g few = go _ (count g) few
  where
    go : (f : ℕ → ℕ → Bool) (m : ℕ) → m ≤ 64 → Ends Any Before (no_pair_at 10 (least_pair f m))
    go f m k = one (least_pair f m) refl
      where
        one : (o : PairFound) → least_pair f m ≡ o → Ends Any Before (no_pair_at 10 o)
        one no_pair e = on tt
        one (a_pair i j) e = let r : Before 10 i j = omega (arith, found_pair f m i j e) in off r

pub read_ends : (A E : ℕ) (text : List ℕ) → Ends (λ g. count g ≤ 64) Before (read_log A E text)
unfolding read_log log_of
read_ends A E text =
    bind_ends (log_header_ends text) (λ h b.
    let few : count (log_of h text) ≤ 64 = omega (arith, length_table_from (input_at h text) 0 h.a) in
    then_ends (log_text_ends h text b) (then_ends (log_lines_ends A E h text b) (on few)))

log_ends : (B : Program) (text : List ℕ) → Ends (λ g. count g ≤ 64) Before (check_log B text)
unfolding check_log
log_ends B text = bind_ends (read_ends (length B.agents) B.E text) (λ g few. then_ends (agents_ends g few) (on few))

-- ---- the lent tables, and all checks

lent_ends : (B : Program) (n : Lengths) → Fits B → Ends Any Before (check_lent B n)
unfolding check_lengths
lent_ends B n fits =
    then_ends (must_ends Before _ 2 (L B) 0 (omega arith)) (then_ends (must_ends Before _ 2 (L B) 1 (omega arith))
    (then_ends (must_ends Before _ 2 (L B) 2 (omega arith)) (must_ends Before _ 2 256 3 (omega arith))))

-- what passes all checks is a book and a log in their bounds; a refusal has number 1 to 10, and its place fits
abbrev pub Early : Checked (Book × Log) → Type 0
Early = Ends (λ x. Fits x.0.program × (count x.1 ≤ 64)) Before

pub all_early : (book log : List ℕ) (n : Lengths) → Early (check_all book log n)
unfolding check_all
all_early book log n = bind_ends (book_before book) (λ b fits. bind_ends (log_ends b.program log) (λ g few. then_ends (lent_ends b.program n fits) (on (fits, few))))

-- ---- the call

run_small : (B : Program) (g : Log) (c : List ℕ) → Fits B → count g ≤ 64 → Small (run_from B g c).answer
unfolding run_from run_answer
run_small B g c fits few = go (run B g c (count g)) refl
  where
    two_way : (s : Run) (o : PairFound) → ((i j : ℕ) → o ≡ a_pair i j → (i < count g) × (j < count g)) → Small (order_checked B s o).answer
    two_way s no_pair h = record { number = omega arith; not_16 = λ e. omega (arith, e); p = omega arith; q = omega arith }
    two_way s (a_pair i j) h = let r = h i j refl in record { number = omega arith; not_16 = λ e. omega (arith, e); p = omega (arith, r.0); q = omega (arith, r.1) }

    go : (o : RunOutcome) → run B g c (count g) ≡ o → Small (run_answer B g o).answer
    go (ran s) e = two_way s (touching B g s.fired) (found_pair _ (count g))
    go (halted a p q s) e =
        let m = halted_number B g c (count g) a p q s e in
        record { number = m.0.1; not_16 = m.0.2; p = omega (arith, (run_halted B g c (count g) a p q s e).0); q = omega (arith, m.1, fits.nodes, fits.locations, fits.roots (move_at g p).agent) }

pub log_small : (book log : List ℕ) (t : Tables) (n : ℕ) → Small (log_call book log t n).answer
unfolding log_call
log_small book log t n = go (check_all book log (lengths t n)) (all_early book log (lengths t n))
  where
    go : (o : Checked (Book × Log)) → Early o → Small (log_answer t o).answer
    go (good x) (on h) = run_small x.0.program x.1 (start x.0) h.0 h.1
    go (refused a p q) (off h) = record { number = omega arith; not_16 = λ e. omega (arith, h.1, e); p = h.2; q = h.3 }
