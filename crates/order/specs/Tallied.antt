-- What is claimed of the label tally of a log call: whose it is, what it says of the roll, and that all orders have it alike (SPECIFICATION 7.5).
use Rattle.std.specs.Prelude.{◌≡◌, ◌||◌, List, ℕ, ◌+◌, eqb, if◌then◌else◌}
use Rattle.text.specs.Words.{good, refused}
use Rattle.text.specs.Refusals.{unordered_touch}
use Rattle.text.specs.Words.{Answer}
use Rattle.book.specs.Book.{Book, start}
use Rattle.engine.specs.declared.Tally.{Tally}
use Rattle.engine.specs.Labels.{no_labels, tally, roll_count}
use Rattle.engine.specs.Tables.{Tables}
use Rattle.order.specs.Log.{Log}
use Rattle.order.specs.Call.{lengths, check_all}
use Rattle.order.specs.Orders.{run_in_order, acts_in_order, from, Keeps}
use Rattle.order.specs.Demand.{PairOf, moves_of, count, call_answer}

-- how many of the m moves of a log have fired, by the answer of its run: all when it is accepted or gets refusal 17, and otherwise those before the move refused
abbrev pub fired_moves : ℕ → Answer → ℕ
fired_moves m a = if eqb a.number 0 || eqb a.number unordered_touch then m else a.p

-- the tally of these moves, made in this order from the start of the book
abbrev pub tally_in_order : Book → Log → List ℕ → Tally
tally_in_order b g is = tally b.program (acts_in_order (moves_of b.program g) (start b) is)

-- the contents c hold as many labels on the roll as the start of the book does, less those issued and with those returned
abbrev pub Balanced : Book → List ℕ → Tally → Type 0
Balanced b c k = roll_count b.program c + k.issued ≡ roll_count b.program (start b) + k.returned

-- ---- the claim: for a book's text, a log's text, the tables t and n instruction records

module _ (book log : List ℕ) (t : Tables) (n : ℕ) where
  pub record Tallied : Type 0 where
    -- a call that is refused before its first move has issued and returned nothing
    pub none : (r p q : ℕ) → check_all book log (lengths t n) ≡ refused r p q → (call_answer book log t n).tally ≡ no_labels
    -- of any other call the tally is that of the moves that fired, in the listed order
    pub fired : (b : Book) (g : Log) → check_all book log (lengths t n) ≡ good (b, g)
        → (call_answer book log t n).tally ≡ tally_in_order b g (from 0 (fired_moves (count g) (call_answer book log t n).answer))
    -- the roll of the contents that it leaves holds as many labels as its tally says
    pub left : (b : Book) (g : Log) → check_all book log (lengths t n) ≡ good (b, g) → Balanced b (call_answer book log t n).contents (call_answer book log t n).tally
    -- So does the roll after any moves, made in any order from the start: after each move of the listed order, and of every other. A move that is refused
    -- there changes nothing and adds nothing.
    pub after : (b : Book) (g : Log) → check_all book log (lengths t n) ≡ good (b, g)
        → (is : List ℕ) → Balanced b (run_in_order (moves_of b.program g) (start b) is) (tally_in_order b g is)
    -- every order that keeps the pairs of an accepted log has the same tally
    pub alike : (call_answer book log t n).answer.number ≡ 0 → (b : Book) (g : Log) → check_all book log (lengths t n) ≡ good (b, g)
        → (is : List ℕ) → Keeps (from 0 (count g)) (PairOf g.pairs) is → tally_in_order b g is ≡ (call_answer book log t n).tally
