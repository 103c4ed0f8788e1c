-- A book that passes its checks is lawful, and is the book that its lines say.
use Rattle.std.specs.Prelude.{None}
use mathlib.Core.Path.{◌≡◌, refl, sym, ap, subst, ◌∙◌}
use mathlib.Core.Logic.{dite}
use mathlib.Core.Bool.{Bool, true, false, and-false}
use mathlib.Core.List.{List, [], ◌∷◌}
use Prim.Native.Nat.{ℕ, zero, suc, ◌+◌, ◌≤◌, ◌<◌}
use native.Mathlib.Omega.{arith}
use native.Mathlib.Decide.{dec_lt}
use lib.Dec.{eqb, ltb, leb}
use lib.ListN.{length, get_or}
use borrow.Author.Tests.{eqb-true, ltb-true, leb-true}
use Rattle.text.specs.declared.Line.{Line}
use Rattle.text.specs.Words.{table_from, table, least, good}
use Rattle.text.specs.Text.{line, no_line}
use Rattle.text.proofs.Words.{so_true, length_table_from, getD_table, getD_table_past, least_none, bind_good, then_good, none_good, found_good, test_good, good_same}
use Rattle.book.specs.declared.Header.{Header}
use Rattle.book.specs.Book.{Program, Book, L, size, stride, no_function, no_agent, node_at, agent_at}
use Rattle.book.specs.Kinds.{is_rule}
use Rattle.book.specs.Lines.{header_of, bad_field, most_locations, first_function, first_agent, lay_out, line_agent, program_of, entries_of, book_of, bad_function, bad_node, bad_agent}
use Rattle.book.specs.Use.{bad_use}
use Rattle.book.specs.Scopes.{bad_scope}
use Rattle.book.specs.Contents.{bad_entry}
use Rattle.book.specs.Check.{check_header, check_present, check_surplus, check_program, check_lines, check_book}
use Rattle.book.specs.Sum.{Strided}
use Rattle.book.specs.Sound.{Laid, Lawful}

-- ---- the header

-- the bounds of the header's numbers
pub record Bounded (h : Header) : Type 0 where
  pub elements : (4 ≤ h.elements) × (h.elements ≤ 10000)
  pub permanent : (4 ≤ h.permanent) × (h.permanent ≤ h.elements)
  pub functions : (1 ≤ h.functions) × (h.functions ≤ 32)
  pub nodes : (1 ≤ h.nodes) × (h.nodes ≤ 1024)
  pub agents : (1 ≤ h.agents) × (h.agents ≤ 16)
  pub contents : h.contents ≤ 65536

header_good : (k l : Line) → least (bad_field k l) 8 ≡ None → Bounded (header_of k l)
unfolding bad_field
header_good k l e = record {
  elements = (bound 0 (omega arith) 4 k.a (λ q. simp q), bound 0 (omega arith) k.a 10000 (λ q. simp (q, and-false)));
  permanent = (bound 1 (omega arith) 4 k.b (λ q. simp q), bound 1 (omega arith) k.b k.a (λ q. simp (q, and-false)));
  functions = (bound 2 (omega arith) 1 k.c (λ q. simp q), bound 2 (omega arith) k.c 32 (λ q. simp (q, and-false)));
  nodes = (bound 3 (omega arith) 1 k.d (λ q. simp q), bound 3 (omega arith) k.d 1024 (λ q. simp (q, and-false)));
  agents = (bound 4 (omega arith) 1 l.a (λ q. simp q), bound 4 (omega arith) l.a 16 (λ q. simp (q, and-false)));
  contents = bound 5 (omega arith) l.b 65536 (λ q. simp q);
}
  where
    bound : (i : ℕ) → i < 8 → (x y : ℕ) → (leb x y ≡ false → bad_field k l i ≡ true) → x ≤ y
    bound i h x y f = leb-true x y (so_true (leb x y) (bad_field k l i) (least_none (bad_field k l) 8 e i h) f)

pub header_bounded : (text : List ℕ) (h : Header) → check_header text ≡ good h → Bounded h
unfolding check_header
header_bounded text h e =
    let k = line text 0 in
    let l = line text 1 in
    let e1 = found_good _ _ _ _ _ h e in
    let e3 = found_good _ _ _ _ (good (header_of k l)) h e1.1 in
    subst Bounded (good_same (header_of k l) h e3.1) (header_good k l e3.0)

-- ---- functions

laid_out : (E n : ℕ) (ls : List Line) → Laid E n (lay_out E n ls)
unfolding lay_out
laid_out E n [] = tt
laid_out E n (l ∷ ls) = (refl, laid_out E (n + size E l.a) ls)

pub length_lay_out : (E n : ℕ) (ls : List Line) → length (lay_out E n ls) ≡ length ls
unfolding lay_out
length_lay_out E n [] = refl
length_lay_out E n (l ∷ ls) = ap suc (length_lay_out E (n + size E l.a) ls)

-- a function's arity and kind are those of its line
pub laid_arity : (E n : ℕ) (ls : List Line) (f : ℕ) → (get_or (lay_out E n ls) f no_function).arity ≡ (get_or ls f no_line).a
unfolding lay_out
laid_arity E n [] f = refl
laid_arity E n (l ∷ ls) zero = refl
laid_arity E n (l ∷ ls) (suc f) = laid_arity E (n + size E l.a) ls f

-- a function's stride is that of its arity
laid_stride : (E n : ℕ) (ls : List Line) (f : ℕ) → (get_or (lay_out E n ls) f no_function).stride ≡ stride E (get_or (lay_out E n ls) f no_function).arity
unfolding lay_out
laid_stride E n [] f = refl
laid_stride E n (l ∷ ls) zero = refl
laid_stride E n (l ∷ ls) (suc f) = laid_stride E (n + size E l.a) ls f

-- every function of the program that a text says has the stride of its arity
pub program_strided : (h : Header) (text : List ℕ) → Strided (program_of h text)
unfolding program_of
program_strided h text = laid_stride h.elements 0 (table (λ i. line text (first_function + i)) h.functions)

function_good : (l : Line) (f : ℕ) → bad_function l f ≡ false → l.a ≤ 2
unfolding bad_function
function_good l f h = leb-true l.a 2 (so_true (leb l.a 2) (bad_function l f) h (λ q. simp q))

roll_good : (l : Line) → bad_function l 0 ≡ false → (l.a ≡ 1) × (l.b ≡ 3)
unfolding bad_function
roll_good l h = (
  eqb-true l.a 1 (so_true (eqb l.a 1) (bad_function l 0) h (λ q. simp (q, and-false))),
  eqb-true l.b 3 (so_true (eqb l.b 3) (bad_function l 0) h (λ q. simp (q, and-false))),
)

-- function 0 is Reserve
first_good : (E : ℕ) (at : ℕ → Line) (n : ℕ) → 0 < n → bad_function (at 0) 0 ≡ false
    → get_or (lay_out E 0 (table at n)) 0 no_function ≡ record { first = 0; arity = 1; kind = 3; stride = 1 }
unfolding lay_out table_from
first_good E at zero h e = absurd (omega arith)
first_good E at (suc n) h e =
    let p = roll_good (at 0) e in
    rw (p.0, p.1)

-- ---- agents

agent_good : (B : Program) (l : Line) (i : ℕ) → bad_agent B l i ≡ false → (l.a < length B.nodes) × (is_rule (node_at B l.a).kind ≡ true) × (l.b < B.P)
unfolding bad_agent
agent_good B l i h = (
  ltb-true l.a (length B.nodes) (so_true (ltb l.a (length B.nodes)) (bad_agent B l i) h (λ q. simp q)),
  so_true (is_rule (node_at B l.a).kind) (bad_agent B l i) h (λ q. simp (q, and-false)),
  ltb-true l.b B.P (so_true (ltb l.b B.P) (bad_agent B l i) h (λ q. simp (q, and-false))),
)

-- ---- the book

-- what the checks 4 to 8 show of the lines of a book
record Passed (h : Header) (text : List ℕ) : Type 0 where
  pub functions : (f : ℕ) → f < h.functions → bad_function (line text (first_function + f)) f ≡ false
  pub locations : L (program_of h text) ≤ 65536
  pub nodes : (n : ℕ) → n < h.nodes → bad_node (program_of h text) n ≡ false
  pub uses : (n : ℕ) → n < h.nodes → bad_use (program_of h text) n ≡ false
  pub scopes : (n : ℕ) → n < h.nodes → bad_scope (program_of h text) n ≡ false
  pub agents : (i : ℕ) → i < h.agents → bad_agent (program_of h text) (line text (first_agent h + i)) i ≡ false
  pub entries : (i : ℕ) → i < h.contents → bad_entry (program_of h text) (entries_of h text) i ≡ false

passed : (h : Header) (text : List ℕ) (b : Book) → check_lines h text ≡ good b → Passed h text × (book_of h text ≡ b)
unfolding check_lines check_program
passed h text b e =
    let A = program_of h text in
    let bad4 : ℕ → Bool = λ f. bad_function (line text (first_function + f)) f in
    let bad7 : ℕ → Bool = λ i. bad_agent A (line text (first_agent h + i)) i in
    let r = then_good (check_program h text) _ b e in
    let e4 = found_good _ _ _ _ _ r.0 r.1 in
    let e3 = test_good _ _ _ _ _ r.0 e4.1 in
    let e5 = found_good _ _ _ _ _ r.0 e3.1 in
    let e6 = found_good _ _ _ _ _ r.0 e5.1 in
    let e6' = found_good _ _ _ _ _ r.0 e6.1 in
    let e7 = none_good _ _ _ _ r.0 e6'.1 in
    let e8 = found_good _ _ _ _ (good (book_of h text)) b r.2 in (
      record {
        functions = least_none bad4 h.functions e4.0;
        locations = leb-true (L A) most_locations e3.0;
        nodes = least_none (bad_node A) h.nodes e5.0;
        uses = least_none (bad_use A) h.nodes e6.0;
        scopes = least_none (bad_scope A) h.nodes e6'.0;
        agents = least_none bad7 h.agents e7;
        entries = least_none (bad_entry A (entries_of h text)) h.contents e8.0;
      },
      good_same (book_of h text) b e8.1,
    )

-- the book has as many functions, nodes, agents and entries as the header says
pub book_lengths : (h : Header) (text : List ℕ) → (length (program_of h text).functions ≡ h.functions) × (length (program_of h text).nodes ≡ h.nodes)
    × (length (program_of h text).agents ≡ h.agents) × (length (entries_of h text) ≡ h.contents)
unfolding program_of entries_of
book_lengths h text = (
  length_lay_out h.elements 0 (table (λ i. line text (first_function + i)) h.functions) ∙ length_table_from _ 0 h.functions,
  length_table_from _ 0 h.nodes,
  length_table_from _ 0 h.agents,
  length_table_from _ 0 h.contents,
)

book_lawful : (h : Header) (text : List ℕ) → Bounded h → Passed h text → Lawful (program_of h text)
unfolding program_of
book_lawful h text b p =
    let A = program_of h text in
    let at : ℕ → Line = λ i. line text (first_function + i) in
    let ls = table at h.functions in
    let long = book_lengths h text in
    let agent : (k : ℕ) → k < h.agents → agent_at A k ≡ line_agent (line text (first_agent h + k)) =
    λ k. getD_table (λ i. line_agent (line text (first_agent h + i))) h.agents k no_agent in
    record {
      low = b.permanent.0;
      high = b.permanent.1;
      elements = b.elements.1;
      some = omega (arith, long.0, b.functions.0);
      locations = p.locations;
      laid = laid_out h.elements 0 ls;
      arities = λ f. rw (laid_arity h.elements 0 ls f)
          (dite (dec_lt f h.functions)
          (λ q. rw (getD_table at h.functions f no_line q) (function_good (at f) f (p.functions f q)))
          (λ (q : ¬ (f < h.functions)). rw (getD_table_past at h.functions f no_line (omega arith)) (omega arith)));
      strides = program_strided h text;
      reserve = first_good h.elements at h.functions b.functions.0 (p.functions 0 b.functions.0);
      nodes = λ n q. p.nodes n (omega (arith, long.1));
      uses = λ n q. p.uses n (omega (arith, long.1));
      scopes = λ n q. p.scopes n (omega (arith, long.1));
      roots = λ k q.
          let r : k < h.agents = omega (arith, long.2) in
          let g = agent_good A (line text (first_agent h + k)) k (p.agents k r) in
          rw (agent k r) (g.0, g.1);
      agents = λ k. dite (dec_lt k h.agents)
          (λ r. rw (agent k r) (agent_good A (line text (first_agent h + k)) k (p.agents k r)).2)
          (λ (r : ¬ (k < h.agents)). rw (getD_table_past (λ i. line_agent (line text (first_agent h + i))) h.agents k no_agent (omega arith)) (omega (arith, b.permanent.0)));
    }

-- the book that a check gives is the one that the lines say
pub lines_book : (text : List ℕ) (h : Header) (b : Book) → check_lines h text ≡ good b → b ≡ book_of h text
lines_book text h b e = sym (passed h text b e).1

pub lines_nodes : (text : List ℕ) (h : Header) (b : Book) → check_lines h text ≡ good b → (n : ℕ) → n < h.nodes → bad_node (program_of h text) n ≡ false
lines_nodes text h b e = (passed h text b e).0.nodes

pub lines_lawful : (text : List ℕ) (h : Header) (b : Book) → check_header text ≡ good h → check_lines h text ≡ good b → Lawful b.program
lines_lawful text h b e f =
    let r = passed h text b f in
    subst (λ (x : Book). Lawful x.program) r.1 (book_lawful h text (header_bounded text h e) r.0)

-- the check of an accepted book: its header passes, and so do its lines
pub accepted_lines : (text : List ℕ) (b : Book) → check_book text ≡ good b → (h : Header) × (check_header text ≡ good h) × (check_lines h text ≡ good b)
unfolding check_book check_present check_surplus
accepted_lines text b e =
    let r = bind_good (check_header text) _ b e in
    let h = r.0 in
    let e1 = found_good _ _ _ _ _ b r.2 in
    let e2 = test_good _ _ _ _ (check_lines h text) b e1.1 in
    (h, r.1, e2.1)

pub accepted : (text : List ℕ) (b : Book) → check_book text ≡ good b → Lawful b.program
accepted text b e = let r = accepted_lines text b e in lines_lawful text r.0 b r.1 r.2

-- no contents line of an accepted book is at fault
pub accepted_entries : (text : List ℕ) (b : Book) → check_book text ≡ good b → (i : ℕ) → i < length b.entries → bad_entry b.program b.entries i ≡ false
accepted_entries text b e =
    let r = accepted_lines text b e in
    let p = passed r.0 text b r.2 in
    subst (λ (x : Book). (i : ℕ) → i < length x.entries → bad_entry x.program x.entries i ≡ false) p.1
    (λ i q. p.0.entries i (omega (arith, (book_lengths r.0 text).3)))
