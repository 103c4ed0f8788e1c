-- The checks that the code makes of an image, of rows and of lines are those of the definition, one after the other.
use Rattle.std.specs.Prelude.{Option, None, Some}
use Rattle.std.specs.Prelude.{if◌then◌else◌}
use mathlib.Core.Path.{◌≡◌, refl, sym, ◌∙◌, ap, subst}
use mathlib.Core.Logic.{◌≢◌}
use mathlib.Core.Bool.{Bool, true, false, not}
use mathlib.Core.List.{List}
use Prim.Native.Nat.{ℕ, zero, suc, ◌+◌, ◌-◌, ◌≤◌, ◌<◌}
use native.Mathlib.Omega.{arith}
use lib.Dec.{leb}
use lib.ListN.{length}
use Rattle.text.specs.Words.{Answer}
use Rattle.text.specs.declared.Line.{Line}
use Rattle.text.specs.Words.{least_from, least, Checked, good, refused, ◌>>=◌, ◌>>◌, none_at, must, answer_of}
use Rattle.text.specs.Refusals.{ill_formed, book_text, header_bounds, function_line, node_line, node_use, agent_line, contents_rule}
use Rattle.text.specs.Text.{line, line_bytes, well_formed, bad_line}
use Rattle.text.proofs.Words.{least_same, least_from_same, least_none, least_first, least_rest, then_good}
use Rattle.text.proofs.Checks.{Numbered, none_numbered, must_numbered, then_ends, then_stops, then_goes_on}
use Rattle.book.specs.declared.Header.{Header}
use Rattle.book.specs.Book.{Program, Book, L}
use Rattle.book.specs.Sum.{Strided}
use Rattle.book.specs.Lines.{header_of, bad_field, most_locations, first_agent, first_entry, line_count, program_of, entries_of, bad_function, bad_node, bad_agent}
use Rattle.book.specs.Use.{bad_use}
use Rattle.book.specs.Scopes.{bad_scope}
use Rattle.book.specs.Contents.{bad_entry}
use Rattle.book.specs.Check.{check_header, check_present, check_surplus, check_program, check_lines, check_book}
use Rattle.book.specs.Image.{image_length, word, image_row, capped, program_in, first_entry_in, entry_count_in, kept_program, HoldsText, FitsImage, capped_header}
use Rattle.book.proofs.Accepted.{header_bounded, program_strided, lines_book, lines_nodes, book_lengths}
use Rattle.book.proofs.Image.{uncapped, within_bounds, functions_long}
use Rattle.book.proofs.Kept.{kept_nodes, kept_strided, entry_kept, bad_node_kept, kept_whole}
use Rattle.book_load.specs.Loaded.{header_loaded, lines_loaded, lines_before, functions_laid, HoldsLines}
use Rattle.book_load.proofs.Loaded.{length_headed, length_taken, taken_rows, laid_holds, laid_agent}
use Rattle.text.specs.declared.LineFaults.{LineFaults}
use Rattle.book_entries.specs.Roll.{entries_from}
use Rattle.book_entries.specs.Pass.{faults, bad_at, faults_from}
use Rattle.book_check.specs.ImageOf.{ImageOf, check_text}

-- ---- one check, answered by a, and the checks after it

module _ {A B : Type 0} where
  pub stops : (c : Checked A) (d : Checked B) (a : Answer) → a ≡ answer_of c → a.number ≢ 0 → a ≡ answer_of (c >> d)
  stops c d a e n = e ∙ sym (then_stops c d (rw e at n))

  pub goes_on : (c : Checked A) (d : Checked B) (a : Answer) → Numbered c → a ≡ answer_of c → a.number ≡ 0 → (c >> d) ≡ d
  goes_on c d a k e z = then_goes_on c d k (ap (λ (x : Answer). x.number) (sym e) ∙ z)

  pub after : (c : Checked A) (d : Checked B) (a r : Answer) → Numbered c → a ≡ answer_of c → a.number ≡ 0 → r ≡ answer_of d → r ≡ answer_of (c >> d)
  after c d a r k e z p = p ∙ ap answer_of (sym (goes_on c d a k e z))

  -- a check whose value is not used has the same answer
  pub last : (c : Checked A) (b : B) (a : Answer) → a ≡ answer_of c → a ≡ answer_of (c >> good b)
  unfolding ◌>>◌
  last c b a e = e ∙ go c
    where
      go : (c : Checked A) → answer_of c ≡ answer_of (c >> good b)
      go (good x) = refl
      go (refused n p q) = refl

-- an answer by a place found is that of the place that the definition finds
pub answered : (n : ℕ) (a : Answer) (f g : Option ℕ) → a ≡ answer_of (none_at n 0 0 f) → f ≡ g → a ≡ answer_of (none_at n 0 0 g)
answered n a f g e p = e ∙ ap (λ (x : Option ℕ). answer_of (none_at n 0 0 x)) p

-- of a refused book nothing is said of the image
pub opened_refused : (m : List ℕ) (c : Checked Book) (a : Answer) → a ≡ answer_of c → a.number ≢ 0 → ImageOf m c
opened_refused m c a e n b q = absurd (n (ap (λ (x : Answer). x.number) (e ∙ ap answer_of q)))

-- ---- checks 4 to 7, on an image

abbrev pub of_functions : List ℕ → Checked (Unit {0})
of_functions m = none_at function_line 0 0 (least (λ f. bad_function (image_row m (2 + f)) f) (length (program_in m).functions))

module _ (o : List ℕ) where
  abbrev pub of_locations : Checked (Unit {0})
  of_locations = must (leb (word o 6) most_locations) header_bounds 8 0

  abbrev pub of_nodes : Checked (Unit {0})
  of_nodes = none_at node_line 0 0 (least (bad_node (program_in o)) (length (program_in o).nodes))

  abbrev pub of_use : Checked (Unit {0})
  of_use = none_at node_use 0 0 (least (bad_use (program_in o)) (length (program_in o).nodes))

  abbrev pub of_scopes : Checked (Unit {0})
  of_scopes = none_at node_use 0 0 (least (bad_scope (program_in o)) (length (program_in o).nodes))

  abbrev pub of_agents : Checked (Unit {0})
  of_agents = none_at agent_line 0 0 (least (λ i. bad_agent (program_in o) (image_row o (34 + i)) i) (length (program_in o).agents))

  abbrev pub from_locations : Checked (Unit {0})
  from_locations = of_locations >> (of_nodes >> (of_use >> (of_scopes >> of_agents)))

-- after a refusal the checks that follow make no difference
stopped : {A : Type 0} (n p : ℕ) (c d : Checked A) → (none_at n 0 0 (Some p) >> c) ≡ (none_at n 0 0 (Some p) >> d)
unfolding none_at ◌>>◌
stopped n p c d = refl

module _ (m : List ℕ) (h : Header) (text : List ℕ) (room : FitsImage h) (long : image_length ≤ length m) (rows : HoldsLines m h text) where
  abbrev o : List ℕ
  o = functions_laid m

  holds : HoldsText o h text
  holds = laid_holds m h text room long rows

  functions_count : length (program_in m).functions ≡ h.functions
  functions_count =
      functions_long m ∙ ap (λ (n : ℕ). capped n 32) (ap (λ (l : Line). l.c) rows.head) ∙ uncapped h.functions 32 room.functions

  functions_held :
      least (λ f. bad_function (image_row m (2 + f)) f) (length (program_in m).functions) ≡ least (λ f. bad_function (line text (2 + f)) f) h.functions
  functions_held =
      ap (least (λ f. bad_function (image_row m (2 + f)) f)) functions_count
      ∙ least_same (λ f. bad_function (image_row m (2 + f)) f) (λ f. bad_function (line text (2 + f)) f) h.functions
      (λ f l. ap (λ (r : Line). bad_function r f) (rows.function f l))

  abbrev B : Program
  B = program_of h text

  few_permanent : B.P ≤ 10000
  unfolding program_of
  few_permanent = room.permanent

  few_functions : length B.functions ≤ 32
  few_functions = rw (book_lengths h text).0 room.functions

  few_nodes : length B.nodes ≤ 1024
  few_nodes = rw (book_lengths h text).1 room.nodes

  nodes_held : least (bad_node (program_in o)) (length (program_in o).nodes) ≡ least (bad_node B) h.nodes
  nodes_held =
      ap (λ (X : Program). least (bad_node X) (length X.nodes)) holds.program
      ∙ ap (least (bad_node (kept_program B))) (kept_nodes B ∙ (book_lengths h text).1)
      ∙ least_same (bad_node (kept_program B)) (bad_node B) h.nodes (λ n l. bad_node_kept B few_permanent few_functions n (omega (arith, room.nodes)))

  -- once no node is at fault, the image holds the program as it stands
  pub whole : ((n : ℕ) → n < h.nodes → bad_node B n ≡ false) → program_in o ≡ B
  whole ok = holds.program ∙ kept_whole B few_permanent few_functions few_nodes (λ n l. ok n (rw (book_lengths h text).1 at l))

  module _ (is : program_in o ≡ B) where
    held : (bad : Program → ℕ → Bool) → least (bad (program_in o)) (length (program_in o).nodes) ≡ least (bad B) h.nodes
    held bad = ap (λ (X : Program). least (bad X) (length X.nodes)) is ∙ ap (least (bad B)) (book_lengths h text).1

    agents_held :
        least (λ i. bad_agent (program_in o) (image_row o (34 + i)) i) (length (program_in o).agents)
        ≡ least (λ i. bad_agent B (line text (first_agent h + i)) i) h.agents
    agents_held =
        ap (λ (X : Program). least (λ i. bad_agent X (image_row o (34 + i)) i) (length X.agents)) is
        ∙ ap (least (λ i. bad_agent B (image_row o (34 + i)) i)) (book_lengths h text).2
        ∙ least_same (λ i. bad_agent B (image_row o (34 + i)) i) (λ i. bad_agent B (line text (first_agent h + i)) i) h.agents
        (λ i l. ap (λ (r : Line). bad_agent B r i) (laid_agent m h text room long rows i l))

  abbrev after_nodes : Checked (Unit {0})
  after_nodes = do
    none_at node_use 0 0 (least (bad_use B) h.nodes)
    none_at node_use 0 0 (least (bad_scope B) h.nodes)
    none_at agent_line 0 0 (least (λ i. bad_agent B (line text (first_agent h + i)) i) h.agents)

  nodes_on : (of_nodes o >> (of_use o >> (of_scopes o >> of_agents o))) ≡ (none_at node_line 0 0 (least (bad_node B) h.nodes) >> after_nodes)
  nodes_on =
      ap (λ (f : Option ℕ). none_at node_line 0 0 f >> (of_use o >> (of_scopes o >> of_agents o))) nodes_held ∙ go (least (bad_node B) h.nodes) refl
    where
      go :
          (f : Option ℕ) → least (bad_node B) h.nodes ≡ f →
          (none_at node_line 0 0 f >> (of_use o >> (of_scopes o >> of_agents o))) ≡ (none_at node_line 0 0 f >> after_nodes)
      go None e =
          let is = whole (least_none (bad_node B) h.nodes e) in
          rw (held is bad_use, held is bad_scope, agents_held is)
      go (Some p) e = stopped node_line p (of_use o >> (of_scopes o >> of_agents o)) after_nodes

  pub program_held : (of_functions m >> from_locations o) ≡ check_program h text
  unfolding check_program
  program_held = rw (functions_held, holds.locations, nodes_on)

-- ---- refusals have numbers

pub present_numbered : (h : Header) (text : List ℕ) → Numbered (check_present h text)
unfolding check_present
present_numbered h text = none_numbered _ _ _ _ (omega arith)

pub surplus_numbered : (h : Header) (text : List ℕ) → Numbered (check_surplus h text)
unfolding check_surplus
surplus_numbered h text = must_numbered _ _ _ _ (omega arith)

pub program_numbered : (h : Header) (text : List ℕ) → Numbered (check_program h text)
unfolding check_program
program_numbered h text =
    then_ends (none_numbered _ _ _ _ (omega arith)) (then_ends (must_numbered _ _ _ _ (omega arith))
    (then_ends (none_numbered _ _ _ _ (omega arith)) (then_ends (none_numbered _ _ _ _ (omega arith))
    (then_ends (none_numbered _ _ _ _ (omega arith)) (none_numbered _ _ _ _ (omega arith))))))

-- ---- Refusal 1 on the lines after the header

-- the rows loaded, if all lines are in form
module _ (h : Header) (text m : List ℕ) (room : FitsImage h) (f : Option ℕ) where
  pub rows_found : f ≡ least_from (bad_line text) (first_entry (capped_header h) - 2) 2 → f ≡ least_from (bad_line text) (first_entry h - 2) 2
  rows_found e = e ∙ ap (λ (g : Header). least_from (bad_line text) (first_entry g - 2) 2) (within_bounds h room)

  pub rows_taken :
      (n : List ℕ) → image_length ≤ length n → n ≡ lines_loaded (capped_header h) text (lines_before 2 (first_entry (capped_header h)) f) (header_loaded (capped_header h) m) →
      (answer_of (none_at ill_formed 0 book_text f)).number ≡ 0 → HoldsLines n h text
  unfolding none_at
  rows_taken n long e z =
      go f z (e ∙ ap (λ (g : Header). lines_loaded g text (lines_before 2 (first_entry g) f) (header_loaded g m)) (within_bounds h room))
    where
      go : (f : Option ℕ) → (answer_of (none_at ill_formed 0 book_text f)).number ≡ 0 → n ≡ lines_loaded h text (lines_before 2 (first_entry h) f) (header_loaded h m) → HoldsLines n h text
      go None z e =
          let l : length n ≡ length m = ap length e ∙ length_taken h room text (header_loaded h m) (first_entry h - 2) ∙ length_headed h m in
          rw e (taken_rows h room text m (omega arith))
      go (Some p) z e = absurd (omega arith)

module _ (h : Header) (text : List ℕ) where
  abbrev rows_form : Option ℕ
  rows_form = least_from (bad_line text) (first_entry h - 2) 2

  abbrev contents_form : Option ℕ
  contents_form = least_from (bad_line text) h.contents (first_entry h)

module _ (h : Header) (text : List ℕ) (sound : least (bad_line text) 2 ≡ None) where
  after_header : least (bad_line text) (line_count h) ≡ least_from (bad_line text) (first_entry h - 2 + h.contents) 2
  after_header =
      let n : line_count h ≡ 2 + (first_entry h - 2 + h.contents) = omega arith in
      ap (least (bad_line text)) n ∙ least_rest (bad_line text) 2 (first_entry h - 2 + h.contents) 0 sound

  pub rows_refused :
      (f : Option ℕ) → f ≡ rows_form h text → (answer_of (none_at ill_formed 0 book_text f)).number ≢ 0 → none_at ill_formed 0 book_text f ≡ check_present h text
  unfolding check_present none_at
  rows_refused None e n = absurd (n refl)
  rows_refused (Some p) e n = rw (after_header ∙ least_first (bad_line text) (first_entry h - 2) h.contents 2 p (sym e))

  pub rows_passed :
      (f : Option ℕ) → f ≡ rows_form h text → (answer_of (none_at ill_formed 0 book_text f)).number ≡ 0 →
      none_at ill_formed 0 book_text (contents_form h text) ≡ check_present h text
  unfolding check_present none_at
  rows_passed None e z =
      let n : 2 + (first_entry h - 2) ≡ first_entry h = omega arith in
      let l = least_rest (bad_line text) (first_entry h - 2) h.contents 2 (sym e) in
      ap (none_at ill_formed 0 book_text) (sym (after_header ∙ l ∙ ap (least_from (bad_line text) h.contents) n))
  rows_passed (Some p) e z = absurd (omega arith)

-- ---- Refusal 8: the pass over the contents lines

-- a place counted from `first` is the place counted from 0, plus `first`
shifted :
    (n q first : ℕ) (bad : ℕ → Bool) (k j : ℕ) → none_at n 0 q (least_from (λ i. bad (i - first)) k (first + j)) ≡ none_at n first q (least_from bad k j)
unfolding least_from none_at
shifted n q first bad zero j = refl
shifted n q first bad (suc k) j =
    let e : first + j - first ≡ j = omega arith in
    let s : first + suc j ≡ suc (first + j) = omega arith in
    rw e (go (bad j) (rw s at (shifted n q first bad k (suc j))))
  where
    go :
        (t : Bool) → none_at n 0 q (least_from (λ i. bad (i - first)) k (suc (first + j))) ≡ none_at n first q (least_from bad k (suc j)) →
        none_at n 0 q (if t then Some (first + j) else least_from (λ i. bad (i - first)) k (suc (first + j)))
        ≡ none_at n first q (if t then Some j else least_from bad k (suc j))
    go true p = let z : 0 + (first + j) ≡ first + j = omega arith in rw z
    go false p = p

module _ (o : List ℕ) (h : Header) (text : List ℕ) (room : FitsImage h) (holds : HoldsText o h text) where
  first_is : first_entry_in o ≡ first_entry h
  unfolding kept_program
  first_is =
      let l = book_lengths h text in
      ap (λ (B : Program). 2 + length B.functions + length B.nodes + length B.agents) holds.program
      ∙ rw (kept_nodes (program_of h text), l.0, l.1, l.2)

  count_is : entry_count_in o ≡ h.contents
  count_is = ap (λ (n : ℕ). capped n 65536) holds.contents ∙ uncapped h.contents 65536 room.contents

  abbrev rule : Option ℕ
  rule = least_from (bad_at (program_of h text) text (first_entry h) h.contents) h.contents (first_entry h)

  rule_kept : least_from (bad_at (kept_program (program_of h text)) text (first_entry h) h.contents) h.contents (first_entry h) ≡ rule
  rule_kept =
      least_from_same (bad_at (kept_program (program_of h text)) text (first_entry h) h.contents) (bad_at (program_of h text) text (first_entry h) h.contents)
      h.contents (first_entry h) (λ i a b. entry_kept (program_of h text) (entries_from text (first_entry h) h.contents) (i - first_entry h))

  found : faults_from (program_in o) text (first_entry_in o) (entry_count_in o) ≡ faults (contents_form h text) rule
  unfolding faults_from
  found = rw (first_is, count_is, holds.program, rule_kept)

  -- every function of the image has the stride of its arity
  strided : Strided (program_in o)
  strided = subst Strided (sym holds.program) (kept_strided (program_of h text) (program_strided h text))

  module _ (r : LineFaults) (is : Strided (program_in o) → r ≡ faults_from (program_in o) text (first_entry_in o) (entry_count_in o)) where
    pub form_found : r.ill ≡ contents_form h text
    form_found = ap (λ (x : LineFaults). x.ill) (is strided ∙ found)

    pub rule_found :
        (answer_of (none_at ill_formed 0 book_text r.ill)).number ≡ 0 →
        none_at contents_rule 0 0 r.fault ≡ none_at contents_rule (first_entry h) 0 (least (bad_entry (program_of h text) (entries_of h text)) h.contents)
    unfolding none_at entries_of
    rule_found z =
        let n : first_entry h + 0 ≡ first_entry h = omega arith in
        ap (none_at contents_rule 0 0) (ap (λ (x : LineFaults). x.fault) (is strided ∙ found) ∙ go (contents_form h text) (rw form_found at z))
        ∙ (rw n at (shifted contents_rule 0 (first_entry h) (bad_entry (program_of h text) (entries_of h text)) h.contents 0))
      where
        go : (f : Option ℕ) → (answer_of (none_at ill_formed 0 book_text f)).number ≡ 0 → (faults f rule).fault ≡ rule
        go None z = refl
        go (Some p) z = absurd (omega arith)

-- ---- what the checks leave in the image

-- the image of an accepted text's rows holds its program
pub opened_text :
    (m : List ℕ) (h : Header) (text : List ℕ) → FitsImage h → image_length ≤ length m → HoldsLines m h text → ImageOf (functions_laid m) (check_text h text)
opened_text m h text room long rows b e =
    let holds = laid_holds m h text room long rows in
    let r = then_good (check_present h text) (check_surplus h text >> check_lines h text) b e in
    let s = then_good (check_surplus h text) (check_lines h text) b r.2 in
    subst (λ (x : Book). (program_in (functions_laid m) ≡ x.program) × (word (functions_laid m) 6 ≡ L x.program) × (word (functions_laid m) 5 ≡ length x.entries))
    (sym (lines_book text h b s.2))
    (whole m h text room long rows (lines_nodes text h b s.2), holds.locations, holds.contents ∙ sym (book_lengths h text).3)

-- ---- the header

bound : (a b : Checked (Unit {0})) (h : Header) (f : Header → Checked Book) → ((a >> (b >> good h)) >>= f) ≡ (a >> (b >> f h))
unfolding ◌>>◌ ◌>>=◌
bound (good x) (good y) h f = refl
bound (good x) (refused n p q) h f = refl
bound (refused n p q) b h f = refl

module _ (text : List ℕ) where
  abbrev pub of_line : ℕ → Checked (Unit {0})
  of_line i = must (well_formed (line_bytes text i)) ill_formed i book_text

  abbrev pub of_bounds : Checked (Unit {0})
  of_bounds = none_at header_bounds 0 0 (least (bad_field (line text 0) (line text 1)) 8)

  abbrev pub header : Header
  header = header_of (line text 0) (line text 1)

  two_lines : (d : Checked Book) → (of_line 0 >> (of_line 1 >> d)) ≡ (none_at ill_formed 0 book_text (least (bad_line text) 2) >> d)
  unfolding must none_at least_from ◌>>◌
  two_lines d = go (well_formed (line_bytes text 0)) (well_formed (line_bytes text 1))
    where
      go :
          (a b : Bool) → (must a ill_formed 0 book_text >> (must b ill_formed 1 book_text >> d))
          ≡ (none_at ill_formed 0 book_text (if not a then Some 0 else if not b then Some 1 else None) >> d)
      go true true = refl
      go true false = refl
      go false b = refl

  pub book_chain : (of_line 0 >> (of_line 1 >> (of_bounds >> check_text header text))) ≡ check_book text
  unfolding check_book check_header
  book_chain =
      two_lines (of_bounds >> check_text header text)
      ∙ sym (bound (none_at ill_formed 0 book_text (least (bad_line text) 2)) of_bounds header (λ h. check_text h text))

  -- if both header lines are in form, no header line is ill-formed
  pub lines_sound : well_formed (line_bytes text 0) ≡ true → well_formed (line_bytes text 1) ≡ true → least (bad_line text) 2 ≡ None
  unfolding least_from
  lines_sound a b = rw (a, b)

  header_good : least (bad_line text) 2 ≡ None → least (bad_field (line text 0) (line text 1)) 8 ≡ None → check_header text ≡ good header
  unfolding check_header none_at ◌>>◌
  header_good p q = rw (p, q)

  pub header_room : least (bad_line text) 2 ≡ None → least (bad_field (line text 0) (line text 1)) 8 ≡ None → FitsImage header
  header_room p q =
      let b = header_bounded text header (header_good p q) in
      record {
        elements = b.elements.1;
        permanent = omega (arith, b.permanent, b.elements);
        functions = b.functions.1;
        nodes = b.nodes.1;
        agents = b.agents.1;
        contents = b.contents;
      }

-- a header line whose check passes is in form
pub line_passed : (t : Bool) (p : ℕ) (a : Answer) → a ≡ answer_of (must t ill_formed p book_text) → a.number ≡ 0 → t ≡ true
unfolding must
line_passed true p a e z = refl
line_passed false p a e z = absurd (omega (arith, ap (λ (x : Answer). x.number) e))

pub bounds_passed : (f : Option ℕ) (a : Answer) → a ≡ answer_of (none_at header_bounds 0 0 f) → a.number ≡ 0 → f ≡ None
unfolding none_at
bounds_passed None a e z = refl
bounds_passed (Some p) a e z = absurd (omega (arith, ap (λ (x : Answer). x.number) e))

pub opened_same : (m : List ℕ) (c d : Checked Book) → c ≡ d → ImageOf m d → ImageOf m c
opened_same m c d e o b q = o b (sym e ∙ q)
