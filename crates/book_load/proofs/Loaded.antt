-- The rows loaded from a text are its lines, and an image laid out from them holds the text's program.
use mathlib.Core.Path.{◌≡◌, refl, sym, ◌∙◌, ap}
use mathlib.Core.Logic.{◌≢◌, dite}
use mathlib.Core.List.{List}
use Prim.Native.Nat.{ℕ, zero, suc, ◌+◌, ◌-◌, ◌<◌, ◌≤◌}
use native.Mathlib.Decide.{ℕ_discrete, dec_lt}
use native.Mathlib.Omega.{arith}
use lib.ListN.{length}
use borrow.Author.Tests.{lt-ltb, le-ltb}
use Rattle.text.specs.declared.Line.{Line}
use Rattle.text.specs.Text.{line}
use Rattle.text.proofs.Words.{table_ext, map_table}
use Rattle.book.specs.declared.Header.{Header}
use Rattle.book.specs.Lines.{first_function, first_node, first_agent, first_entry, node_of, line_agent, program_of}
use Rattle.book.specs.Image.{image_length, word, image_row, node_in, image_function, program_in, kept_node, kept_program, HoldsText, FitsImage, stored, node_stored, filled, first_location, laid_row}
use Rattle.book.proofs.Image.{uncapped, length_stored, stored_other, stored_same, length_node_stored, node_stored_same, node_stored_other, node_stored_row, stored_node, length_filled, filled_below, filled_above, filled_node, filled_in, laid, total_laid}
use Rattle.book_load.specs.Loaded.{line_loaded, head_row, tail_row, header_loaded, lines_loaded, HoldsLines, functions_laid as laid_out}

-- ---- lines put one by one

module _ (h : Header) where
  -- line i is that of a function, of a node or of an agent
  data Stands (i : ℕ) (l : Line) (m : List ℕ) : Type 0 where
    function : i < first_node h → line_loaded h i l m ≡ stored i l m → Stands i l m
    node : first_node h ≤ i → i < first_agent h → line_loaded h i l m ≡ node_stored (i - first_node h) (node_of l) m → Stands i l m
    agent : first_agent h ≤ i → line_loaded h i l m ≡ stored (34 + (i - first_agent h)) l m → Stands i l m

  stands : (i : ℕ) (l : Line) (m : List ℕ) → Stands i l m
  stands i l m = go (dec_lt i (first_node h)) (dec_lt i (first_agent h))
    where
      go : Dec (i < first_node h) → Dec (i < first_agent h) → Stands i l m
      go (yes a) b = function a (rw (lt-ltb i (first_node h) a))
      go (no a) (yes b) = node (omega arith) b (rw (le-ltb i (first_node h) (omega arith), lt-ltb i (first_agent h) b))
      go (no a) (no b) = agent (omega arith) (rw (le-ltb i (first_node h) (omega arith), le-ltb i (first_agent h) (omega arith)))

  length_put : (i : ℕ) (l : Line) (m : List ℕ) → length (line_loaded h i l m) ≡ length m
  length_put i l m = go (stands i l m)
    where
      go : Stands i l m → length (line_loaded h i l m) ≡ length m
      go (function a e) = rw e (length_stored i l m)
      go (node a b e) = rw e (length_node_stored (i - first_node h) (node_of l) m)
      go (agent a e) = rw e (length_stored (34 + (i - first_agent h)) l m)

  -- a row that is not that of line i stays
  row_stays :
      (i : ℕ) (l : Line) (m : List ℕ) (r : ℕ) → r < 50 → (i < first_node h → i ≢ r) → (first_agent h ≤ i → 34 + (i - first_agent h) ≢ r) →
      image_row (line_loaded h i l m) r ≡ image_row m r
  row_stays i l m r b f g = go (stands i l m)
    where
      go : Stands i l m → image_row (line_loaded h i l m) r ≡ image_row m r
      go (function a e) = rw e (stored_other i l m r (λ p. f a (sym p)))
      go (node a c e) = rw e (node_stored_row (i - first_node h) (node_of l) m r b)
      go (agent a e) = rw e (stored_other (34 + (i - first_agent h)) l m r (λ p. g a (sym p)))

  -- a node that is not that of line i stays
  node_stays :
      FitsImage h → (i : ℕ) (l : Line) (m : List ℕ) (n : ℕ) → i < first_entry h → i ≢ first_node h + n → node_in (line_loaded h i l m) n ≡ node_in m n
  node_stays room i l m n b f = go (stands i l m)
    where
      go : Stands i l m → node_in (line_loaded h i l m) n ≡ node_in m n
      go (function a e) = rw e (stored_node i l m n (omega (arith, room.functions)))
      go (node a c e) = rw e (node_stored_other (i - first_node h) (node_of l) m n (λ p. f (omega arith)))
      go (agent a e) = rw e (stored_node (34 + (i - first_agent h)) l m n (omega (arith, room.agents)))

module _ (h : Header) (room : FitsImage h) (text m : List ℕ) where
  pub length_taken : (k : ℕ) → length (lines_loaded h text k m) ≡ length m
  unfolding lines_loaded
  length_taken zero = refl
  length_taken (suc k) = length_put h (2 + k) (line text (2 + k)) (lines_loaded h text k m) ∙ length_taken k

  taken_head : (k q : ℕ) → q < 2 → image_row (lines_loaded h text k m) q ≡ image_row m q
  unfolding lines_loaded
  taken_head zero q l = refl
  taken_head (suc k) q l =
      row_stays h (2 + k) (line text (2 + k)) (lines_loaded h text k m) q (omega arith) (λ a e. omega arith) (λ a e. omega arith) ∙ taken_head k q l

  module _ (long : image_length ≤ length m) where
    taken_function : (k f : ℕ) → f < k → f < h.functions → image_row (lines_loaded h text k m) (2 + f) ≡ line text (2 + f)
    unfolding lines_loaded
    taken_function zero f l g = absurd (omega arith)
    taken_function (suc k) f l g =
        dite (ℕ_discrete f k)
        (λ (e : f ≡ k).
        rw (e, lt-ltb (2 + k) (first_node h) (omega arith))
        (stored_same (2 + k) (line text (2 + k)) (lines_loaded h text k m) (omega (arith, room.functions, length_taken k))))
        (λ (e : ¬ (f ≡ k)).
        row_stays h (2 + k) (line text (2 + k)) (lines_loaded h text k m) (2 + f) (omega (arith, room.functions)) (λ a p. omega arith) (λ a p. omega arith)
        ∙ taken_function k f (omega arith) g)

    taken_node :
        (k n : ℕ) → h.functions + n < k → 2 + k ≤ first_entry h → n < h.nodes →
        node_in (lines_loaded h text k m) n ≡ kept_node (node_of (line text (first_node h + n)))
    unfolding lines_loaded
    taken_node zero n l b g = absurd (omega arith)
    taken_node (suc k) n l b g =
        dite (ℕ_discrete (h.functions + n) k)
        (λ (e : h.functions + n ≡ k).
        let i : 2 + k ≡ first_node h + n = omega arith in
        let d : first_node h + n - first_node h ≡ n = omega arith in
        rw (i, le-ltb (first_node h + n) (first_node h) (omega arith), lt-ltb (first_node h + n) (first_agent h) (omega arith), d)
        (node_stored_same n (node_of (line text (first_node h + n))) (lines_loaded h text k m) (omega (arith, room.nodes, length_taken k))))
        (λ (e : ¬ (h.functions + n ≡ k)).
        node_stays h room (2 + k) (line text (2 + k)) (lines_loaded h text k m) n (omega arith) (λ p. omega arith)
        ∙ taken_node k n (omega arith) (omega arith) g)

    taken_agent :
        (k i : ℕ) → h.functions + h.nodes + i < k → 2 + k ≤ first_entry h → i < h.agents →
        image_row (lines_loaded h text k m) (34 + i) ≡ line text (first_agent h + i)
    unfolding lines_loaded
    taken_agent zero i l b g = absurd (omega arith)
    taken_agent (suc k) i l b g =
        dite (ℕ_discrete (h.functions + h.nodes + i) k)
        (λ (e : h.functions + h.nodes + i ≡ k).
        let j : 2 + k ≡ first_agent h + i = omega arith in
        let d : first_agent h + i - first_agent h ≡ i = omega arith in
        rw (j, le-ltb (first_agent h + i) (first_node h) (omega arith), le-ltb (first_agent h + i) (first_agent h) (omega arith), d)
        (stored_same (34 + i) (line text (first_agent h + i)) (lines_loaded h text k m) (omega (arith, room.agents, length_taken k))))
        (λ (e : ¬ (h.functions + h.nodes + i ≡ k)).
        row_stays h (2 + k) (line text (2 + k)) (lines_loaded h text k m) (34 + i) (omega (arith, room.agents)) (λ a p. omega (arith, room.functions))
        (λ a p. omega arith)
        ∙ taken_agent k i (omega arith) (omega arith) g)

-- all lines loaded: the image holds the lines of the text
pub taken_rows :
    (h : Header) → FitsImage h → (text m : List ℕ) → image_length ≤ length m → HoldsLines (lines_loaded h text (first_entry h - first_function) (header_loaded h m)) h text
unfolding header_loaded
taken_rows h room text m long =
    let k = first_entry h - first_function in
    let s = stored 0 (head_row h) m in
    let n = stored 1 (tail_row h.agents h.contents 0) s in
    let long1 : image_length ≤ length s = rw (length_stored 0 (head_row h) m) long in
    let long2 : image_length ≤ length n = rw (length_stored 1 (tail_row h.agents h.contents 0) s) long1 in
    record {
      head =
          taken_head h room text n k 0 (omega arith) ∙ stored_other 1 (tail_row h.agents h.contents 0) s 0 (λ e. omega arith)
          ∙ stored_same 0 (head_row h) m (omega arith);
      tail = taken_head h room text n k 1 (omega arith) ∙ stored_same 1 (tail_row h.agents h.contents 0) s (omega arith);
      function = λ f l. taken_function h room text n long2 k f (omega arith) l;
      node = λ f l. taken_node h room text n long2 k f (omega arith) (omega arith) l;
      agent = λ i l. taken_agent h room text n long2 k i (omega arith) (omega arith) l;
    }

pub length_headed : (h : Header) (m : List ℕ) → length (header_loaded h m) ≡ length m
unfolding header_loaded
length_headed h m = length_stored 1 (tail_row h.agents h.contents 0) (stored 0 (head_row h) m) ∙ length_stored 0 (head_row h) m

-- the lines up to i + 1 loaded are those up to i, and line i
pub taken_step :
    (h : Header) (text m : List ℕ) (i : ℕ) → first_function ≤ i →
    lines_loaded h text (i + 1 - first_function) m ≡ line_loaded h i (line text i) (lines_loaded h text (i - first_function) m)
unfolding lines_loaded
taken_step h text m i l =
    let e : i + 1 - 2 ≡ suc (i - 2) = omega arith in
    let f : 2 + (i - 2) ≡ i = omega arith in
    rw (e, f)

pub taken_none : (h : Header) (text m : List ℕ) → lines_loaded h text 0 m ≡ m
unfolding lines_loaded
taken_none h text m = refl

-- ---- functions laid out

pub other_rows :
    (l : Line) (image m : List ℕ) (i : ℕ) → ((j : ℕ) → i ≤ j → image_row image (2 + j) ≡ image_row m (2 + j)) →
    (j : ℕ) → i + 1 ≤ j → image_row (stored (2 + i) l image) (2 + j) ≡ image_row m (2 + j)
other_rows l image m i same j g = stored_other (2 + i) l image (2 + j) (λ e. omega arith) ∙ same j (omega arith)

first_same : (f g : ℕ → Line) (E n : ℕ) → ((i : ℕ) → i < n → f i ≡ g i) → first_location f E n ≡ first_location g E n
unfolding first_location
first_same f g E zero e = refl
first_same f g E (suc n) e = rw (first_same f g E n (λ i l. e i (omega arith)), e n (omega arith))

module _ (m : List ℕ) (h : Header) (text : List ℕ) (room : FitsImage h) (long : image_length ≤ length m) (rows : HoldsLines m h text) where
  abbrev at : ℕ → Line
  at f = image_row m (2 + f)

  abbrev says : ℕ → Line
  says f = line text (2 + f)

  abbrev tail : Line
  tail = tail_row h.agents h.contents (first_location at h.elements h.functions)

  abbrev below : List ℕ
  below = filled (laid_row at h.elements) 2 h.functions 0 m

  abbrev whole : List ℕ
  whole = stored 1 tail below

  is_whole : laid_out m ≡ whole
  unfolding laid_out
  is_whole =
      rw (
        ap (λ (l : Line). l.a) rows.head,
        ap (λ (l : Line). l.c) rows.head,
        ap (λ (l : Line). l.a) rows.tail,
        ap (λ (l : Line). l.b) rows.tail,
        uncapped h.elements 10000 room.elements,
        uncapped h.functions 32 room.functions,
      )

  row_head : image_row whole 0 ≡ head_row h
  row_head =
      stored_other 1 tail below 0 (λ e. omega arith) ∙ filled_below (laid_row at h.elements) 2 h.functions 0 m 0 (omega arith) ∙ rows.head

  row_tail : image_row whole 1 ≡ tail
  row_tail = stored_same 1 tail below (rw (length_filled (laid_row at h.elements) 2 h.functions 0 m) (omega arith))

  row_function : (f : ℕ) → f < h.functions → image_row whole (2 + f) ≡ laid_row says h.elements f
  row_function f l =
      stored_other 1 tail below (2 + f) (λ e. omega arith)
      ∙ filled_in (laid_row at h.elements) 2 h.functions 0 m (omega (arith, room.functions)) f (omega arith) (omega arith)
      ∙ rw (
        first_same at says h.elements f (λ i g. rows.function i (omega arith)),
        ap (λ (r : Line). r.a) (rows.function f l),
        ap (λ (r : Line). r.b) (rows.function f l),
      )

  row_agent : (i : ℕ) → i < h.agents → image_row whole (34 + i) ≡ line text (first_agent h + i)
  row_agent i l =
      stored_other 1 tail below (34 + i) (λ e. omega arith)
      ∙ filled_above (laid_row at h.elements) 2 h.functions 0 m (34 + i) (omega (arith, room.functions))
      ∙ rows.agent i l

  row_node : (n : ℕ) → n < h.nodes → node_in whole n ≡ kept_node (node_of (line text (first_node h + n)))
  row_node n l =
      stored_node 1 tail below n (omega arith) ∙ filled_node (laid_row at h.elements) 2 h.functions 0 m n (omega (arith, room.functions))
      ∙ rows.node n l

  word0 : word whole 0 ≡ h.elements
  word0 = ap (λ (l : Line). l.a) row_head

  word1 : word whole 1 ≡ h.permanent
  word1 = ap (λ (l : Line). l.b) row_head

  word2 : word whole 2 ≡ h.functions
  word2 = ap (λ (l : Line). l.c) row_head

  word3 : word whole 3 ≡ h.nodes
  word3 = ap (λ (l : Line). l.d) row_head

  word4 : word whole 4 ≡ h.agents
  word4 = ap (λ (l : Line). l.a) row_tail

  whole_holds : HoldsText whole h text
  unfolding program_in program_of kept_program
  whole_holds =
      record {
        program =
            rw (
              word0,
              word1,
              word2,
              word3,
              word4,
              uncapped h.elements 10000 room.elements,
              uncapped h.functions 32 room.functions,
              uncapped h.nodes 1024 room.nodes,
              uncapped h.agents 16 room.agents,
              table_ext (λ f. image_function (image_row whole (2 + f))) (λ f. image_function (laid_row says h.elements f)) h.functions
                  (λ f l. ap image_function (row_function f l))
                  ∙ sym (laid says h.elements h.functions),
              table_ext (node_in whole) (λ n. kept_node (node_of (line text (first_node h + n)))) h.nodes row_node
                  ∙ sym (map_table kept_node (λ n. node_of (line text (first_node h + n))) h.nodes),
              table_ext (λ i. line_agent (image_row whole (34 + i))) (λ i. line_agent (line text (first_agent h + i))) h.agents
                  (λ i l. ap line_agent (row_agent i l)),
            );
        contents = ap (λ (l : Line). l.b) row_tail;
        locations =
            ap (λ (l : Line). l.c) row_tail ∙ first_same at says h.elements h.functions (λ i g. rows.function i g)
            ∙ total_laid says h.elements h.functions;
      }

  pub laid_holds : HoldsText (laid_out m) h text
  laid_holds = rw is_whole whole_holds

  -- the rows of the agents stay when the functions are laid out
  pub laid_agent : (i : ℕ) → i < h.agents → image_row (laid_out m) (34 + i) ≡ line text (first_agent h + i)
  laid_agent i l = rw is_whole (row_agent i l)
