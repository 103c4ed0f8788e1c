-- The contents lines of an accepted book, put one by one over the defaults, are the start of a run.
use mathlib.Core.Path.{◌≡◌, refl, sym, ap, ◌∙◌}
use mathlib.Core.Bool.{true, false, and-false}
use mathlib.Core.List.{List, ◌++◌}
use Prim.Native.Nat.{ℕ, zero, suc, ◌+◌, ◌-◌, ◌≤◌, ◌<◌}
use native.Mathlib.Numerals.{add-one}
use native.Mathlib.Nat.{mod-eq_of_lt}
use native.Mathlib.Omega.{arith}
use lib.ListN.{length, get_or, set, drop, length-set}
use lib.Seq.{set-append_left}
use Rattle.text.specs.declared.Line.{Line}
use Rattle.text.specs.Words.{table_from, table, good}
use Rattle.text.specs.Text.{line}
use Rattle.text.proofs.Words.{so_true, length_table_from, getD_table}
use Rattle.book.specs.declared.Header.{Header}
use Rattle.book.specs.declared.Entry.{Entry}
use Rattle.book.specs.Book.{Program, Book, L, size, function_at, no_entry, entry_at, entry_location, default_at, defaults, enter, start}
use Rattle.book.specs.Sum.{Fitting}
use Rattle.book.specs.Lines.{first_entry, entry_of, entries_of}
use Rattle.book.specs.Contents.{in_bounds, entry_fits, bad_entry}
use Rattle.book.specs.Image.{word, capped, program_in, first_entry_in, low_program}
use Rattle.book.specs.Check.{check_header, check_lines, check_book}
use Rattle.book.specs.Sound.{Lawful}
use Rattle.book.proofs.Accepted.{header_bounded, lines_book, book_lengths, accepted_lines, accepted, accepted_entries}
use Rattle.book.proofs.Places.{located}
use Rattle.book.proofs.Start.{in_bounds_is, entry_fitting}
use Rattle.book.proofs.Sum.{sum_location}
use Rattle.book_parts.proofs.Parts.{between_inside, part_numbered, part_own}
use Rattle.book.proofs.Image.{uncapped}
use Rattle.contents_start.specs.Written.{defaults_in, entry_put, entries_put, entry_lines, started}
use Rattle.contents_start.proofs.Defaults.{defaults_long}

-- ---- the loop over the contents lines

module _ (B : Program) (at : ℕ → Line) where
  pub lines_next : (n i : ℕ) (c d : List ℕ) → i < n → d ≡ entry_put B (at i) c
      → entries_put B (table_from at (i + 1) (n - (i + 1))) d ≡ entries_put B (table_from at i (n - i)) c
  unfolding entries_put table_from
  lines_next n i c d h e = let f : n - i ≡ suc (n - suc i) = omega arith in rw (e, add-one i, f)

  pub lines_last : (n i : ℕ) (c : List ℕ) → n ≤ i → entries_put B (table_from at i (n - i)) c ≡ c
  unfolding entries_put table_from
  lines_last n i c h = let e : n - i ≡ 0 = omega arith in rw e

-- ---- lines that are in bounds

record Small (B : Program) (l : Line) : Type 0 where
  pub function : l.a < length B.functions
  pub first : l.b < B.E
  pub second : l.c < B.E
  pub value : l.d < B.E
  pub fitting : Fitting (function_at B l.a).arity l.b l.c

module _ (B : Program) (ok : Lawful B) (few : length B.functions ≤ 32) (rest : List ℕ) where
  put_same : (l : Line) (c : List ℕ) → length c ≡ L B → Small B l → entry_put B l (c ++ rest) ≡ set c (entry_location B (entry_of l)) l.d ++ rest
  put_same l c e s =
      let inside = (located B ok l.a l.b l.c s.function s.first s.second).inside in
      let f = function_at B l.a in
      let own : entry_location B (entry_of l) < f.first + size B.E f.arity =
      rw (part_own B ok l.a l.b l.c s.function s.first s.second) at (part_numbered B (entry_location B (entry_of l)) inside).inside in
      rw (
        mod-eq_of_lt {n = l.a} {m = 65536} (omega (arith, s.function)),
        mod-eq_of_lt {n = l.b} {m = 65536} (omega (arith, s.first, ok.elements)),
        mod-eq_of_lt {n = l.c} {m = 65536} (omega (arith, s.second, ok.elements)),
        mod-eq_of_lt {n = l.d} {m = 65536} (omega (arith, s.value, ok.elements)),
        sum_location B ok.strides l.a l.b l.c s.fitting,
        between_inside f.first (f.first + size B.E f.arity) (entry_location B (entry_of l)) (omega arith) own,
      ) (set-append_left c rest (entry_location B (entry_of l)) l.d (omega (arith, e, inside)))

  put_all : (at : ℕ → Line) (i n : ℕ) (c : List ℕ) → length c ≡ L B → ((k : ℕ) → i ≤ k → k < i + n → Small B (at k))
      → entries_put B (table_from at i n) (c ++ rest) ≡ enter B (table_from (λ k. entry_of (at k)) i n) c ++ rest
  unfolding entries_put enter table_from
  put_all at i zero c e s = refl
  put_all at i (suc n) c e s =
      ap (λ (x : List ℕ). entries_put B (table_from at (suc i) n) x) (put_same (at i) c e (s i (omega arith) (omega arith)))
      ∙ put_all at (suc i) n (set c (entry_location B (entry_of (at i))) (at i).d) (length-set c (entry_location B (entry_of (at i))) (at i).d ∙ e)
      (λ k h l. s k (omega arith) (omega arith))

-- ---- an accepted book

in_range : (B : Program) (es : List Entry) (i : ℕ) → bad_entry B es i ≡ false → in_bounds B (entry_at es i) ≡ true
unfolding bad_entry
in_range B es i h = so_true (in_bounds B (entry_at es i)) (bad_entry B es i) h (λ q. simp q)

in_form : (B : Program) (es : List Entry) (i : ℕ) → bad_entry B es i ≡ false → entry_fits B.P (entry_at es i) (function_at B (entry_at es i).function) ≡ true
unfolding bad_entry
in_form B es i h = so_true (entry_fits B.P (entry_at es i) (function_at B (entry_at es i).function)) (bad_entry B es i) h (λ q. simp (q, and-false))

entries_are : (h : Header) (text : List ℕ) → entries_of h text ≡ table (λ i. entry_of (line text (first_entry h + i))) h.contents
unfolding entries_of
entries_are h text = refl

-- m is an image that holds the book
module _ (text : List ℕ) (b : Book) (passes : check_book text ≡ good b) (m : List ℕ) (is : program_in m ≡ b.program) (count : word m 5 ≡ length b.entries) where
  abbrev B : Program
  B = b.program

  abbrev at : ℕ → Line
  at i = line text (first_entry_in m + i)

  -- what the text says of the book
  record Said : Type 0 where
    pub few : length B.functions ≤ 32
    pub lines : entry_lines m text ≡ table at (length b.entries)
    pub entries : b.entries ≡ table (λ i. entry_of (at i)) (length b.entries)

  said : Said
  said =
      let r = accepted_lines text b passes in
      go r.0 r.1 r.2
    where
      go : (h : Header) → check_header text ≡ good h → check_lines h text ≡ good b → Said
      go h p q =
          let k = header_bounded text h p in
          let s = lines_book text h b q in
          let long = book_lengths h text in
          let first : first_entry_in m ≡ first_entry h =
          ap (λ (X : Program). 2 + length X.functions + length X.nodes + length X.agents) (is ∙ ap (λ (x : Book). x.program) s) ∙ rw (long.0, long.1, long.2) in
          let many : length b.entries ≡ h.contents = ap (λ (x : Book). length x.entries) s ∙ long.3 in
          record {
            few = omega (arith, ap (λ (x : Book). length x.program.functions) s, long.0, k.functions.1);
            lines = ap (table at) (ap (λ (n : ℕ). capped n 65536) count ∙ uncapped (length b.entries) 65536 (omega (arith, many, k.contents)));
            entries =
                ap (λ (x : Book). x.entries) s ∙ entries_are h text
                ∙ sym (ap (λ (n : ℕ). table (λ i. entry_of (line text (n + i))) (length b.entries)) first
                ∙ ap (λ (n : ℕ). table (λ i. entry_of (line text (first_entry h + i))) n) many);
          }

  small : Said → (k : ℕ) → k < length b.entries → Small B (at k)
  small s k h =
      let e : entry_at b.entries k ≡ entry_of (at k) =
      ap (λ (es : List Entry). get_or es k no_entry) s.entries ∙ getD_table (λ i. entry_of (at i)) (length b.entries) k no_entry h in
      let right = accepted_entries text b passes k h in
      let inside = in_bounds_is B (entry_of (at k)) (rw e at (in_range B b.entries k right)) in
      let form = rw e at (in_form B b.entries k right) in
      record {
        function = inside.0;
        first = inside.1;
        second = inside.2;
        value = inside.3;
        fitting = entry_fitting B.P (entry_of (at k)) (function_at B (at k).a) form;
      }

  -- what is written into a table that is long enough is the start of a run
  pub start_is : (c : List ℕ) → low_program m ≡ B → L B ≤ length c → started m text c ≡ start b ++ drop (L B) c
  unfolding defaults start
  start_is c low_program long =
      let s = said in
      let n : ℕ = length b.entries in
      let rest : List ℕ = drop (L B) c in
      ap (λ (X : Program). entries_put X (entry_lines m text) (defaults_in X c)) low_program
      ∙ ap (λ (ls : List Line). entries_put B ls (defaults_in B c)) s.lines
      ∙ ap (λ (d : List ℕ). entries_put B (table at n) d) (defaults_long B c long)
      ∙ put_all B (accepted text b passes) s.few rest at 0 n (defaults B) (length_table_from (default_at B) 0 (L B))
      (λ k h l. small s k (omega arith))
      ∙ ap (λ (es : List Entry). enter B es (defaults B) ++ rest) (sym s.entries)
