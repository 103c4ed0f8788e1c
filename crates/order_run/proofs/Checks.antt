-- The checks before the first move: what passing them shows, and the answer if one of them refuses.
use Rattle.std.proofs.Common.{◌≡◌, ℕ, ◌≤◌, ◌≢◌, List, [], length, sym, refl, ap, ◌∙◌, subst, arith}
use Rattle.std.specs.Prelude.{Result, Ok, IfOk}
use Rattle.std.proofs.lemmas.Result.{IfOk-at_ok, IfOk-weaker}
use Rattle.text.specs.declared.Reason.{Reason}
use Rattle.text.specs.declared.Refusal.{Refusal}
use Rattle.text.specs.Words.{Answer, told, Checked, good, refused, ◌>>=◌, ◌>>◌, answer_of}
use Rattle.text.proofs.Words.{bind_good, then_good, good_same}
use Rattle.text.proofs.Checks.{bind_stops, then_stops, passing}
use Rattle.book.specs.Book.{Program, Book, L, start}
use Rattle.book.specs.Check.{check_book}
use Rattle.book.specs.Image.{word, low_program}
use Rattle.book.proofs.Claims.{accepted_book}
use Rattle.book.proofs.Held.{held_agents_most}
use Rattle.engine.specs.Labels.{no_labels}
use Rattle.order.specs.declared.Lengths.{Lengths}
use Rattle.order.specs.Log.{Log, check_agents, read_log, check_log}
use Rattle.order.specs.Call.{lengths, check_lengths, check_lent, check_all, left_past, log_answer, log_call}
use Rattle.order.specs.Run.{run_log}
use Rattle.order.specs.Lists.{lists_of, call_lists}
use Rattle.order.specs.Table.{OrderTable}
use Rattle.order.proofs.Log.{log_read, passed}
use Rattle.order.proofs.Numbers.{Early, off, all_early}
use Rattle.order_log.specs.Read.{LogIsRead}
use Rattle.order_log.specs.Agents.{check_agents_in}
use Rattle.order_log.proofs.Agents.{log_checked}
use Rattle.order_run.proofs.RunTables.{Enough, lengths_good}
use Rattle.book_check.specs.ImageOf as image
use Rattle.book_check.proofs.Fits.{low_program_is}
use Rattle.order_run.specs.declared.CheckedCall.{CheckedCall}
use Rattle.order_run.specs.Runs.{Runnable, answer_with}
use Rattle.order_run.specs.Checked.{CallChecked, run_lists}
use Rattle.engine.specs.Tables.{Tables}

-- ---- the checks, one after the other

module _ (book log : List ℕ) (n : Lengths) where
  abbrev all : Checked (Book × Log)
  all = check_all book log n

  -- the checks after the book and the log
  abbrev rest : Book → Log → Checked (Book × Log)
  rest B g = check_lent B.program n >> good (B, g)

  after_book : (B : Book) → check_book book ≡ good B → all ≡ (check_log B.program log >>= rest B)
  unfolding check_all ◌>>=◌
  after_book B e = rw e

  after_log : (B : Book) (g : Log) → check_book book ≡ good B → check_log B.program log ≡ good g → all ≡ rest B g
  unfolding ◌>>=◌
  after_log B g e f = after_book B e ∙ rw f

  -- no check refuses with number 0
  not_zero : (p q : ℕ) → all ≡ refused 0 p q → ⊥
  not_zero p q e = go (subst Early e (all_early book log n))
    where
      go : Early (refused 0 p q) → ⊥
      go (off h) = omega arith

  pub all_parts : (B : Book) (g : Log) → all ≡ good (B, g) → (check_book book ≡ good B) × (check_log B.program log ≡ good g) × (check_lent B.program n ≡ good tt)
  unfolding check_all
  all_parts B g e =
      let r = bind_good (check_book book) _ (B, g) e in
      let s = bind_good (check_log r.0.program log) _ (B, g) r.2 in
      let t = then_good (check_lent r.0.program n) (good (r.0, s.0)) (B, g) s.2 in
      let q = good_same (r.0, s.0) (B, g) t.2 in
      let b : r.0 ≡ B = ap (λ (x : Book × Log). x.0) q in
      let h : s.0 ≡ g = ap (λ (x : Book × Log). x.1) q in (
        r.1 ∙ ap (λ (x : Book). good x) b,
        subst (λ (x : Book). check_log x.program log ≡ good g) b (s.1 ∙ ap (λ (x : Log). good x) h),
        subst (λ (x : Book). check_lent x.program n ≡ good tt) b t.1,
      )

  pub all_good : (answer_of all).number ≡ 0 → (x : Book × Log) × (all ≡ good x)
  all_good z = go all refl z
    where
      go : (o : Checked (Book × Log)) → all ≡ o → (answer_of o).number ≡ 0 → (x : Book × Log) × (all ≡ good x)
      go (good x) e z = (x, e)
      go (refused m p q) e z = absurd (not_zero p q (e ∙ ap (λ (k : ℕ). refused k p q) z))

  good_zero : (x : Book × Log) → all ≡ good x → (answer_of all).number ≡ 0
  good_zero x e = ap (λ (o : Checked (Book × Log)). (answer_of o).number) e

  -- ---- a check that refuses

  book_stops : (answer_of (check_book book)).number ≢ 0 → answer_of (check_book book) ≡ answer_of all
  unfolding check_all ◌>>=◌
  book_stops z = go (check_book book) z
    where
      go : (o : Checked Book) → (answer_of o).number ≢ 0 → answer_of o ≡ answer_of (o >>= (λ B. check_log B.program log >>= rest B))
      go (good B) z = absurd (z refl)
      go (refused m p q) z = refl

  book_good : (answer_of (check_book book)).number ≡ 0 → (B : Book) × (check_book book ≡ good B)
  unfolding check_all ◌>>=◌
  book_good z = go (check_book book) refl z
    where
      go : (o : Checked Book) → check_book book ≡ o → (answer_of o).number ≡ 0 → (B : Book) × (check_book book ≡ good B)
      go (good B) w z = (B, w)
      go (refused m p q) w z = absurd (not_zero p q (rw (w, z)))

  module _ (B : Book) (is : check_book book ≡ good B) where
    abbrev A : ℕ
    A = length B.program.agents

    abbrev E : ℕ
    E = B.program.E

    log_stops : (answer_of (check_log B.program log)).number ≢ 0 → answer_of (check_log B.program log) ≡ answer_of all
    log_stops z = sym (ap answer_of (after_book B is) ∙ bind_stops (check_log B.program log) (rest B) z)

    read_stops : (answer_of (read_log A E log)).number ≢ 0 → answer_of (read_log A E log) ≡ answer_of all
    unfolding check_log
    read_stops z =
        let e = bind_stops (read_log A E log) (λ g. check_agents g >> good g) z in
        sym e ∙ log_stops (λ y. z (ap (λ (a : Answer). a.number) (sym e) ∙ y))

    read_good : (answer_of (read_log A E log)).number ≡ 0 → (g : Log) × (read_log A E log ≡ good g)
    unfolding check_log ◌>>=◌
    read_good z = go (read_log A E log) refl z
      where
        go : (o : Checked Log) → read_log A E log ≡ o → (answer_of o).number ≡ 0 → (g : Log) × (read_log A E log ≡ good g)
        go (good g) w z = (g, w)
        go (refused m p q) w z = absurd (not_zero p q (after_book B is ∙ rw (w, z)))

    -- refusal 10, by the table t of the log g, which passed refusals 1 and 9
    module _ (g : Log) (says : read_log A E log ≡ good g) (t : List ℕ) (ordered : OrderTable g t) (few : A ≤ 16) where
      abbrev ten : Checked (Unit {0})
      ten = check_agents_in t (length g.moves)

      is_log : check_log B.program log ≡ (ten >> good g)
      is_log = log_checked B.program log g t few says ordered

      ten_stops : (answer_of ten).number ≢ 0 → answer_of ten ≡ answer_of all
      ten_stops z =
          let e : answer_of (check_log B.program log) ≡ answer_of ten = ap answer_of is_log ∙ then_stops ten (good g) z in
          sym e ∙ log_stops (λ y. z (ap (λ (a : Answer). a.number) (sym e) ∙ y))

      ten_good : (answer_of ten).number ≡ 0 → check_log B.program log ≡ good g
      unfolding ◌>>◌ ◌>>=◌
      ten_good z = go ten refl z
        where
          go : (o : Checked (Unit {0})) → ten ≡ o → (answer_of o).number ≡ 0 → check_log B.program log ≡ good g
          go (good u) w z = is_log ∙ rw w
          go (refused m p q) w z = absurd (not_zero p q (after_book B is ∙ rw (is_log, w, z)))

    lent_last : (g : Log) → check_log B.program log ≡ good g → answer_of (check_lent B.program n) ≡ answer_of all
    unfolding ◌>>◌
    lent_last g says = rw (after_log B g is says) (go (check_lent B.program n))
      where
        go : (o : Checked (Unit {0})) → answer_of o ≡ answer_of {A = Book × Log} (o >> good (B, g))
        go (good u) = refl
        go (refused m p q) = refl

  -- ---- what the code leaves

  -- what the checks leave of a refused call
  opened_off : (r : Result CheckedCall (Refusal Reason)) (m o : List ℕ) → image.ImageOf m (check_book book) → told r ≡ answer_of all → (answer_of all).number ≢ 0 → CallChecked book log n r m o
  opened_off r m o i e z = record { answer = e; held = λ b g f. absurd (z (good_zero (b, g) f)); image = i }

  module _ (m : List ℕ) (a : Answer) (ea : a ≡ answer_of (check_book book)) (opened : image.ImageOf m (check_book book)) where
    pub off_book : (r : Result CheckedCall (Refusal Reason)) (o : List ℕ) → told r ≡ a → a.number ≢ 0 → CallChecked book log n r m o
    off_book r o e z =
        let y : (answer_of (check_book book)).number ≢ 0 = λ q. z (ap (λ (x : Answer). x.number) ea ∙ q) in
        let s = book_stops y in
        opened_off r m o opened (e ∙ ea ∙ s) (λ q. y (ap (λ (x : Answer). x.number) s ∙ q))

    module _ (z : a.number ≡ 0) (agents elements : ℕ) (ek : agents ≡ length (low_program m).agents) (ee : elements ≡ (low_program m).E) (o : List ℕ)
        (c : Result ℕ (Refusal Reason)) (read : LogIsRead agents elements log o c)
      where
        book_is : (B : Book) × (check_book book ≡ good B)
        book_is = book_good (ap (λ (x : Answer). x.number) (sym ea) ∙ z)

        abbrev B : Book
        B = book_is.0

        agents_same : (b : Book) → check_book book ≡ good b → agents ≡ length b.program.agents
        agents_same b e = ek ∙ ap (λ (y : Program). length y.agents) (low_program_is book m opened b e)

        reads : (b : Book) → check_book book ≡ good b → LogIsRead (length b.program.agents) b.program.E log o c
        reads b e =
            subst (λ (k : ℕ). LogIsRead (length b.program.agents) k log o c) (ee ∙ ap (λ (y : Program). y.E) (low_program_is book m opened b e))
            (subst (λ (k : ℕ). LogIsRead k elements log o c) (agents_same b e) read)

        few : (b : Book) → check_book book ≡ good b → length b.program.agents ≤ 16
        few b e = omega (arith, ek, agents_same b e, held_agents_most m)

        answers : told c ≡ answer_of (read_log (length B.program.agents) B.program.E log)
        answers = (reads B book_is.1).answer

        pub off_log : (r : Result CheckedCall (Refusal Reason)) → told r ≡ told c → (told c).number ≢ 0 → CallChecked book log n r m o
        off_log r e y =
            let w : (answer_of (read_log (length B.program.agents) B.program.E log)).number ≢ 0 = λ q. y (ap (λ (x : Answer). x.number) answers ∙ q) in
            let s = read_stops B book_is.1 w in
            opened_off r m o opened (e ∙ answers ∙ s) (λ q. w (ap (λ (x : Answer). x.number) s ∙ q))

        module _ (moves : ℕ) (y : c ≡ Ok moves) (ten : Answer) (et : ten ≡ answer_of (check_agents_in o moves)) where
          log_is : (g : Log) × (read_log (length B.program.agents) B.program.E log ≡ good g)
          log_is = read_good B book_is.1 (ap (λ (x : Answer). x.number) (sym answers) ∙ passing y)

          abbrev g : Log
          g = log_is.0

          ordered : OrderTable g o
          ordered = (reads B book_is.1).order g log_is.1

          counted : (b : Book) (e : check_book book ≡ good b) (h : Log) → read_log (length b.program.agents) b.program.E log ≡ good h → moves ≡ length h.moves
          counted b e h s = IfOk-at_ok _ y ((reads b e).moves h s)

          ten_told : ten ≡ answer_of (check_agents_in o (length g.moves))
          ten_told = et ∙ ap (λ (k : ℕ). answer_of (check_agents_in o k)) (counted B book_is.1 g log_is.1)

          pub off_agents : (r : Result CheckedCall (Refusal Reason)) → told r ≡ ten → ten.number ≢ 0 → CallChecked book log n r m o
          off_agents r e x =
              let w : (answer_of (check_agents_in o (length g.moves))).number ≢ 0 = λ q. x (ap (λ (a : Answer). a.number) ten_told ∙ q) in
              let s = ten_stops B book_is.1 g log_is.1 o ordered (few B book_is.1) w in
              opened_off r m o opened (e ∙ ten_told ∙ s) (λ q. w (ap (λ (a : Answer). a.number) s ∙ q))

          -- what the checks leave when all have answered; the last of them answered `short`
          pub opened_last : ten.number ≡ 0 → (locations : ℕ) → locations ≡ word m 6 → (short : Answer) → short ≡ answer_of (check_lengths locations n)
              → (r : Result CheckedCall (Refusal Reason)) → told r ≡ short → IfOk r (λ x. x ≡ record { moves = moves; locations = locations }) → CallChecked book log n r m o
          opened_last x locations el short lent r er fields =
              let says = ten_good B book_is.1 g log_is.1 o ordered (few B book_is.1) (ap (λ (a : Answer). a.number) (sym ten_told) ∙ x) in
              record {
                answer = er ∙ lent ∙ ap (λ (k : ℕ). answer_of (check_lengths k n)) (el ∙ (opened B book_is.1).1) ∙ lent_last B book_is.1 g says;
                held = λ b h e.
                    let p = all_parts b h e in
                    let k = reads b p.0 in
                    let f = log_read b.program log h p.1 in
                    let w = opened b p.0 in
                    IfOk-weaker r _ _
                    (λ v q. rw q (record { image = low_program_is book m opened b p.0; program = w.0; entries = w.2; locations = (el, w.1); moves = counted b p.0 h f; order = k.order h f }))
                    fields;
                image = opened;
              }

-- ---- the call

module _ (book log : List ℕ) (t : Tables) (n : ℕ) where
  -- a call that is refused before its first move
  pub call_off : (a : Answer) → a ≡ answer_of (check_all book log (lengths t n)) → a.number ≢ 0
      → (call_lists book log t n ≡ []) × (answer_with (record { answer = a; tally = no_labels }) t.contents t.readers t.writers ≡ log_call book log t n)
  unfolding log_call call_lists
  call_off a e z = go (check_all book log (lengths t n)) e
    where
      go : (o : Checked (Book × Log)) → a ≡ answer_of o → (lists_of o ≡ []) × (answer_with (record { answer = a; tally = no_labels }) t.contents t.readers t.writers ≡ log_answer t o)
      go (good x) e = absurd (z (ap (λ (y : Answer). y.number) e))
      go (refused m p q) e = (refl, rw e)

  module _ (b : Book) (g : Log) (e : check_all book log (lengths t n) ≡ good (b, g)) where
    pub call_on : left_past t (run_log b g) ≡ log_call book log t n
    unfolding log_call
    call_on = rw e

    pub lists_all : call_lists book log t n ≡ run_lists b g
    unfolding call_lists
    lists_all = rw e

-- ---- what passing the checks shows

module _ (book log : List ℕ) (lent : Lengths) (b : Book) (g : Log) (e : check_all book log lent ≡ good (b, g)) where
  pub enough : Enough lent (L b.program)
  enough = lengths_good lent (L b.program) tt (all_parts book log lent b g e).2

  pub runnable : (m o : List ℕ) → low_program m ≡ b.program → OrderTable g o → Runnable m o g (start b)
  runnable m o is ordered =
      let p = all_parts book log lent b g e in
      let ok = accepted_book book b p.0 in
      record {
        lawful = rw is ok.0;
        sound = rw is ok.1;
        order = ordered;
        few = (passed b.program log g p.1).few;
        agents = λ i h. rw is ((passed b.program log g p.1).agents i h);
      }
