-- The lines after the header from those of each kind: refusals 1 and 9 on them, and the table of the log if they pass.
use Rattle.std.specs.Prelude.{Option, None, Some}
use mathlib.Core.Path.{◌≡◌, refl, sym, ap, ◌∙◌}
use mathlib.Core.Bool.{true, ◌&&◌}
use mathlib.Core.List.{List}
use Prim.Native.Nat.{ℕ, ◌+◌, ◌≤◌, ◌<◌}
use native.Mathlib.Nat.{zero-add}
use native.Mathlib.Omega.{arith}
use borrow.Author.Tests.{leb-true}
use lib.Dec.{eqb, leb}
use lib.ListN.{length, get_or}
use Rattle.text.specs.declared.Line.{Line}
use Rattle.text.specs.Words.{table, least_from, least, ◌>>◌, none_at}
use Rattle.text.specs.Refusals.{log_line}
use Rattle.text.specs.Text.{bad_line}
use Rattle.text.proofs.Words.{and_cases, getD_table, length_table_from}
use Rattle.engine.specs.Move.{Input}
use Rattle.order.specs.Log.{no_input, move_at, log_header_ok, choice_at, choices_of, log_of, bad_move_at, bad_pair_at, bad_choice_at, check_log_lines}
use Rattle.order.specs.Pairs.{predecessors}
use Rattle.order.specs.Table.{agent_in, first_in, end_in, picks_in, OrderTable}
use Rattle.order.proofs.Log.{input_at}
use Rattle.text.specs.declared.LineFaults.{LineFaults}
use Rattle.order_lines.specs.Lines.{first_found, shifted, picks_put, ChoiceLinesRead}
use Rattle.order_lines.proofs.Places.{least_split}
use Rattle.order_lines.proofs.PicksPut.{choices_picks, choices_keep}
use Rattle.order_log.specs.Read.{pair_at, pairs_put, MovesRead, PairsRead, join_faults, LinesRead}
use Rattle.order_log.proofs.Chaining.{closed_rows, close_past, close_long}
use Rattle.order_log.proofs.Parts.{up}

-- ---- places

first_none : (a b : Option ℕ) → first_found a b ≡ None → (a ≡ None) × (b ≡ None)
first_none None b e = (refl, e)
first_none (Some p) b e = let x : ◌≡◌ {A = ℕ} 0 1 = cc in absurd (omega arith)

shifted_none : (k : ℕ) (o : Option ℕ) → shifted k o ≡ None → o ≡ None
shifted_none k None e = refl
shifted_none k (Some p) e = let x : ◌≡◌ {A = ℕ} 0 1 = cc in absurd (omega arith)

-- two searches one after the other are one
two_searches : (n j : ℕ) (a b : Option ℕ) → (none_at n j 0 a >> none_at n 0 0 b) ≡ none_at n 0 0 (first_found (shifted j a) b)
unfolding ◌>>◌ none_at
two_searches n j None b = refl
two_searches n j (Some p) b = rw (zero-add (j + p))

one_search : (n j : ℕ) (a : Option ℕ) → none_at n j 0 a ≡ none_at n 0 0 (shifted j a)
unfolding none_at
one_search n j None = refl
one_search n j (Some p) = rw (zero-add (j + p))

first_group : (a b c : Option ℕ) → first_found a (first_found b c) ≡ first_found (first_found a b) c
first_group None b c = refl
first_group (Some p) b c = refl

-- ---- the header

pub header_small : (h : Line) → log_header_ok h ≡ true → (h.a ≤ 64) × (h.b ≤ 2016) × (h.c ≤ 256)
header_small h e =
    let t2 = (and_cases (leb h.a 64 && leb h.b 2016 && leb h.c 256) (eqb h.d 0) e).0 in
    let t1 = and_cases (leb h.a 64 && leb h.b 2016) (leb h.c 256) t2 in
    let t0 = and_cases (leb h.a 64) (leb h.b 2016) t1.0 in
    (leb-true h.a 64 t0.0, leb-true h.b 2016 t0.1, leb-true h.c 256 t1.1)

-- ---- the log that the lines say

module _ (h : Line) (text : List ℕ) where
  pub how_many : length (log_of h text).moves ≡ h.a
  unfolding log_of
  how_many = length_table_from (input_at h text) 0 h.a

  input_said : (i : ℕ) → i < h.a → input_at h text i ≡ move_at (log_of h text) i
  unfolding log_of
  input_said i l = sym (getD_table (input_at h text) h.a i no_input l)

-- ---- the lines

-- the code has read the lines of each kind, and left the tables s, t and u
module _
    (A E : ℕ) (text : List ℕ) (h : Line) (fits : log_header_ok h ≡ true) (s t u : List ℕ) (size : length s ≡ 512) (mv pr ch : LineFaults)
    (ms : MovesRead A text h.a s mv) (ps : PairsRead text h.a h.b s t pr) (cs : ChoiceLinesRead E text h.a (h.a + h.b) h.c t u ch)
  where
    abbrev k : ℕ
    k = h.a + h.b

    abbrev all : LineFaults
    all = join_faults (join_faults mv pr) ch

    all_ill : all.ill ≡ least_from (bad_line text) (h.a + h.b + h.c) 1
    all_ill = sym (least_split (bad_line text) k h.c 1 ∙ rw (least_split (bad_line text) h.a h.b 1, ms.ill, ps.ill, cs.ill))

    module _ (form : all.ill ≡ None) where
      forms : (mv.ill ≡ None) × (pr.ill ≡ None) × (ch.ill ≡ None)
      forms =
          let two = first_none (first_found mv.ill pr.ill) ch.ill form in
          let one = first_none mv.ill pr.ill two.0 in
          (one.0, one.1, two.1)

      all_faults : check_log_lines A E h text ≡ none_at log_line 0 0 all.fault
      unfolding check_log_lines
      all_faults =
          let a = least (bad_move_at A text) h.a in
          let b = least (bad_pair_at h.a text) h.b in
          let c = least (bad_choice_at E h.a k text) h.c in
          let z : 1 + h.a + h.b ≡ 1 + k = omega arith in
          rw (
            z,
            one_search log_line (1 + k) c,
            two_searches log_line (1 + h.a) b (shifted (1 + k) c),
            two_searches log_line 1 a (first_found (shifted (1 + h.a) b) (shifted (1 + k) c)),
            first_group (shifted 1 a) (shifted (1 + h.a) b) (shifted (1 + k) c),
            ms.fault forms.0,
            ps.fault forms.1,
            cs.fault forms.2,
          )

      module _ (none : all.fault ≡ None) where
        faults : (pr.fault ≡ None) × (ch.fault ≡ None)
        faults =
            let two = first_none (first_found mv.fault pr.fault) ch.fault none in
            ((first_none mv.fault pr.fault two.0).1, two.1)

        no_pair : least (bad_pair_at h.a text) h.b ≡ None
        no_pair = shifted_none (1 + h.a) _ (sym (ps.fault forms.1) ∙ faults.0)

        no_choice : least (bad_choice_at E h.a k text) h.c ≡ None
        no_choice = shifted_none (1 + k) _ (sym (cs.fault forms.2) ∙ faults.1)

        few : h.a ≤ 64
        few = (header_small h fits).0

        most : h.c ≤ 256
        most = (header_small h fits).2

        closed : t ≡ pairs_put (table (pair_at h.a text) h.b) s
        closed = ps.order forms.1 faults.0

        filed_in : u ≡ picks_put (table (choice_at k text) h.c) 0 t
        filed_in = cs.order forms.2 faults.1

        -- the pairs leave what stands after the sets of predecessors
        behind : (j : ℕ) → h.a ≤ j → get_or t j 0 ≡ get_or s j 0
        behind j l = ap (λ (x : List ℕ). get_or x j 0) closed ∙ close_past h.a 0 (table (pair_at h.a text) h.b) s (up h.a text h.b no_pair) j l

        long : length t ≡ 512
        long = ap length closed ∙ close_long (table (pair_at h.a text) h.b) s ∙ size

        clear : (i : ℕ) → i < h.a → (first_in t i ≡ 0) × (end_in t i ≡ 0)
        clear i l =
            let e = ms.picks forms.0 i l in
            (behind (128 + i) (omega (arith, few)) ∙ e.0, behind (192 + i) (omega (arith, few)) ∙ e.1)

        -- the choices leave predecessors and agents
        kept : (j : ℕ) → j < 128 → get_or u j 0 ≡ get_or t j 0
        kept j l = ap (λ (x : List ℕ). get_or x j 0) filed_in ∙ choices_keep E h.a k text h.c no_choice few most t long clear j l

        row_is : (j : ℕ) → j < h.a → get_or u j 0 ≡ get_or (predecessors (log_of h text).pairs h.a) j 0
        unfolding log_of
        row_is j l =
            kept j (omega (arith, few)) ∙ ap (λ (x : List ℕ). get_or x j 0) closed
            ∙ closed_rows (table (pair_at h.a text) h.b) h.a s (omega (arith, few, size)) (ms.predecessors forms.0) (up h.a text h.b no_pair) j l

        agent_is : (i : ℕ) → i < h.a → agent_in u i ≡ (move_at (log_of h text) i).agent
        agent_is i l =
            kept (64 + i) (omega (arith, few)) ∙ behind (64 + i) (omega (arith, few)) ∙ ms.agents forms.0 i l
            ∙ ap (λ (x : Input). x.agent) (input_said h text i l)

        picks_are : (i : ℕ) → i < h.a → picks_in u i ≡ (move_at (log_of h text) i).picks
        unfolding choices_of
        picks_are i l =
            ap (λ (x : List ℕ). picks_in x i) filed_in ∙ choices_picks E h.a k text h.c no_choice few most t long clear i l
            ∙ ap (λ (x : Input). x.picks) (input_said h text i l)

        ordered : OrderTable (log_of h text) u
        ordered =
            let m = how_many h text in
            record { predecessors = λ j l. rw m (row_is j (omega arith)); agents = λ i l. agent_is i (omega arith); picks = λ i l. picks_are i (omega arith) }

    pub lines_joined : LinesRead A E text h u (join_faults (join_faults mv pr) ch)
    lines_joined = record { ill = all_ill; fault = all_faults; order = ordered }
