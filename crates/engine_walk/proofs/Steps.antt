-- Laws of a walk's steps: bindingss, and the rules one by one.
use Rattle.text.specs.declared.Reason.{Reason}
use Rattle.text.specs.Refusals.{refusal_number}
use Rattle.std.specs.Prelude.{None, Some}
use Rattle.std.specs.Prelude.{if◌then◌else◌}
use mathlib.Core.Path.{◌≡◌, refl, sym, ap, ◌∙◌}
use mathlib.Core.Logic.{dite, inl, inr}
use mathlib.Core.Bool.{Bool, true, false}
use mathlib.Core.List.{List, [], ◌∷◌}
use Prim.Native.Nat.{ℕ, suc, ◌-◌, ◌≤◌, ◌<◌}
use native.Mathlib.Omega.{arith}
use native.Mathlib.Decide.{dec_lt}
use lib.Dec.{eqb, ltb}
use lib.ListN.{set, take, length-take}
use lib.Seq.{take-set-lt, set_out, get_or-set_other}
use borrow.Author.Tests.{lt-ltb, le-ltb}
use Rattle.text.specs.Refusals.{no_label_left, not_in_universe, pick_count}
use Rattle.book.specs.declared.Node.{Node}
use Rattle.book.specs.Book.{Program, location}
use Rattle.engine.specs.Reader.{Reader, done, value_in, ◌>>=◌}
use Rattle.engine.specs.Term.{term_at, eval}
use Rattle.engine.specs.Rule.{Rule, skip, block, test, Walk, Walked, walking, refused_at, after, take_pick, refuse_if, universe_at, not_member, import_of, choose_of, walk, rule_from}
use Rattle.engine.proofs.Steps.{rule_block, rule_test, rule_skip, no_rule_at}
use Rattle.engine_term.specs.Bindings.{variables_of, agent_of}
use Rattle.engine_term.specs.Marks.{Placed, Runs}
use Rattle.engine.proofs.Picks.{universe_high}
use Rattle.engine_term.proofs.Marking.{runs_done, runs_given, runs_bind, runs_as}
use Rattle.engine_emit.specs.declared.Progress.{Progress}
use Rattle.engine_emit.specs.Emit.{walk_from, reached, importing, importing_found, next_pick, picked}
use Rattle.engine_emit.proofs.Steps.{reached_walking}
use Rattle.engine_reads.specs.Marking.{found_below}

-- ---- bindingss

module _ (s : List ℕ) (a x : ℕ) where
  pub bind_in : a < 8 → variables_of (set s a x) ≡ set (variables_of s) a x
  bind_in h = take-set-lt 8 s a x h

  pub bind_past : 8 ≤ a → variables_of s ≡ set (variables_of s) a x
  bind_past h = sym (set_out (take 8 s) a x (rw (length-take 8 s) (omega arith)))

  pub bind_agent : a < 8 → agent_of (set s a x) ≡ agent_of s
  bind_agent h = get_or-set_other s a 8 x 0 (omega arith)

module _ (B : Program) (c : List ℕ) (bit : ℕ) where
  -- a walk in bindings that have these variables and this agent
  pub runs_bindings : (t vs : List ℕ) (me : ℕ) (r : Rule) (o z : Walked) (m n : List ℕ) → variables_of t ≡ vs → agent_of t ≡ me
      → Runs B c bit (after o (walk B (agent_of t) r (variables_of t))) z m n → Runs B c bit (after o (walk B me r vs)) z m n
  runs_bindings t vs me r o z m n e f h = rw (← e, ← f) h

  -- ---- what follows a step of the walk

  module _ (f : Walk → Reader Walked) (ys : List ℕ) (s : Progress Reason) (l : List ℕ) (h : (refusal_number s.refused) ≡ 0) (z : Walked) (m n : List ℕ) where
    pub runs_from : Runs B c bit (after (reached ys s l) f) z m n → Runs B c bit (f (walk_from ys s l)) z m n
    runs_from k = rw (reached_walking ys s l h) at k

    pub runs_after : Runs B c bit (f (walk_from ys s l)) z m n → Runs B c bit (after (reached ys s l) f) z m n
    runs_after k = rw (reached_walking ys s l h) k

  -- after a refusal nothing more is done
  pub runs_refused : (f : Walk → Reader Walked) (o : Walked) (r q : ℕ) (m : List ℕ) → o ≡ refused_at r q → Runs B c bit (after o f) o m m
  runs_refused f o r q m e = rw e (runs_done B c bit (refused_at r q) m)

  pub runs_skip : (me : ℕ) (vs : List ℕ) (r : Rule) (o : Walked) (m : List ℕ) → r ≡ skip → Runs B c bit (after o (walk B me r vs)) o m m
  unfolding walk
  runs_skip me vs r o m e = rw e (go o)
    where
      go : (o : Walked) → Runs B c bit (after o (λ w. done (walking w))) o m m
      go (walking w) = runs_done B c bit (walking w) m
      go (refused_at a q) = runs_done B c bit (refused_at a q) m

  -- a walk of the rule t is a walk of r, which t is known to be
  pub runs_rule : (me : ℕ) (vs : List ℕ) (t r : Rule) (ys : List ℕ) (s : Progress Reason) (l : List ℕ) (z : Walked) (m n : List ℕ) → (refusal_number s.refused) ≡ 0 → t ≡ r
      → Runs B c bit (walk B me r vs (walk_from ys s l)) z m n → Runs B c bit (after (reached ys s l) (walk B me t vs)) z m n
  runs_rule me vs t r ys s l z m n h e k = rw e (runs_after (walk B me r vs) ys s l h z m n k)

  -- ---- rules: a block, a test, an import, none

  module _ (me : ℕ) (vs : List ℕ) (ns : ℕ → Node) (d i : ℕ) (x : Node) (some : 2 ≤ d) (loaded : x ≡ ns i) (ys : List ℕ) (s : Progress Reason) (l : List ℕ) (h : (refusal_number s.refused) ≡ 0) where
    abbrev go : ℕ → Walk → Reader Walked
    go p = walk B me (rule_from ns (d - 1) p) vs

    pub runs_block : (p z : Walked) (j m n : List ℕ) → x.kind ≡ 22 → Runs B c bit (after (reached ys s l) (go x.a)) p j m → Runs B c bit (after p (go x.b)) z m n
        → Runs B c bit (after (reached ys s l) (walk B me (rule_from ns d i) vs)) z j n
    unfolding walk
    runs_block p z j m n k r t =
        runs_rule me vs (rule_from ns d i) (block (rule_from ns (d - 1) x.a) (rule_from ns (d - 1) x.b)) ys s l z j n h (rule_block ns d i x some loaded k)
        (runs_bind B c bit (go x.a (walk_from ys s l)) (λ o. after o (go x.b)) p z j m n (runs_from (go x.a) ys s l h p j m r) t)

    pub runs_test : (v next : ℕ) (z : Walked) (j m n : List ℕ) → x.kind ≡ 23 → next ≡ (if eqb v 2 then x.b else x.c)
        → Runs B c bit (eval B me vs (term_at ns (d - 1) x.a)) v j m → Runs B c bit (after (reached ys s l) (go next)) z m n
        → Runs B c bit (after (reached ys s l) (walk B me (rule_from ns d i) vs)) z j n
    unfolding walk
    runs_test v next z j m n k e r t =
        let w = walk_from ys s l in
        runs_rule me vs (rule_from ns d i) (test (term_at ns (d - 1) x.a) (rule_from ns (d - 1) x.b) (rule_from ns (d - 1) x.c)) ys s l z j n h (rule_test ns d i x some loaded k)
        (runs_bind B c bit (eval B me vs (term_at ns (d - 1) x.a)) (λ y. if eqb y 2 then go x.b w else go x.c w) v z j m n r
        (branch (eqb v 2) e (runs_from (go next) ys s l h z m n t)))
      where
        branch : (b : Bool) → next ≡ (if b then x.b else x.c) → Runs B c bit (go next (walk_from ys s l)) z m n
            → Runs B c bit (if b then go x.b (walk_from ys s l) else go x.c (walk_from ys s l)) z m n
        branch true e t = rw e at t
        branch false e t = rw e at t

-- an import, by the label that its search came to
pub import_as : (B : Program) (n u x : ℕ) (w : Walk) (body : ℕ → Walk → Reader Walked)
    → import_of B n u w body (found_below B.E x) ≡ after (importing_found B.E (location B u x 0) x n w) (body x)
import_as B n u x w body = go (ltb x B.E)
  where
    go : (b : Bool) → import_of B n u w body (if b then Some x else None) ≡ after (if b then importing (location B u x 0) x n w else refused_at no_label_left n) (body x)
    go true = refl
    go false = refl

-- a choose, by the pick that is next and the value of the universe there
module _ (B : Program) (c : List ℕ) (bit n u : ℕ) (w : Walk) (body : ℕ → Walk → Reader Walked) (v : ℕ) (z : Walked) (j m k : List ℕ) where
  -- with no pick left nothing is read
  choose_none : Runs B c bit (universe_at B u B.E) v j m → Runs B c bit (done (refused_at pick_count n)) z m k → Runs B c bit (done (refused_at pick_count n)) z j k
  unfolding ◌>>=◌
  choose_none r t =
      let f : ℕ → Reader Walked = λ v. done (refused_at pick_count n) in
      runs_as B c bit (done (refused_at pick_count n)) (universe_at B u B.E >>= f) z j k
      (sym (ap (λ (p : Reader ℕ). p >>= f) (universe_high B u B.E (omega arith)))) (runs_bind B c bit (universe_at B u B.E) f v z j m k r t)

  module _ (y : ℕ) (ys : List ℕ) where
    abbrev next : ℕ → Reader Walked
    next v = after (refuse_if (not_member v) not_in_universe n (take_pick ys w)) (body y)

    -- the pick is an element
    choose_low : y < B.E → Runs B c bit (universe_at B u y) v j m → Runs B c bit (next v) z m k → Runs B c bit (universe_at B u y >>= next) z j k
    choose_low h r t = runs_bind B c bit (universe_at B u y) next v z j m k r t

    -- the pick is no element, so it is not in the universe
    choose_high : B.E ≤ y → Runs B c bit (universe_at B u B.E) v j m
        → Runs B c bit (after (refuse_if (not_member v) not_in_universe n (take_pick ys w)) (body B.E)) z m k
        → Runs B c bit (universe_at B u y >>= next) z j k
    unfolding value_in
    choose_high h r t =
        let e : universe_at B u y ≡ universe_at B u B.E = universe_high B u y h ∙ sym (universe_high B u B.E (omega arith)) in
        let one : Placed B → v ≡ 1 = λ p. r.value p ∙ ap (value_in c) (universe_high B u B.E (omega arith)) in
        let q : Runs B c bit (next v) z m k = runs_given B c bit _ _ _ _ (λ p. refused v (one p) t) in
        runs_bind B c bit (universe_at B u y) next v z j m k (rw e r) q
      where
        refused : (v : ℕ) → v ≡ 1 → Runs B c bit (after (refuse_if (not_member v) not_in_universe n (take_pick ys w)) (body B.E)) z m k → Runs B c bit (next v) z m k
        refused v e t = rw e (rw e at t)

  pub runs_choose : (ys : List ℕ) → Runs B c bit (universe_at B u (next_pick B.E ys)) v j m
      → Runs B c bit (after (picked v n w ys) (body (next_pick B.E ys))) z m k → Runs B c bit (choose_of B n u w body ys) z j k
  runs_choose [] r t = choose_none r t
  runs_choose (y ∷ ys) r t =
      dite (dec_lt y B.E)
      (λ h. let e : next_pick B.E (y ∷ ys) ≡ y = rw (lt-ltb y B.E h) in choose_low y ys h (rw e at r) (rw e at t))
      (λ (h : ¬ (y < B.E)). let e : next_pick B.E (y ∷ ys) ≡ B.E = rw (le-ltb y B.E (omega arith)) in choose_high y ys (omega arith) (rw e at r) (rw e at t))

-- a number below m + 1 that is not m is below m
less_by : (k m : ℕ) → k < suc m → ((k ≡ m) → ⊥) → k < m
less_by k m h n = omega arith

exact : (k : ℕ) → 20 ≤ k → k < 21 → k ≡ 20
exact k h i = omega arith

-- of the kinds 20 to 28, the one that is none of 21 to 28 is skip
only_skip : (k : ℕ) → 20 ≤ k → k < 29 → ((k ≡ 21) → ⊥) → ((k ≡ 22) → ⊥) → ((k ≡ 23) → ⊥) → ((k ≡ 24) → ⊥) → ((k ≡ 25) → ⊥) → ((k ≡ 26) → ⊥) → ((k ≡ 27) → ⊥) → ((k ≡ 28) → ⊥) → k ≡ 20
only_skip k h i a b c d e f g p =
    exact k h (less_by k 21 (less_by k 22 (less_by k 23 (less_by k 24 (less_by k 25 (less_by k 26 (less_by k 27 (less_by k 28 i p) g) f) e) d) c) b) a)

pub rule_none : (ns : ℕ → Node) (d n : ℕ) (x : Node) → 2 ≤ d → x ≡ ns n
    → ((x.kind ≡ 21) → ⊥) → ((x.kind ≡ 22) → ⊥) → ((x.kind ≡ 23) → ⊥) → ((x.kind ≡ 24) → ⊥) → ((x.kind ≡ 25) → ⊥) → ((x.kind ≡ 26) → ⊥) → ((x.kind ≡ 27) → ⊥)
    → ((x.kind ≡ 28) → ⊥) → rule_from ns d n ≡ skip
rule_none ns d n x some loaded p q r s t u v w =
    dite (dec_lt x.kind 20) (λ (h : x.kind < 20). no_rule_at ns d n x some loaded (inl h)) (λ (h : ¬ (x.kind < 20)).
    dite (dec_lt x.kind 29) (λ (i : x.kind < 29). rule_skip ns d n x some loaded (only_skip x.kind (omega arith) i p q r s t u v w))
    (λ (i : ¬ (x.kind < 29)). no_rule_at ns d n x some loaded (inr (omega arith))))
