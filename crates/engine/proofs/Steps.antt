-- The tree that a node stands for, from its kind, one equation for each kind: what code that recurs on the depth left has to show.
use mathlib.Core.Path.{◌≡◌, refl}
use mathlib.Core.Logic.{◌⊎◌, inl, inr}
use mathlib.Core.List.{List}
use Prim.Native.Nat.{ℕ, zero, suc, ◌-◌, ◌≤◌, ◌<◌}
use native.Mathlib.Numerals.{sub-one}
use native.Mathlib.Omega.{arith}
use lib.ListN.{get_or, get_or-eq_default}
use borrow.Author.Tests.{le-leb, lt-leb}
use Rattle.book.specs.declared.Node.{Node}
use Rattle.book.specs.Book.{undef, Program}
use Rattle.engine.specs.Reader.{done}
use Rattle.engine.specs.Term.{Op, element, variable, self, at0, at1, at2, negated, joined, Shape, no_term, shapes, shape, tree, term_at, target, function_of}
use Rattle.engine.specs.Rule.{skip, assign, block, test, bind, for_all, import, release, choose, no_rule, rule_shapes, rule_shape, rule_tree, rule_from}

-- ---- a depth of at least one, or of at least two

by_one : (P : ℕ → ℕ → Type 0) → ((d : ℕ) → P (suc d) d) → (d : ℕ) → ((d ≡ 0) → ⊥) → P d (d - 1)
by_one P f zero h = absurd (h refl)
by_one P f (suc d) h = rw (sub-one (suc d)) (f d)

by_two : (P : ℕ → ℕ → Type 0) → ((d : ℕ) → P (suc (suc d)) (suc d)) → (d : ℕ) → 2 ≤ d → P d (d - 1)
by_two P f zero h = absurd (omega arith)
by_two P f (suc zero) h = absurd (omega arith)
by_two P f (suc (suc d)) h = rw (sub-one (suc (suc d))) (f d)

-- ---- terms

pub term_zero : (ns : ℕ → Node) (d n : ℕ) → d ≡ 0 → term_at ns d n ≡ element undef
unfolding tree
term_zero ns d n e = rw e

module _ (ns : ℕ → Node) (d n : ℕ) (x : Node) (some : (d ≡ 0) → ⊥) (loaded : x ≡ ns n) where
  pub term_element : x.kind ≡ 1 → term_at ns d n ≡ element x.a
  unfolding tree
  term_element k = by_one (λ e f. tree ns e (shape (ns n)) (ns n) ≡ element x.a) (λ e. rw (← loaded, k)) d some

  pub term_variable : x.kind ≡ 2 → term_at ns d n ≡ variable x.a
  unfolding tree
  term_variable k = by_one (λ e f. tree ns e (shape (ns n)) (ns n) ≡ variable x.a) (λ e. rw (← loaded, k)) d some

  pub term_agent : x.kind ≡ 3 → term_at ns d n ≡ self
  unfolding tree
  term_agent k = by_one (λ e f. tree ns e (shape (ns n)) (ns n) ≡ self) (λ e. rw (← loaded, k)) d some

  pub term_none : x.kind ≡ 4 → term_at ns d n ≡ at0 x.a
  unfolding tree
  term_none k = by_one (λ e f. tree ns e (shape (ns n)) (ns n) ≡ at0 x.a) (λ e. rw (← loaded, k)) d some

  pub term_one : x.kind ≡ 5 → term_at ns d n ≡ at1 x.a (term_at ns (d - 1) x.b)
  unfolding tree
  term_one k = by_one (λ e f. tree ns e (shape (ns n)) (ns n) ≡ at1 x.a (term_at ns f x.b)) (λ e. rw (← loaded, k)) d some

  pub term_two : x.kind ≡ 6 → term_at ns d n ≡ at2 x.a (term_at ns (d - 1) x.b) (term_at ns (d - 1) x.c)
  unfolding tree
  term_two k =
      by_one (λ e f. tree ns e (shape (ns n)) (ns n) ≡ at2 x.a (term_at ns f x.b) (term_at ns f x.c)) (λ e. rw (← loaded, k)) d some

  pub term_not : x.kind ≡ 8 → term_at ns d n ≡ negated (term_at ns (d - 1) x.a)
  unfolding tree
  term_not k = by_one (λ e f. tree ns e (shape (ns n)) (ns n) ≡ negated (term_at ns f x.a)) (λ e. rw (← loaded, k)) d some

  -- a term of two operands: kinds 7 and 9 to 13
  pub term_join : (k : ℕ) (o : Op) → x.kind ≡ k → get_or shapes k no_term ≡ Shape.a_join o
      → term_at ns d n ≡ joined o (term_at ns (d - 1) x.a) (term_at ns (d - 1) x.b)
  unfolding tree
  term_join k o e s =
      by_one (λ g f. tree ns g (shape (ns n)) (ns n) ≡ joined o (term_at ns f x.a) (term_at ns f x.b)) (λ g. rw (← loaded, e, s)) d some

  -- a node of no term kind stands for undef
  pub no_term_at : (x.kind < 1) ⊎ (14 ≤ x.kind) → term_at ns d n ≡ element undef
  unfolding tree
  no_term_at h = by_one (λ e f. tree ns e (shape (ns n)) (ns n) ≡ element undef) (λ e. rw (← loaded, shape_of h)) d some
    where
      shape_of : (x.kind < 1) ⊎ (14 ≤ x.kind) → shape x ≡ no_term
      shape_of (inl l) = let z : x.kind ≡ 0 = omega arith in rw z
      shape_of (inr l) = get_or-eq_default shapes no_term {n = x.kind} l

-- ---- rules

-- the rule at node n, built at most d nodes deep
pub rule_last : (ns : ℕ → Node) (d n : ℕ) → d < 2 → rule_from ns d n ≡ skip
unfolding rule_tree
rule_last ns zero n h = refl
rule_last ns (suc zero) n h = refl
rule_last ns (suc (suc d)) n h = absurd (omega arith)

module _ (ns : ℕ → Node) (d n : ℕ) (x : Node) (some : 2 ≤ d) (loaded : x ≡ ns n) where
  pub rule_skip : x.kind ≡ 20 → rule_from ns d n ≡ skip
  unfolding rule_tree
  rule_skip k = by_two (λ e f. rule_from ns e n ≡ skip) (λ e. rw (← loaded, k)) d some

  pub rule_assign : x.kind ≡ 21 → rule_from ns d n ≡ assign n (term_at ns (d - 1) x.a) (term_at ns (d - 1) x.b)
  unfolding rule_tree
  rule_assign k =
      by_two (λ e f. rule_from ns e n ≡ assign n (term_at ns f x.a) (term_at ns f x.b)) (λ e. rw (← loaded, k)) d some

  pub rule_block : x.kind ≡ 22 → rule_from ns d n ≡ block (rule_from ns (d - 1) x.a) (rule_from ns (d - 1) x.b)
  unfolding rule_tree
  rule_block k =
      by_two (λ e f. rule_from ns e n ≡ block (rule_from ns f x.a) (rule_from ns f x.b)) (λ e. rw (← loaded, k)) d some

  pub rule_test : x.kind ≡ 23
      → rule_from ns d n ≡ test (term_at ns (d - 1) x.a) (rule_from ns (d - 1) x.b) (rule_from ns (d - 1) x.c)
  unfolding rule_tree
  rule_test k =
      by_two (λ e f. rule_from ns e n ≡ test (term_at ns f x.a) (rule_from ns f x.b) (rule_from ns f x.c))
      (λ e. rw (← loaded, k)) d some

  pub rule_bind : x.kind ≡ 24 → rule_from ns d n ≡ bind x.a (term_at ns (d - 1) x.b) (rule_from ns (d - 1) x.c)
  unfolding rule_tree
  rule_bind k =
      by_two (λ e f. rule_from ns e n ≡ bind x.a (term_at ns f x.b) (rule_from ns f x.c)) (λ e. rw (← loaded, k)) d some

  pub rule_for_all : x.kind ≡ 25 → rule_from ns d n ≡ for_all x.a x.b (rule_from ns (d - 1) x.c)
  unfolding rule_tree
  rule_for_all k =
      by_two (λ e f. rule_from ns e n ≡ for_all x.a x.b (rule_from ns f x.c)) (λ e. rw (← loaded, k)) d some

  pub rule_import : x.kind ≡ 26 → rule_from ns d n ≡ import n x.a x.b (rule_from ns (d - 1) x.c)
  unfolding rule_tree
  rule_import k =
      by_two (λ e f. rule_from ns e n ≡ import n x.a x.b (rule_from ns f x.c)) (λ e. rw (← loaded, k)) d some

  pub rule_release : x.kind ≡ 27 → rule_from ns d n ≡ release n (term_at ns (d - 1) x.a)
  unfolding rule_tree
  rule_release k = by_two (λ e f. rule_from ns e n ≡ release n (term_at ns f x.a)) (λ e. rw (← loaded, k)) d some

  pub rule_choose : x.kind ≡ 28 → rule_from ns d n ≡ choose n x.a x.b (rule_from ns (d - 1) x.c)
  unfolding rule_tree
  rule_choose k =
      by_two (λ e f. rule_from ns e n ≡ choose n x.a x.b (rule_from ns f x.c)) (λ e. rw (← loaded, k)) d some

  -- a node of no rule kind stands for skip
  pub no_rule_at : (x.kind < 20) ⊎ (29 ≤ x.kind) → rule_from ns d n ≡ skip
  unfolding rule_tree
  no_rule_at h = by_two (λ e f. rule_from ns e n ≡ skip) (λ e. rw (← loaded, shape_of h)) d some
    where
      shape_of : (x.kind < 20) ⊎ (29 ≤ x.kind) → rule_shape x ≡ no_rule
      shape_of (inl l) = rw (lt-leb 20 x.kind l)
      shape_of (inr l) = rw (le-leb 20 x.kind (omega arith)) (get_or-eq_default rule_shapes no_rule {n = x.kind - 20} (omega arith))

-- ---- the function of a term that is not of kind 4 to 6

module _ (B : Program) (me : ℕ) (vs : List ℕ) (ns : ℕ → Node) where
  no_aim : (k d : ℕ) (x : Node) → ((k ≡ 4) → ⊥) → ((k ≡ 5) → ⊥) → ((k ≡ 6) → ⊥)
      → (target B me vs (tree ns d (get_or shapes k no_term) x) ≡ done 0) × (function_of (tree ns d (get_or shapes k no_term) x) ≡ 0)
  unfolding tree target function_of
  no_aim k zero x a b c = (refl, refl)
  no_aim zero (suc d) x a b c = (refl, refl)
  no_aim (suc zero) (suc d) x a b c = (refl, refl)
  no_aim (suc (suc zero)) (suc d) x a b c = (refl, refl)
  no_aim (suc (suc (suc zero))) (suc d) x a b c = (refl, refl)
  no_aim (suc (suc (suc (suc zero)))) (suc d) x a b c = absurd (a refl)
  no_aim (suc (suc (suc (suc (suc zero))))) (suc d) x a b c = absurd (b refl)
  no_aim (suc (suc (suc (suc (suc (suc zero)))))) (suc d) x a b c = absurd (c refl)
  no_aim (suc (suc (suc (suc (suc (suc (suc zero))))))) (suc d) x a b c = (refl, refl)
  no_aim (suc (suc (suc (suc (suc (suc (suc (suc zero)))))))) (suc d) x a b c = (refl, refl)
  no_aim (suc (suc (suc (suc (suc (suc (suc (suc (suc zero))))))))) (suc d) x a b c = (refl, refl)
  no_aim (suc (suc (suc (suc (suc (suc (suc (suc (suc (suc zero)))))))))) (suc d) x a b c = (refl, refl)
  no_aim (suc (suc (suc (suc (suc (suc (suc (suc (suc (suc (suc zero))))))))))) (suc d) x a b c = (refl, refl)
  no_aim (suc (suc (suc (suc (suc (suc (suc (suc (suc (suc (suc (suc zero)))))))))))) (suc d) x a b c = (refl, refl)
  no_aim (suc (suc (suc (suc (suc (suc (suc (suc (suc (suc (suc (suc (suc zero))))))))))))) (suc d) x a b c = (refl, refl)
  no_aim (suc (suc (suc (suc (suc (suc (suc (suc (suc (suc (suc (suc (suc (suc k)))))))))))))) (suc d) x a b c = (refl, refl)

  module _ (d n : ℕ) (x : Node) (loaded : x ≡ ns n) (a : (x.kind ≡ 4) → ⊥) (b : (x.kind ≡ 5) → ⊥) (c : (x.kind ≡ 6) → ⊥) where
    pub no_target : target B me vs (term_at ns d n) ≡ done 0
    no_target = rw (← loaded) (no_aim x.kind d x a b c).0

    pub no_function_of : function_of (term_at ns d n) ≡ 0
    no_function_of = rw (← loaded) (no_aim x.kind d x a b c).1

-- the function of a term of kind 4 to 6
module _ (ns : ℕ → Node) (d n : ℕ) (x : Node) (some : (d ≡ 0) → ⊥) (loaded : x ≡ ns n) where
  pub function_none : x.kind ≡ 4 → function_of (term_at ns d n) ≡ x.a
  unfolding function_of
  function_none k = rw (term_none ns d n x some loaded k)

  pub function_one : x.kind ≡ 5 → function_of (term_at ns d n) ≡ x.a
  unfolding function_of
  function_one k = rw (term_one ns d n x some loaded k)

  pub function_two : x.kind ≡ 6 → function_of (term_at ns d n) ≡ x.a
  unfolding function_of
  function_two k = rw (term_two ns d n x some loaded k)
