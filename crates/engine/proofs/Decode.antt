-- The trees that the nodes of a lawful book stand for are proper: their operands are what check 5 asks for.
use mathlib.Core.Path.{◌≡◌, refl, sym, ap, ◌∙◌}
use mathlib.Core.Logic.{dite, ◌≢◌}
use mathlib.Core.Bool.{Bool, true, false, ◌&&◌, ◌||◌, or-false}
use Prim.Native.Nat.{ℕ, zero, suc, ◌+◌, ◌-◌, ◌≤◌, ◌<◌}
use native.Mathlib.Omega.{arith}
use native.Mathlib.Decide.{ℕ_discrete, dec_lt}
use lib.Dec.{eqb, ltb, leb}
use lib.ListN.{length, get_or, get_or-eq_default}
use borrow.Author.Tests.{eqb-true, ltb-true, leb-true, lt-leb, le-leb, not-false}
use Rattle.text.proofs.Words.{and_cases}
use Rattle.book.specs.declared.Node.{Node}
use Rattle.book.specs.Book.{relation, dynamic, Program, no_node, node_at, function_at}
use Rattle.book.specs.Kinds.{sort, names_location}
use Rattle.book.specs.Lines.{fits, bad_node, named}
use Rattle.book.specs.Sound.{Lawful}
use Rattle.engine.specs.Term.{Term, element, variable, self, at0, at1, at2, negated, joined, tree, term_at, Shape, an_element, a_variable, the_agent, of_none, of_one, of_two, a_not, no_term, a_join, shape, shapes}
use Rattle.engine.specs.Rule.{Rule, skip, assign, block, test, bind, for_all, import, release, choose, rule_tree, rule_at, RuleShape, a_skip, an_assign, a_Block, a_test, a_bind, a_for_all, an_import, a_release, a_choose, no_rule, rule_shape, rule_shapes}

-- ---- terms and rules as check 5 leaves them

abbrev pub Proper : Program → Term → Type 0
Proper B (element x) = x < B.P
Proper B (variable v) = Unit {0}
Proper B self = Unit {0}
Proper B (at0 f) = Unit {0}
Proper B (at1 f a) = Proper B a
Proper B (at2 f a b) = Proper B a × Proper B b
Proper B (negated a) = Proper B a
Proper B (joined o a b) = Proper B a × Proper B b

-- f is a function after Reserve, of arity r
abbrev pub Named : Program → ℕ → ℕ → Type 0
Named B f r = (0 < f) × (f < length B.functions) × ((function_at B f).arity ≡ r)

abbrev pub ProperTarget : Program → Term → Type 0
ProperTarget B (element x) = ⊥
ProperTarget B (variable v) = ⊥
ProperTarget B self = ⊥
ProperTarget B (at0 f) = Named B f 0 × (dynamic (function_at B f) ≡ true)
ProperTarget B (at1 f a) = Named B f 1 × (dynamic (function_at B f) ≡ true) × Proper B a
ProperTarget B (at2 f a b) = Named B f 2 × (dynamic (function_at B f) ≡ true) × Proper B a × Proper B b
ProperTarget B (negated a) = ⊥
ProperTarget B (joined o a b) = ⊥

abbrev pub ProperRule : Program → Rule → Type 0
ProperRule B skip = Unit {0}
ProperRule B (assign n t u) = ProperTarget B t × Proper B u
ProperRule B (block r s) = ProperRule B r × ProperRule B s
ProperRule B (test t r s) = Proper B t × ProperRule B r × ProperRule B s
ProperRule B (bind x t r) = Proper B t × ProperRule B r
ProperRule B (for_all x u r) = Named B u 1 × (relation (function_at B u) ≡ true) × ProperRule B r
ProperRule B (import n x u r) = Named B u 1 × ((function_at B u).kind ≡ 3) × ProperRule B r
ProperRule B (release n t) = Proper B t
ProperRule B (choose n x u r) = Named B u 1 × (relation (function_at B u) ≡ true) × ProperRule B r

-- ---- a test among others that fail

abbrev ors : ℕ → Bool → Bool
ors zero p = p
ors (suc n) p = ors n p || false

ors_true : (n : ℕ) (p : Bool) → ors n p ≡ true → p ≡ true
ors_true zero p e = e
ors_true (suc n) p e = ors_true n p (sym (or-false (ors n p)) ∙ e)

module _ (B : Program) (ok : Lawful B) where
  abbrev ns : ℕ → Node
  ns n = node_at B n

  -- what check 5 says of the operands of a node of kind k
  operands : (n k : ℕ) → (ns n).kind ≡ k → k ≢ 0
      → (fits B n (sort k 0) (ns n).a ≡ true) × (fits B n (sort k 1) (ns n).b ≡ true) × (fits B n (sort k 2) (ns n).c ≡ true)
  unfolding bad_node
  operands n k e d = dite (dec_lt n (length B.nodes)) inside (λ (h : ¬ (n < length B.nodes)). absurd (d (sym e ∙ past (omega arith))))
    where
      past : length B.nodes ≤ n → (ns n).kind ≡ 0
      past h = ap (λ (x : Node). x.kind) (get_or-eq_default B.nodes no_node {n = n} h)

      inside : n < length B.nodes → (fits B n (sort k 0) (ns n).a ≡ true) × (fits B n (sort k 1) (ns n).b ≡ true) × (fits B n (sort k 2) (ns n).c ≡ true)
      inside h =
          let a = fits B n (sort k 0) (ns n).a in
          let b = fits B n (sort k 1) (ns n).b in
          let c = fits B n (sort k 2) (ns n).c in
          let all : (a && b && c) ≡ true = not-false (a && b && c) (rw e at (ok.nodes n h)) in
          let p = and_cases (a && b) c all in
          let q = and_cases a b p.0 in
          (q.0, q.1, p.1)

  -- ---- terms

  abbrev Fits : Shape → Node → Type 0
  Fits an_element x = x.a < B.P
  Fits a_variable x = Unit {0}
  Fits the_agent x = Unit {0}
  Fits of_none x = Unit {0}
  Fits of_one x = Unit {0}
  Fits of_two x = Unit {0}
  Fits a_not x = Unit {0}
  Fits no_term x = Unit {0}
  Fits (a_join o) x = Unit {0}

  fit_node : (n : ℕ) → Fits (shape (ns n)) (ns n)
  unfolding fits sort
  fit_node n = go (ns n).kind refl
    where
      go : (k : ℕ) → (ns n).kind ≡ k → Fits (get_or shapes k no_term) (ns n)
      go zero e = tt
      go (suc zero) e = ltb-true (ns n).a B.P (ors_true 9 (ltb (ns n).a B.P) (operands n 1 e (omega arith)).0)
      go (suc (suc zero)) e = tt
      go (suc (suc (suc zero))) e = tt
      go (suc (suc (suc (suc zero)))) e = tt
      go (suc (suc (suc (suc (suc zero))))) e = tt
      go (suc (suc (suc (suc (suc (suc zero)))))) e = tt
      go (suc (suc (suc (suc (suc (suc (suc zero))))))) e = tt
      go (suc (suc (suc (suc (suc (suc (suc (suc zero)))))))) e = tt
      go (suc (suc (suc (suc (suc (suc (suc (suc (suc zero))))))))) e = tt
      go (suc (suc (suc (suc (suc (suc (suc (suc (suc (suc zero)))))))))) e = tt
      go (suc (suc (suc (suc (suc (suc (suc (suc (suc (suc (suc zero))))))))))) e = tt
      go (suc (suc (suc (suc (suc (suc (suc (suc (suc (suc (suc (suc zero)))))))))))) e = tt
      go (suc (suc (suc (suc (suc (suc (suc (suc (suc (suc (suc (suc (suc zero))))))))))))) e = tt
      go (suc (suc (suc (suc (suc (suc (suc (suc (suc (suc (suc (suc (suc (suc k)))))))))))))) e = tt

  proper_term : (d n : ℕ) → Proper B (term_at ns d n)
  unfolding tree
  proper_term zero n = omega (arith, ok.low)
  proper_term (suc d) n = go (shape (ns n)) (fit_node n) (proper_term d)
    where
      go : (s : Shape) → Fits s (ns n) → ((m : ℕ) → Proper B (term_at ns d m)) → Proper B (tree ns (suc d) s (ns n))
      go no_term f r = omega (arith, ok.low)
      go an_element f r = f
      go a_variable f r = tt
      go the_agent f r = tt
      go of_none f r = tt
      go of_one f r = r (ns n).b
      go of_two f r = (r (ns n).b, r (ns n).c)
      go a_not f r = r (ns n).a
      go (a_join o) f r = (r (ns n).a, r (ns n).b)

  -- ---- the location of a set

  named_as : (f r : ℕ) → (named B f && eqb (function_at B f).arity r) ≡ true → Named B f r
  named_as f r h =
      let p = and_cases (named B f) (eqb (function_at B f).arity r) h in
      let q = and_cases (ltb 0 f) (ltb f (length B.functions)) p.0 in
      (ltb-true 0 f q.0, ltb-true f (length B.functions) q.1, eqb-true (function_at B f).arity r p.1)

  -- a term of kind 4 to 6 names a function with as many arguments, and a rule of kind 25, 26 or 28 a unary one

  pub names_none : (n : ℕ) → (ns n).kind ≡ 4 → Named B (ns n).a 0
  unfolding fits sort
  names_none n e = named_as (ns n).a 0 (ors_true 7 (named B (ns n).a && eqb (function_at B (ns n).a).arity 0) (operands n 4 e (omega arith)).0)

  pub names_one : (n : ℕ) → (ns n).kind ≡ 5 → Named B (ns n).a 1
  unfolding fits sort
  names_one n e = named_as (ns n).a 1 (ors_true 6 (named B (ns n).a && eqb (function_at B (ns n).a).arity 1) (operands n 5 e (omega arith)).0)

  pub names_two : (n : ℕ) → (ns n).kind ≡ 6 → Named B (ns n).a 2
  unfolding fits sort
  names_two n e = named_as (ns n).a 2 (ors_true 5 (named B (ns n).a && eqb (function_at B (ns n).a).arity 2) (operands n 6 e (omega arith)).0)

  proper_target : (d n : ℕ) → 4 ≤ (ns n).kind → (ns n).kind ≤ 6 → dynamic (function_at B (ns n).a) ≡ true → ProperTarget B (term_at ns (suc d) n)
  unfolding tree
  proper_target d n lo hi dy = dite (ℕ_discrete (ns n).kind 4) four (λ x. dite (ℕ_discrete (ns n).kind 5) five (λ y. six (omega arith)))
    where
      four : (ns n).kind ≡ 4 → ProperTarget B (term_at ns (suc d) n)
      four e = rw e (names_none n e, dy)

      five : (ns n).kind ≡ 5 → ProperTarget B (term_at ns (suc d) n)
      five e = rw e (names_one n e, dy, proper_term d (ns n).b)

      six : (ns n).kind ≡ 6 → ProperTarget B (term_at ns (suc d) n)
      six e = rw e (names_two n e, dy, proper_term d (ns n).b, proper_term d (ns n).c)

  -- ---- rules

  abbrev FitsRule : RuleShape → Node → Type 0
  FitsRule an_assign x = (4 ≤ (ns x.a).kind) × ((ns x.a).kind ≤ 6) × (dynamic (function_at B (ns x.a).a) ≡ true)
  FitsRule a_for_all x = Named B x.b 1 × (relation (function_at B x.b) ≡ true)
  FitsRule an_import x = Named B x.b 1 × ((function_at B x.b).kind ≡ 3)
  FitsRule a_choose x = Named B x.b 1 × (relation (function_at B x.b) ≡ true)
  FitsRule a_skip x = Unit {0}
  FitsRule a_Block x = Unit {0}
  FitsRule a_test x = Unit {0}
  FitsRule a_bind x = Unit {0}
  FitsRule a_release x = Unit {0}
  FitsRule no_rule x = Unit {0}

  abbrev unary : ℕ → Bool
  unary f = named B f && eqb (function_at B f).arity 1

  fits_rule : (n : ℕ) → FitsRule (rule_shape (ns n)) (ns n)
  unfolding fits sort
  fits_rule n = dite (dec_lt (ns n).kind 20) (λ h. rw (lt-leb 20 (ns n).kind h) tt)
      (λ (h : ¬ ((ns n).kind < 20)). rw (le-leb 20 (ns n).kind (omega arith)) (go ((ns n).kind - 20) (omega arith)))
    where
      go : (j : ℕ) → (ns n).kind ≡ j + 20 → FitsRule (get_or rule_shapes j no_rule) (ns n)
      go zero e = tt
      go (suc zero) e =
          let k = (ns (ns n).a).kind in
          let p = and_cases (ltb (ns n).a n && names_location k) (dynamic (function_at B (ns (ns n).a).a)) (operands n 21 e (omega arith)).0 in
          let r = and_cases (leb 4 k) (leb k 6) (and_cases (ltb (ns n).a n) (names_location k) p.0).1 in
          (leb-true 4 (ns (ns n).a).kind r.0, leb-true (ns (ns n).a).kind 6 r.1, p.1)
      go (suc (suc zero)) e = tt
      go (suc (suc (suc zero))) e = tt
      go (suc (suc (suc (suc zero)))) e = tt
      go (suc (suc (suc (suc (suc zero))))) e =
          let h = ors_true 4 (unary (ns n).b && relation (function_at B (ns n).b)) (operands n 25 e (omega arith)).1 in
          let p = and_cases (unary (ns n).b) (relation (function_at B (ns n).b)) h in
          (named_as (ns n).b 1 p.0, p.1)
      go (suc (suc (suc (suc (suc (suc zero)))))) e =
          let h = ors_true 3 (unary (ns n).b && eqb (function_at B (ns n).b).kind 3) (operands n 26 e (omega arith)).1 in
          let p = and_cases (unary (ns n).b) (eqb (function_at B (ns n).b).kind 3) h in
          (named_as (ns n).b 1 p.0, eqb-true (function_at B (ns n).b).kind 3 p.1)
      go (suc (suc (suc (suc (suc (suc (suc zero))))))) e = tt
      go (suc (suc (suc (suc (suc (suc (suc (suc zero)))))))) e =
          let h = ors_true 4 (unary (ns n).b && relation (function_at B (ns n).b)) (operands n 28 e (omega arith)).1 in
          let p = and_cases (unary (ns n).b) (relation (function_at B (ns n).b)) h in
          (named_as (ns n).b 1 p.0, p.1)
      go (suc (suc (suc (suc (suc (suc (suc (suc (suc j))))))))) e = tt

  pub universe_of_forall : (n : ℕ) → (ns n).kind ≡ 25 → Named B (ns n).b 1
  universe_of_forall n e = let f : FitsRule a_for_all (ns n) = rw e at (fits_rule n) in f.0

  pub universe_of_import : (n : ℕ) → (ns n).kind ≡ 26 → Named B (ns n).b 1
  universe_of_import n e = let f : FitsRule an_import (ns n) = rw e at (fits_rule n) in f.0

  pub universe_of_choose : (n : ℕ) → (ns n).kind ≡ 28 → Named B (ns n).b 1
  universe_of_choose n e = let f : FitsRule a_choose (ns n) = rw e at (fits_rule n) in f.0

  abbrev tree_at : ℕ → ℕ → Rule
  tree_at d n = rule_tree ns d (rule_shape (ns n)) n (ns n)

  proper_tree : (d n : ℕ) → ProperRule B (tree_at d n)
  unfolding rule_tree
  proper_tree zero n = tt
  proper_tree (suc zero) n = tt
  proper_tree (suc (suc d)) n = go (rule_shape (ns n)) (fits_rule n) (proper_tree (suc d))
    where
      go : (s : RuleShape) → FitsRule s (ns n) → ((m : ℕ) → ProperRule B (tree_at (suc d) m)) → ProperRule B (rule_tree ns (suc (suc d)) s n (ns n))
      go no_rule f r = tt
      go a_skip f r = tt
      go an_assign f r = (proper_target d (ns n).a f.0 f.1 f.2, proper_term (suc d) (ns n).b)
      go a_Block f r = (r (ns n).a, r (ns n).b)
      go a_test f r = (proper_term (suc d) (ns n).a, r (ns n).b, r (ns n).c)
      go a_bind f r = (proper_term (suc d) (ns n).b, r (ns n).c)
      go a_for_all f r = (f.0, f.1, r (ns n).c)
      go an_import f r = (f.0, f.1, r (ns n).c)
      go a_release f r = proper_term (suc d) (ns n).a
      go a_choose f r = (f.0, f.1, r (ns n).c)

  pub proper_rule : (n : ℕ) → ProperRule B (rule_at ns n)
  proper_rule n = proper_tree _ n
