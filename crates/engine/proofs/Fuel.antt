-- The tree of a lawful book's rule is the same however much deeper than 32 nodes it is built: the depth bound never ends a walk.
use mathlib.Core.Path.{◌≡◌, refl, ap}
use mathlib.Core.Logic.{dite}
use mathlib.Core.Bool.{true}
use Prim.Native.Nat.{ℕ, zero, suc, ◌+◌, ◌-◌, ◌≤◌, ◌<◌}
use native.Mathlib.Omega.{arith}
use native.Mathlib.Decide.{dec_lt}
use lib.ListN.{length, get_or}
use borrow.Author.Tests.{lt-leb, le-leb}
use Rattle.book.specs.declared.Node.{Node}
use Rattle.book.specs.Book.{Program, node_at, agent_at}
use Rattle.book.specs.Kinds.{sort, is_node}
use Rattle.book.specs.Sound.{Lawful}
use Rattle.book.proofs.Depth.{depth_at, operand, root_depth, operand_depth, depth_most}
use Rattle.engine.specs.Term.{at1, negated, tree, term_at, Shape, an_element, a_variable, the_agent, of_none, of_one, of_two, a_not, no_term, a_join, shape, shapes}
use Rattle.engine.specs.Rule.{Rule, for_all, import, release, choose, rule_tree, rule_at, RuleShape, a_skip, an_assign, a_Block, a_test, a_bind, a_for_all, an_import, a_release, a_choose, no_rule, rule_shape, rule_shapes}

module _ (B : Program) (ok : Lawful B) where
  abbrev ns : ℕ → Node
  ns n = node_at B n

  -- node m stands right below node n
  abbrev Below : ℕ → ℕ → Type 0
  Below n m = (m < length B.nodes) × (depth_at B m ≡ depth_at B n + 1)

  below : (n j : ℕ) → n < length B.nodes → j < 3 → is_node (ns n).kind j ≡ true → Below n (operand (ns n) j)
  below n j h k e = let r = operand_depth B ok n j h k e in (omega (arith, r.0), r.1)

  -- ---- terms

  abbrev Operands : ℕ → Shape → Type 0
  Operands n of_one = Below n (ns n).b
  Operands n of_two = Below n (ns n).b × Below n (ns n).c
  Operands n a_not = Below n (ns n).a
  Operands n (a_join o) = Below n (ns n).a × Below n (ns n).b
  Operands n an_element = Unit {0}
  Operands n a_variable = Unit {0}
  Operands n the_agent = Unit {0}
  Operands n of_none = Unit {0}
  Operands n no_term = Unit {0}

  operands : (n : ℕ) → n < length B.nodes → Operands n (shape (ns n))
  unfolding sort
  operands n h = go (ns n).kind refl
    where
      at_place : (k j : ℕ) → (ns n).kind ≡ k → j < 3 → is_node k j ≡ true → Below n (operand (ns n) j)
      at_place k j e b t = below n j h b (rw e t)

      two : (k : ℕ) → (ns n).kind ≡ k → is_node k 0 ≡ true → is_node k 1 ≡ true → Below n (ns n).a × Below n (ns n).b
      two k e a b = (at_place k 0 e (omega arith) a, at_place k 1 e (omega arith) b)

      go : (k : ℕ) → (ns n).kind ≡ k → Operands n (get_or shapes k no_term)
      go zero e = tt
      go (suc zero) e = tt
      go (suc (suc zero)) e = tt
      go (suc (suc (suc zero))) e = tt
      go (suc (suc (suc (suc zero)))) e = tt
      go (suc (suc (suc (suc (suc zero))))) e = at_place 5 1 e (omega arith) refl
      go (suc (suc (suc (suc (suc (suc zero)))))) e = (at_place 6 1 e (omega arith) refl, at_place 6 2 e (omega arith) refl)
      go (suc (suc (suc (suc (suc (suc (suc zero))))))) e = two 7 e refl refl
      go (suc (suc (suc (suc (suc (suc (suc (suc zero)))))))) e = at_place 8 0 e (omega arith) refl
      go (suc (suc (suc (suc (suc (suc (suc (suc (suc zero))))))))) e = two 9 e refl refl
      go (suc (suc (suc (suc (suc (suc (suc (suc (suc (suc zero)))))))))) e = two 10 e refl refl
      go (suc (suc (suc (suc (suc (suc (suc (suc (suc (suc (suc zero))))))))))) e = two 11 e refl refl
      go (suc (suc (suc (suc (suc (suc (suc (suc (suc (suc (suc (suc zero)))))))))))) e = two 12 e refl refl
      go (suc (suc (suc (suc (suc (suc (suc (suc (suc (suc (suc (suc (suc zero))))))))))))) e = two 13 e refl refl
      go (suc (suc (suc (suc (suc (suc (suc (suc (suc (suc (suc (suc (suc (suc k)))))))))))))) e = tt

  -- a term built as deep as the depth bound leaves room for is the same if it is built deeper
  pub same_term : (d e n : ℕ) → n < length B.nodes → 33 ≤ d + depth_at B n → d ≤ e → term_at ns e n ≡ term_at ns d n
  unfolding tree
  same_term zero e n h k l = absurd (omega (arith, depth_most B ok n h))
  same_term (suc d) zero n h k l = absurd (omega arith)
  same_term (suc d) (suc e) n h k l = go (shape (ns n)) (operands n h) (λ m b. same_term d e m b.0 (omega (arith, b.1)) (omega arith))
    where
      go : (s : Shape) → Operands n s → ((m : ℕ) → Below n m → term_at ns e m ≡ term_at ns d m) → tree ns (suc e) s (ns n) ≡ tree ns (suc d) s (ns n)
      go of_one b r = ap (at1 (ns n).a) (r (ns n).b b)
      go of_two b r = rw (r (ns n).b b.0, r (ns n).c b.1)
      go a_not b r = ap negated (r (ns n).a b)
      go (a_join o) b r = rw (r (ns n).a b.0, r (ns n).b b.1)
      go an_element b r = refl
      go a_variable b r = refl
      go the_agent b r = refl
      go of_none b r = refl
      go no_term b r = refl

  -- ---- rules

  abbrev Parts : ℕ → RuleShape → Type 0
  Parts n an_assign = Below n (ns n).a × Below n (ns n).b
  Parts n a_Block = Below n (ns n).a × Below n (ns n).b
  Parts n a_test = Below n (ns n).a × Below n (ns n).b × Below n (ns n).c
  Parts n a_bind = Below n (ns n).b × Below n (ns n).c
  Parts n a_for_all = Below n (ns n).c
  Parts n an_import = Below n (ns n).c
  Parts n a_release = Below n (ns n).a
  Parts n a_choose = Below n (ns n).c
  Parts n a_skip = Unit {0}
  Parts n no_rule = Unit {0}

  parts : (n : ℕ) → n < length B.nodes → Parts n (rule_shape (ns n))
  unfolding sort
  parts n h = dite (dec_lt (ns n).kind 20) (λ k. rw (lt-leb 20 (ns n).kind k) tt)
      (λ (k : ¬ ((ns n).kind < 20)). rw (le-leb 20 (ns n).kind (omega arith)) (go ((ns n).kind - 20) (omega arith)))
    where
      at_place : (k j : ℕ) → (ns n).kind ≡ k → j < 3 → is_node k j ≡ true → Below n (operand (ns n) j)
      at_place k j e b t = below n j h b (rw e t)

      go : (j : ℕ) → (ns n).kind ≡ j + 20 → Parts n (get_or rule_shapes j no_rule)
      go zero e = tt
      go (suc zero) e = (at_place 21 0 e (omega arith) refl, at_place 21 1 e (omega arith) refl)
      go (suc (suc zero)) e = (at_place 22 0 e (omega arith) refl, at_place 22 1 e (omega arith) refl)
      go (suc (suc (suc zero))) e = (at_place 23 0 e (omega arith) refl, at_place 23 1 e (omega arith) refl, at_place 23 2 e (omega arith) refl)
      go (suc (suc (suc (suc zero)))) e = (at_place 24 1 e (omega arith) refl, at_place 24 2 e (omega arith) refl)
      go (suc (suc (suc (suc (suc zero))))) e = at_place 25 2 e (omega arith) refl
      go (suc (suc (suc (suc (suc (suc zero)))))) e = at_place 26 2 e (omega arith) refl
      go (suc (suc (suc (suc (suc (suc (suc zero))))))) e = at_place 27 0 e (omega arith) refl
      go (suc (suc (suc (suc (suc (suc (suc (suc zero)))))))) e = at_place 28 2 e (omega arith) refl
      go (suc (suc (suc (suc (suc (suc (suc (suc (suc j))))))))) e = tt

  abbrev tree_at : ℕ → ℕ → Rule
  tree_at d n = rule_tree ns d (rule_shape (ns n)) n (ns n)

  pub same_rule : (d e n : ℕ) → n < length B.nodes → 33 ≤ d + depth_at B n → d ≤ e → tree_at e n ≡ tree_at d n
  unfolding rule_tree
  same_rule zero e n h k l = absurd (omega (arith, depth_most B ok n h))
  same_rule (suc d) zero n h k l = absurd (omega arith)
  same_rule (suc (suc d)) (suc zero) n h k l = absurd (omega arith)
  same_rule (suc zero) (suc zero) n h k l = refl
  same_rule (suc zero) (suc (suc e)) n h k l = go (rule_shape (ns n)) (parts n h)
    where
      -- a node at depth 32 has no operand
      deep : {A : Type 0} (m : ℕ) → Below n m → A
      deep m b = absurd (omega (arith, b.1, depth_most B ok m b.0))

      go : (s : RuleShape) → Parts n s → rule_tree ns (suc (suc e)) s n (ns n) ≡ rule_tree ns (suc zero) s n (ns n)
      go an_assign b = deep (ns n).a b.0
      go a_Block b = deep (ns n).a b.0
      go a_test b = deep (ns n).a b.0
      go a_bind b = deep (ns n).b b.0
      go a_for_all b = deep (ns n).c b
      go an_import b = deep (ns n).c b
      go a_release b = deep (ns n).a b
      go a_choose b = deep (ns n).c b
      go a_skip b = refl
      go no_rule b = refl
  same_rule (suc (suc d)) (suc (suc e)) n h k l =
      go (rule_shape (ns n)) (parts n h) (λ m b. same_term (suc d) (suc e) m b.0 (omega (arith, b.1)) (omega arith))
      (λ m b. same_rule (suc d) (suc e) m b.0 (omega (arith, b.1)) (omega arith))
    where
      go : (s : RuleShape) → Parts n s → ((m : ℕ) → Below n m → term_at ns (suc e) m ≡ term_at ns (suc d) m)
          → ((m : ℕ) → Below n m → tree_at (suc e) m ≡ tree_at (suc d) m) → rule_tree ns (suc (suc e)) s n (ns n) ≡ rule_tree ns (suc (suc d)) s n (ns n)
      go an_assign b t r = rw (t (ns n).a b.0, t (ns n).b b.1)
      go a_Block b t r = rw (r (ns n).a b.0, r (ns n).b b.1)
      go a_test b t r = rw (t (ns n).a b.0, r (ns n).b b.1, r (ns n).c b.2)
      go a_bind b t r = rw (t (ns n).b b.0, r (ns n).c b.1)
      go a_for_all b t r = ap (for_all (ns n).a (ns n).b) (r (ns n).c b)
      go an_import b t r = ap (import n (ns n).a (ns n).b) (r (ns n).c b)
      go a_release b t r = ap (release n) (t (ns n).a b)
      go a_choose b t r = ap (choose n (ns n).a (ns n).b) (r (ns n).c b)
      go a_skip b t r = refl
      go no_rule b t r = refl

  -- 32, which is how deep `rule_at` builds, is never what ends an agent's walk
  pub same_root : (k d : ℕ) → k < length B.agents
      → rule_tree (node_at B) (32 + d) (rule_shape (node_at B (agent_at B k).root)) (agent_at B k).root (node_at B (agent_at B k).root)
      ≡ rule_at (node_at B) (agent_at B k).root
  same_root k d h = same_rule _ (32 + d) (agent_at B k).root (ok.roots k h).0 (omega (arith, root_depth B ok k h)) (omega arith)
