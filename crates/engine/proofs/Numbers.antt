-- The numbers of the refusals inside a move, which are 11 to 15, 18 and 19, and their q: a node of the book or a location. A move that fires has at most
-- 256 instructions.
use Rattle.std.specs.Prelude.{Option, None, Some}
use Rattle.std.specs.Prelude.{if◌then◌else◌}
use mathlib.Core.Path.{◌≡◌, refl, sym, subst}
use mathlib.Core.Logic.{dite}
use mathlib.Core.Bool.{Bool, true, false}
use mathlib.Core.List.{List, [], ◌∷◌, ◌++◌}
use Prim.Native.Nat.{ℕ, zero, suc, ◌+◌, ◌-◌, ◌≤◌, ◌<◌}
use native.Mathlib.Omega.{arith}
use native.Mathlib.Decide.{dec_lt}
use lib.Dec.{eqb, ltb}
use lib.ListN.{length, get_or, set, length-append, get_or-eq_default}
use borrow.Author.Tests.{ltb-true}
use Rattle.text.specs.Words.{least}
use Rattle.text.specs.Refusals.{non_boolean, not_releasable, list_full, not_in_universe}
use Rattle.text.proofs.Words.{length_table_from, least_here}
use Rattle.book.specs.Book.{Program, L, true_element, false_element, reserve, location, no_node, node_at, agent_at}
use Rattle.book.specs.Scopes.{most_depth}
use Rattle.book.specs.declared.Agent.{Agent}
use Rattle.engine.specs.declared.Instruction.{Instruction}
use Rattle.engine.specs.declared.Instruction.TheVariants.{Update, Release}
use Rattle.engine.specs.Reader.{Reader, value_in}
use Rattle.engine.specs.Term.{eval, target}
use Rattle.engine.specs.Rule.{Rule, skip, assign, block, test, bind, for_all, import, release, choose, Walk, Walked, walking, refused_at, ◌then◌, after, most_instructions, emit, take_label, take_pick, refuse_if, members, each, lowest, import_of, universe_at, choose_of, all_taken, not_boolean, unreleasable, not_member, walk, rule_tree, rule_at, RuleShape, a_skip, an_assign, a_Block, a_test, a_bind, a_for_all, an_import, a_release, a_choose, no_rule, rule_shape, no_variables}
use Rattle.engine.specs.Move.{Input, Fired, Moved, fires, move_refused, unless_clash, updates, clashes, fired_of, walked, walk_reads, fire_or_clash, settle, move}
use Rattle.engine.specs.Claims.{Inside}
use Rattle.engine.proofs.Reader.{value_bind}
use Rattle.engine.proofs.Picks.{rule_walk, walked_ends}

-- ---- the nodes that a rule can be refused at

-- the nodes that a rule can be refused at are below N
abbrev Below : ℕ → Rule → Type 0
Below N skip = Unit {0}
Below N (assign n t u) = n < N
Below N (block r s) = Below N r × Below N s
Below N (test t r s) = Below N r × Below N s
Below N (bind x t r) = Below N r
Below N (for_all x u r) = Below N r
Below N (import n x u r) = (n < N) × Below N r
Below N (release n t) = n < N
Below N (choose n x u r) = (n < N) × Below N r

-- the nodes that a tree can be refused at are nodes of the book: past its nodes there is no rule
tree_below : (B : Program) (d n : ℕ) → Below (length B.nodes) (rule_tree (node_at B) d (rule_shape (node_at B n)) n (node_at B n))
unfolding rule_tree
tree_below B zero n = tt
tree_below B (suc zero) n = tt
tree_below B (suc (suc d)) n =
    dite (dec_lt n (length B.nodes)) (λ h. go h (rule_shape (node_at B n)) (tree_below B (suc d)))
    (λ (h : ¬ (n < length B.nodes)). rw (get_or-eq_default B.nodes no_node {n = n} (omega arith)) tt)
  where
    go : n < length B.nodes → (s : RuleShape)
        → ((m : ℕ) → Below (length B.nodes) (rule_tree (node_at B) (suc d) (rule_shape (node_at B m)) m (node_at B m)))
        → Below (length B.nodes) (rule_tree (node_at B) (suc (suc d)) s n (node_at B n))
    go h an_assign r = h
    go h a_Block r = (r (node_at B n).a, r (node_at B n).b)
    go h a_test r = (r (node_at B n).b, r (node_at B n).c)
    go h a_bind r = r (node_at B n).c
    go h a_for_all r = r (node_at B n).c
    go h an_import r = (h, r (node_at B n).c)
    go h a_release r = h
    go h a_choose r = (h, r (node_at B n).c)
    go h a_skip r = tt
    go h no_rule r = tt

-- ---- the refusals of a walk: 11 to 14, 18 and 19

-- the instructions of a walk fit a list
abbrev Fits : Walk → Type 0
Fits w = length w.made ≤ most_instructions

-- a walk's instructions fit, or it is refused by a refusal inside a move whose q is at most N
abbrev Says : ℕ → Walked → Type 0
Says N (walking w) = Fits w
Says N (refused_at n q) = Inside n × (q ≤ N)

inside_small : (n : ℕ) → 11 ≤ n → n ≤ 15 → Inside n
inside_small n a b = (a, omega arith, (λ e. omega arith), (λ e. omega arith))

inside_large : (n : ℕ) → 18 ≤ n → n ≤ 19 → Inside n
inside_large n a b = (omega arith, b, (λ e. omega arith), (λ e. omega arith))

give_says : (N n : ℕ) (i : Instruction) (w : Walk) → n < N → Says N (emit n i w)
give_says N n i w h = go (ltb (length w.made) most_instructions) refl
  where
    go : (b : Bool) → ltb (length w.made) most_instructions ≡ b
        → Says N (if b then walking (record { made = w.made ++ (i ∷ []); next = w.next; left = w.left }) else refused_at list_full n)
    go true e = omega (arith, length-append w.made (i ∷ []), ltb-true (length w.made) most_instructions e)
    go false e = (inside_small 14 (omega arith) (omega arith), omega arith)

then_says : (N : ℕ) (o : Walked) (f : Walk → Walked) → Says N o → ((w : Walk) → Fits w → Says N (f w)) → Says N (o then f)
then_says N (walking w) f h k = k w h
then_says N (refused_at n q) f h k = h

refuse_says : (N : ℕ) (b : Bool) (r n : ℕ) (w : Walk) → Fits w → Inside r × (n ≤ N) → Says N (refuse_if b r n w)
refuse_says N true r n w m h = h
refuse_says N false r n w m h = m

module _ (N : ℕ) (B : Program) (c : List ℕ) (me : ℕ) where
  after_says : (o : Walked) (f : Walk → Reader Walked) → Says N o → ((w : Walk) → Fits w → Says N (value_in c (f w))) → Says N (value_in c (after o f))
  unfolding value_in
  after_says (walking w) f h k = k w h
  after_says (refused_at n q) f h k = h

  each_says : (f : ℕ → Walk → Reader Walked) (ys : List ℕ) (w : Walk) → Fits w → ((y : ℕ) (v : Walk) → Fits v → Says N (value_in c (f y v)))
      → Says N (value_in c (each f ys w))
  unfolding each value_in
  each_says f [] w m k = m
  each_says f (y ∷ ys) w m k =
      rw (value_bind c (f y w) (λ o. after o (each f ys))) (after_says (value_in c (f y w)) (each f ys) (k y w m) (λ v m. each_says f ys v m k))

  import_says : (n u : ℕ) (w : Walk) (body : ℕ → Walk → Reader Walked) (o : Option ℕ) → n < N → ((y : ℕ) (v : Walk) → Fits v → Says N (value_in c (body y v)))
      → Says N (value_in c (import_of B n u w body o))
  unfolding value_in
  import_says n u w body None h k = (inside_small 13 (omega arith) (omega arith), omega arith)
  import_says n u w body (Some x) h k =
      after_says (emit n (Update (reserve x) false_element) (take_label x w) then emit n (Update (location B u x 0) true_element)) (body x)
      (then_says N (emit n (Update (reserve x) false_element) (take_label x w)) (emit n (Update (location B u x 0) true_element))
      (give_says N n (Update (reserve x) false_element) (take_label x w) h) (λ v m. give_says N n (Update (location B u x 0) true_element) v h)) (k x)

  -- a choose is refused at node n, or goes on with its body
  choose_says : (n u : ℕ) (w : Walk) (body : ℕ → Walk → Reader Walked) (ys : List ℕ) → Fits w → n < N → ((y : ℕ) (v : Walk) → Fits v → Says N (value_in c (body y v)))
      → Says N (value_in c (choose_of B n u w body ys))
  unfolding value_in
  choose_says n u w body [] m h k = (inside_large 19 (omega arith) (omega arith), omega arith)
  choose_says n u w body (y ∷ ys) m h k =
      let v = value_in c (universe_at B u y) in
      rw (value_bind c (universe_at B u y) (λ v. after (refuse_if (not_member v) not_in_universe n (take_pick ys w)) (body y)))
      (after_says (refuse_if (not_member v) not_in_universe n (take_pick ys w)) (body y)
      (refuse_says N (not_member v) not_in_universe n (take_pick ys w) m (inside_large 18 (omega arith) (omega arith), omega arith)) (k y))

  taken_says : (q : ℕ) (ys : List ℕ) (w : Walk) → Fits w → q ≤ N → Says N (all_taken q ys w)
  taken_says q [] w m h = m
  taken_says q (y ∷ ys) w m h = (inside_large 19 (omega arith) (omega arith), h)

  if_says : (b : Bool) (p q : Reader Walked) → Says N (value_in c p) → Says N (value_in c q) → Says N (value_in c (if b then p else q))
  if_says true p q f g = f
  if_says false p q f g = g

  walk_says : (r : Rule) (vs : List ℕ) (w : Walk) → Fits w → Below N r → Says N (value_in c (walk B me r vs w))
  unfolding walk value_in
  walk_says skip vs w m h = m
  walk_says (assign n t u) vs w m h =
      rw (value_bind c (target B me vs t) _, value_bind c (eval B me vs u) _)
      (then_says N (refuse_if (not_boolean B t (value_in c (eval B me vs u))) non_boolean n w)
      (emit n (Update (value_in c (target B me vs t)) (value_in c (eval B me vs u))))
      (refuse_says N (not_boolean B t (value_in c (eval B me vs u))) non_boolean n w m (inside_small 11 (omega arith) (omega arith), omega arith))
      (λ v m. give_says N n (Update (value_in c (target B me vs t)) (value_in c (eval B me vs u))) v h))
  walk_says (block r s) vs w m h = rw (value_bind c (walk B me r vs w) (λ o. after o (walk B me s vs)))
      (after_says (value_in c (walk B me r vs w)) (walk B me s vs) (walk_says r vs w m h.0) (λ v m. walk_says s vs v m h.1))
  walk_says (test t r s) vs w m h =
      rw (value_bind c (eval B me vs t) (λ x. if eqb x true_element then walk B me r vs w else walk B me s vs w))
      (if_says (eqb (value_in c (eval B me vs t)) true_element) (walk B me r vs w) (walk B me s vs w) (walk_says r vs w m h.0) (walk_says s vs w m h.1))
  walk_says (bind x t r) vs w m h = rw (value_bind c (eval B me vs t) (λ y. walk B me r (set vs x y) w)) (walk_says r (set vs x (value_in c (eval B me vs t))) w m h)
  walk_says (for_all x u r) vs w m h =
      rw (value_bind c (members B u 0 B.E) (λ ys. each (λ y. walk B me r (set vs x y)) ys w))
      (each_says (λ y. walk B me r (set vs x y)) (value_in c (members B u 0 B.E)) w m (λ y v m. walk_says r (set vs x y) v m h))
  walk_says (import n x u r) vs w m h =
      rw (value_bind c (lowest w.next (B.E - w.next)) (λ o. import_of B n u w (λ y. walk B me r (set vs x y)) o))
      (import_says n u w (λ y. walk B me r (set vs x y)) (value_in c (lowest w.next (B.E - w.next))) h.0 (λ y v m. walk_says r (set vs x y) v m h.1))
  walk_says (release n t) vs w m h =
      rw (value_bind c (eval B me vs t) _)
      (then_says N (refuse_if (unreleasable B (value_in c (eval B me vs t)) (get_or c (value_in c (eval B me vs t)) 0)) not_releasable n w)
      (emit n (Release (value_in c (eval B me vs t))))
      (refuse_says N (unreleasable B (value_in c (eval B me vs t)) (get_or c (value_in c (eval B me vs t)) 0)) not_releasable n w m (inside_small 12 (omega arith) (omega arith), omega arith))
      (λ v m. give_says N n (Release (value_in c (eval B me vs t))) v h))
  walk_says (choose n x u r) vs w m h =
      choose_says n u w (λ y. walk B me r (set vs x y)) w.left m h.0 (λ y v m. walk_says r (set vs x y) v m h.1)

-- ---- the refusals of a move: 11 to 15, 18 and 19

-- a move fires with instructions that fit, or is refused by a refusal inside a move whose q is at most N
abbrev Stops : ℕ → Moved → Type 0
Stops N (fires f) = length f.instructions ≤ most_instructions
Stops N (move_refused n q) = Inside n × (q ≤ N)

-- the greatest q of a refusal of the move
abbrev pub last_place : Program → Input → ℕ
last_place B i = length B.nodes + L B + (agent_at B i.agent).root

module _ (B : Program) (c : List ℕ) (i : Input) where
  abbrev g : Agent
  g = agent_at B i.agent

  widen : (N M : ℕ) (o : Walked) → N ≤ M → Says N o → Says M o
  widen N M (walking w) h k = k
  widen N M (refused_at n q) h k = (k.0, omega (arith, k.1))

  walk_stops : Says (last_place B i) (walked B c i)
  walk_stops =
      let M = last_place B i in
      let inner = walk_says (length B.nodes) B c g.element (rule_at (node_at B) g.root) no_variables
      (record { made = []; next = B.P; left = i.picks }) (omega arith) (tree_below B most_depth g.root) in
      let o = value_in c (rule_walk B i) in
      subst (Says M) (sym (walked_ends B c i))
      (then_says M o (λ w. all_taken g.root w.left w) (widen (length B.nodes) M o (omega arith) inner)
      (λ w m. taken_says M B c g.element g.root w.left w m (omega arith)))

  move_stops : Stops (last_place B i) (move B c i)
  unfolding move settle fire_or_clash updates
  move_stops = go (walked B c i) walk_stops
    where
      settled : (o : Option ℕ) (f : Fired) → length f.instructions ≤ most_instructions → ((l : ℕ) → o ≡ Some l → l < L B)
          → Stops (last_place B i) (unless_clash o (fires f))
      settled (Some l) f m h = (inside_small 15 (omega arith) (omega arith), omega (arith, h l refl))
      settled None f m h = m

      go : (o : Walked) → Says (last_place B i) o → Stops (last_place B i) (settle B c (walk_reads B c i) o)
      go (refused_at n q) h = h
      go (walking w) h =
          let f = fired_of B c (walk_reads B c i) w.made in
          let bad = clashes f.instructions f.updates in
          let long : length f.updates ≡ L B = length_table_from _ 0 (L B) in
          settled (least bad (length f.updates)) f h (λ l e. omega (arith, long, (least_here bad (length f.updates) l e).0))

  pub move_number : (n q : ℕ) → move B c i ≡ move_refused n q → Inside n × (q ≤ last_place B i)
  move_number n q e = subst (Stops (last_place B i)) e move_stops

  -- a move that fires has at most 256 instructions: one more is refusal 14
  pub fired_few : (f : Fired) → move B c i ≡ fires f → length f.instructions ≤ 256
  fired_few f e = subst (Stops (last_place B i)) e move_stops
