-- A move that fires: its updates and no others change the contents, static locations are never written, and the contents after it are sound, the roll rule
-- included; what it releases is cleared, and it reads Reserve at each label that it takes out of a location. An idle one leaves the contents as they are.
use Rattle.std.specs.Prelude.{Option, None, Some}
use mathlib.Core.Path.{◌≡◌, refl, sym, ap, subst, ◌∙◌}
use mathlib.Core.Logic.{◌⊎◌, inl, inr, dite, ◌≢◌}
use mathlib.Core.Bool.{Bool, true, false, not, ◌||◌, ◌&&◌, or-true, true≢false, false≢true}
use mathlib.Core.List.{List, [], ◌∷◌, ◌++◌}
use Prim.Native.Nat.{ℕ, zero, suc, ◌≤◌, ◌<◌}
use native.Mathlib.Omega.{arith}
use native.Mathlib.Decide.{ℕ_discrete, dec_lt}
use lib.Dec.{eqb, ltb}
use lib.ListN.{length, get_or, replicate, get_or-eq_default}
use lib.Seq.{ext_get_or}
use borrow.Author.Tests.{eq-eqb, ne_eqb, le-ltb, eqb-true, ltb-false, not-false, not-true}
use Rattle.text.specs.Words.{has, some_below, least}
use Rattle.text.proofs.Words.{and_cases, or_cases, or_no, both_ways, least_none, some_below_true, some_below_from, refuted, has_append}
use Rattle.book.specs.Book.{Program, L, true_element, false_element, boolean, node_at, agent_at, place, relation_at, dynamic_at, default_at, arguments_at}
use Rattle.book.specs.Sound.{Lawful, at, Argument, OnRoll, Sound}
use Rattle.book.proofs.Places.{roll_place, roll_inside, roll_argument, default_low}
use Rattle.engine.specs.declared.Instruction.{Instruction}
use Rattle.engine.specs.declared.Instruction.TheVariants.{Update, Release}
use Rattle.engine.specs.Reader.{done, value_in}
use Rattle.engine.specs.Rule.{Walk, Walked, walking, refused_at, ◌then◌, all_taken, walk, agent_walk, rule_at, no_variables}
use Rattle.engine.specs.Move.{values, updates, values_at, released, other, two_values, clashes, idle, new_value, fire, is_some, writes, append_from, release_reads, changed_reads, extra_reads, Input, Fired, fires, unless_clash, walked, walk_reads, fired_of, fire_or_clash, settle, move, reads}
use Rattle.engine.specs.Labels.{issued, count_below, in_reserve}
use Rattle.engine.proofs.Counts.{count_none}
use Rattle.engine.proofs.Reader.{value_bind}
use Rattle.engine.proofs.Append.{append_has}
use Rattle.engine.proofs.Extra.{taken_has}
use Rattle.engine.proofs.Decode.{proper_rule}
use Rattle.engine.proofs.Values.{Sets, Releases, releases_has, has_releases, set_to_none, Cleared, Origin, origin, sets_values, releases_values, length_updates, updates_at, updates_past, new_cases, only_value, fire_inside, fire_at}
use Rattle.engine.proofs.Clash.{releases_agree}
use Rattle.engine.proofs.Walks.{Fine, sets_fine, releases_fine, Made, Comes, walk_comes, taken_comes, low_clean}

pub fire_length : (us : List (List ℕ)) (c : List ℕ) → length (fire us c) ≡ length c
unfolding fire
fire_length [] [] = refl
fire_length (ws ∷ us) [] = refl
fire_length [] (v ∷ c) = refl
fire_length (ws ∷ us) (v ∷ c) = ap suc (fire_length us c)

-- ---- what a move that fires has

pub record Firing (B : Program) (c : List ℕ) (i : Input) (f : Fired) : Type 0 where
  pub walk : Walk
  pub went : walked B c i ≡ walking walk
  pub gave : fired_of B c (walk_reads B c i) walk.made ≡ f
  pub no_clash : least (clashes f.instructions f.updates) (length f.updates) ≡ None

settled : (o : Option ℕ) (g f : Fired) → unless_clash o (fires g) ≡ fires f → (o ≡ None) × (g ≡ f)
settled (Some l) g f e = let z : ◌≡◌ {A = ℕ} 0 1 = cc in absurd (omega arith)
settled None g f e = (refl, cc)

pub firing : (B : Program) (c : List ℕ) (i : Input) (f : Fired) → move B c i ≡ fires f → Firing B c i f
unfolding move settle fire_or_clash
firing B c i f e = go (walked B c i) refl e
  where
    go : (o : Walked) → walked B c i ≡ o → settle B c (walk_reads B c i) o ≡ fires f → Firing B c i f
    go (refused_at n q) p h = let z : ◌≡◌ {A = ℕ} 0 1 = cc in absurd (omega arith)
    go (walking w) p h =
        let g = fired_of B c (walk_reads B c i) w.made in
        let s = settled (least (clashes g.instructions g.updates) (length g.updates)) g f h in
        record {
          walk = w;
          went = p;
          gave = s.1;
          no_clash = subst (λ (k : Fired). least (clashes k.instructions k.updates) (length k.updates) ≡ None) s.1 s.0;
        }

module _ (B : Program) (c : List ℕ) (i : Input) (f : Fired) (moves : move B c i ≡ fires f) where
  pub fired_length : length f.updates ≡ L B
  fired_length =
      let s = firing B c i f moves in
      sym (ap (λ (g : Fired). length g.updates) s.gave) ∙ length_updates B c s.walk.made

  pub fired_reads : reads B c i ≡ f.reads
  unfolding reads
  fired_reads = rw moves

  reads_parts : f.reads ≡ walk_reads B c i ++ extra_reads B c f.instructions f.updates
  reads_parts = subst (λ (g : Fired). g.reads ≡ walk_reads B c i ++ extra_reads B c g.instructions g.updates) (firing B c i f moves).gave refl

  -- no location is given two values
  pub one_value : (l v : ℕ) → has (values_at f.updates l) v ≡ true → new_value (at c l) (values_at f.updates l) ≡ v
  unfolding clashes
  one_value l v h = dite (dec_lt l (L B)) inside (λ (k : ¬ (l < L B)). absurd (false≢true (rw (none (omega arith)) at h)))
    where
      none : L B ≤ l → values_at f.updates l ≡ []
      none k = let s = firing B c i f moves in sym (ap (λ (g : Fired). values_at g.updates l) s.gave) ∙ updates_past B c s.walk.made l k

      inside : l < L B → new_value (at c l) (values_at f.updates l) ≡ v
      inside k =
          let s = firing B c i f moves in
          let e = least_none (clashes f.instructions f.updates) (length f.updates) s.no_clash l (omega (arith, fired_length)) in
          only_value (at c l) (values_at f.updates l) v (or_no (two_values (values_at f.updates l)) _ e).0 h

-- ---- the walk of an agent of a lawful book on sound contents

no_value : (v : ℕ) → get_or no_variables v 0 ≡ 0
no_value v = go 8 v
  where
    go : (n v : ℕ) → get_or (replicate n zero) v zero ≡ zero
    go zero v = refl
    go (suc n) zero = refl
    go (suc n) (suc v) = go n v

-- a location that holds a label is one of the book's
pub held_inside : (B : Program) → Lawful B → (c : List ℕ) → Sound B c → (l : ℕ) → B.P ≤ at c l → l < L B
held_inside B B_ok c c_ok l p = dite (dec_lt l (L B)) (λ h. h)
    (λ (h : ¬ (l < L B)).
    let e : at c l ≡ 0 = get_or-eq_default c 0 {n = l} (omega (arith, c_ok.long)) in
    absurd (omega (arith, B_ok.low)))

module _ (B : Program) (B_ok : Lawful B) (c : List ℕ) (c_ok : Sound B c) (i : Input) where
  pub walked_made : (w : Walk) → walked B c i ≡ walking w → Made B c w
  unfolding agent_walk value_in issued
  walked_made w e =
      let g = agent_at B i.agent in
      let o = walk B g.element (rule_at (node_at B) g.root) no_variables (record { made = []; next = B.P; left = i.picks }) in
      let r = walk_comes B c B_ok c_ok g.element (B_ok.agents i.agent) (rule_at (node_at B) g.root) no_variables (record { made = []; next = B.P; left = i.picks })
      (proper_rule B B_ok g.root) (λ v. rw (no_value v) (low_clean B c B_ok c_ok B.P 0 (omega (arith, B_ok.low))))
      (record { from = omega arith; upto = B_ok.high; all = tt; taken = λ x o h. absurd (omega (arith, c_ok.labels x o)); many = sym none }) in
      let t : Comes B c B.P (walked B c i) = rw (value_bind c o (λ x. done (x then λ v. all_taken g.root v.left v)))
      (end (value_in c o) g.root r) in
      (subst (Comes B c B.P) e t).1
    where
      -- no label of the roll is below P
      none : count_below (in_reserve c) B.P ≡ 0
      none = count_none (in_reserve c) B.P
          (λ x h. ne_eqb (at c x) true_element (λ e. omega (arith, c_ok.labels x (omega (arith, B_ok.high), e))))

      end : (o : Walked) (q : ℕ) → Comes B c B.P o → Comes B c B.P (o then λ v. all_taken q v.left v)
      end (refused_at n p) q h = tt
      end (walking v) q h = taken_comes B c B.P q v.left v h

  module _ (f : Fired) (moves : move B c i ≡ fires f) where
    s : Firing B c i f
    s = firing B c i f moves

    is : List Instruction
    is = s.walk.made

    made : Made B c s.walk
    made = walked_made s.walk s.went

    us : List (List ℕ)
    us = f.updates

    gave : updates B c is ≡ us
    unfolding is us
    gave = ap (λ (g : Fired). g.updates) s.gave

    gave_is : is ≡ f.instructions
    unfolding is
    gave_is = ap (λ (g : Fired). g.instructions) s.gave

    fine : (l v : ℕ) → Sets l v is → Fine B c s.walk.next (Update l v)
    unfolding is
    fine l v t = sets_fine B c s.walk.next is l v made.all t

    label : (x : ℕ) → Releases x is → Fine B c s.walk.next (Release x)
    unfolding is
    label x t = releases_fine B c s.walk.next is x made.all t

    -- where a value that location l is given comes from: an update or a release
    from : (l v : ℕ) → has (values_at us l) v ≡ true → (l < L B) × Origin B c is l v
    from l v m = dite (dec_lt l (L B)) inside (λ (k : ¬ (l < L B)). absurd (false≢true (rw (← gave, updates_past B c is l (omega arith)) at m)))
      where
        inside : l < L B → (l < L B) × Origin B c is l v
        inside h = (h, origin B c is l v (rw (← gave, updates_at B c is l h) at m))

    to : (l v : ℕ) → l < L B → has (values B c l is) v ≡ true → has (values_at us l) v ≡ true
    to l v h m = rw (← gave, updates_at B c is l h) m

    roll_dynamic : (x : ℕ) → x < B.E → dynamic_at B x ≡ true
    roll_dynamic x h = rw (roll_place B B_ok x h, B_ok.reserve)

    -- every update is of a dynamic location
    aims : (l v : ℕ) → has (values_at us l) v ≡ true → dynamic_at B l ≡ true
    aims l v m = go (from l v m).1
      where
        go : Origin B c is l v → dynamic_at B l ≡ true
        go (inl t) = (fine l v t).1
        go (inr (x, r, inl (e, z))) = rw (← e) (roll_dynamic x (label x r).1)
        go (inr (x, r, inr (n, e, k, z))) = e

    still : (l : ℕ) → dynamic_at B l ≡ false → values_at us l ≡ []
    still l e = go (values_at us l) refl
      where
        go : (ws : List ℕ) → values_at us l ≡ ws → ws ≡ []
        go [] q = refl
        go (w ∷ ws) q = absurd (true≢false (sym (aims l w (rw (q, eq-eqb w w refl))) ∙ e))

    -- static locations are not written
    pub fired_static : (l : ℕ) → dynamic_at B l ≡ false → writes f.updates l ≡ false
    unfolding us
    fired_static l e = rw (still l e)

    -- the contents after the move are the old ones with its updates and no others
    pub fired_frame : (l : ℕ) → at (fire f.updates c) l ≡ new_value (at c l) (values_at f.updates l)
    fired_frame l = fire_at f.updates c l (omega (arith, fired_length B c i f moves, c_ok.long))

    d : List ℕ
    d = fire us c

    cases : (Q : ℕ → Type 0) (l : ℕ) → (values_at us l ≡ [] → Q (at c l)) → ((v : ℕ) → has (values_at us l) v ≡ true → Q v) → Q (at d l)
    unfolding d us
    cases Q l old given = rw (fired_frame l) (new_cases Q (at c l) (values_at us l) old given)

    -- what a release gives is no label
    given_low : (x l v : ℕ) → Cleared B c x l v → v < B.P
    given_low x l v (inl (e, z)) = omega (arith, B_ok.low)
    given_low x l v (inr (n, a, b, z)) = omega (arith, B_ok.low, default_low (place B l).function)

    on_default : (x : ℕ) → x < B.E → default_at B x ≡ false_element
    on_default x h = rw (roll_place B B_ok x h, B_ok.reserve)

    -- a label on the roll afterwards was released, or was on it before and is not taken
    cause : (x : ℕ) → OnRoll B d x → Releases x is ⊎ (OnRoll B c x × (s.walk.next ≤ x))
    unfolding is
    cause x (h, e) = cases (λ v. v ≡ true_element → Releases x is ⊎ (OnRoll B c x × (s.walk.next ≤ x))) x old given e
      where
        old : values_at us x ≡ [] → at c x ≡ true_element → Releases x is ⊎ (OnRoll B c x × (s.walk.next ≤ x))
        old n q = inr (
          (h, q),
          dite (dec_lt x s.walk.next)
              (λ b.
              let t = sets_values B c is x false_element (made.taken x (h, q) b) in
              absurd (false≢true (rw n at (to x false_element (omega (arith, roll_inside B B_ok)) t))))
              (λ (b : ¬ (x < s.walk.next)). omega arith),
        )

        given : (v : ℕ) → has (values_at us x) v ≡ true → v ≡ true_element → Releases x is ⊎ (OnRoll B c x × (s.walk.next ≤ x))
        given v m q = go (from x v m).1
          where
            go : Origin B c is x v → Releases x is ⊎ (OnRoll B c x × (s.walk.next ≤ x))
            go (inl t) = absurd (omega (arith, (fine x v t).4 h))
            go (inr (y, r, inl (p, z))) = inl (rw (← p) r)
            go (inr (y, r, inr (n, a, b, z))) = absurd (omega (arith, on_default x h))

    -- where a label x is released, a location that concerns it has the value that clearing gives
    swept : (x l v : ℕ) → Releases x is → l < L B → Cleared B c x l v → at d l ≡ v
    unfolding d us
    swept x l v r h z = fired_frame l ∙ one_value B c i f moves l v (to l v h (releases_values B c is x l v r z))

    arguments : (x l : ℕ) → OnRoll B d x → l < L B → l ≢ x → Argument B x l → at d l ≡ default_at B l
    arguments x l o h n a = go (cause x o)
      where
        freed : Releases x is → (b : Bool) → dynamic_at B l ≡ b → at d l ≡ default_at B l
        freed r false q = cases (λ v. v ≡ default_at B l) l (λ e. c_ok.fixed_arguments l x h q (label x r).0 a)
            (λ v m. absurd (false≢true (rw (still l q) at m)))
        freed r true q = swept x l (default_at B l) r h (inr ((λ z. n (sym z)), q, rw a, refl))

        given : s.walk.next ≤ x → OnRoll B c x → (v : ℕ) → Origin B c is l v → v ≡ default_at B l
        given b p v (inl t) = absurd (omega (arith, ((fine l v t).5 x a).1 p))
        given b p v (inr (y, r, inl (e, z))) = absurd (n (roll_argument B B_ok x l (omega (arith, (label y r).1)) a))
        given b p v (inr (y, r, inr (k, e, u, z))) = z

        go : Releases x is ⊎ (OnRoll B c x × (s.walk.next ≤ x)) → at d l ≡ default_at B l
        go (inl r) = freed r (dynamic_at B l) refl
        go (inr (p, b)) = cases (λ v. v ≡ default_at B l) l (λ e. c_ok.arguments x l p h n a) (λ v m. given b p v (from l v m).1)

    has_some : (ws : List ℕ) (v : ℕ) → has ws v ≡ true → is_some ws ≡ true
    has_some [] v h = h
    has_some (w ∷ ws) v h = refl

    -- a location that holds a label which is released is written
    holder_written : (x l : ℕ) → Releases x is → l < L B → at c l ≡ x → writes us l ≡ true
    holder_written x l r h e = go (dynamic_at B l) refl
      where
        by : (v : ℕ) → Cleared B c x l v → writes us l ≡ true
        by v z = has_some (values_at us l) v (to l v h (releases_values B c is x l v r z))

        go : (b : Bool) → dynamic_at B l ≡ b → writes us l ≡ true
        go false q = absurd (omega (arith, c_ok.fixed_values l h q, (label x r).0))
        go true q = dite (ℕ_discrete x l) (λ z. by true_element (inl (z, refl)))
            (λ z. by (default_at B l) (inr (z, q, (rw (eq-eqb (at c l) x e) (or-true (has (arguments_at B l) x))), refl)))

    values_kept : (x l : ℕ) → OnRoll B d x → l < L B → at d l ≢ x
    unfolding is us clashes
    values_kept x l o h = go (cause x o)
      where
        held : Releases x is → values_at us l ≡ [] → at c l ≡ x → ⊥
        held r n e = false≢true (rw n at (holder_written x l r h e))

        -- no location is set to a released label
        unset : has (released f.instructions) x ≡ true → Sets l x is → ⊥
        unset r t =
            let e = least_none (clashes f.instructions f.updates) (length f.updates) s.no_clash l (omega (arith, fired_length B c i f moves)) in
            true≢false (sym r ∙ set_to_none (released f.instructions) f.instructions l x (or_no (two_values (values_at us l)) _ e).1 (rw gave_is at t))

        freed : Releases x is → (v : ℕ) → Origin B c is l v → v ≢ x
        freed r v (inl t) e = unset (rw gave_is at (releases_has is x r)) (rw e at t)
        freed r v (inr (y, t, z)) e = omega (arith, given_low y l v z, (label x r).0)

        stays : s.walk.next ≤ x → OnRoll B c x → (v : ℕ) → Origin B c is l v → v ≢ x
        stays b p v (inl t) e = omega (arith, (fine l v t).2.1 (rw e p))
        stays b p v (inr (y, t, z)) e = omega (arith, given_low y l v z, c_ok.labels x p)

        go : Releases x is ⊎ (OnRoll B c x × (s.walk.next ≤ x)) → at d l ≢ x
        go (inl r) = cases (λ v. v ≢ x) l (λ n e. held r n e) (λ v m. freed r v (from l v m).1)
        go (inr (p, b)) = cases (λ v. v ≢ x) l (λ n. c_ok.values x l p h) (λ v m. stays b p v (from l v m).1)

    labels : (x : ℕ) → OnRoll B d x → B.P ≤ x
    labels x o = go (cause x o)
      where
        go : Releases x is ⊎ (OnRoll B c x × (s.walk.next ≤ x)) → B.P ≤ x
        go (inl r) = (label x r).0
        go (inr (p, b)) = c_ok.labels x p

    -- the contents after the move are sound, the roll rule included
    pub fired_keep : Sound B (fire f.updates c)
    unfolding d us
    fired_keep = record {
      long = fire_length us c ∙ c_ok.long;
      small = λ l. cases (λ v. v < B.E) l (λ e. c_ok.small l) (λ v m. small l v (from l v m).1);
      booleans = λ l h r. cases (λ v. boolean v ≡ true) l (λ e. c_ok.booleans l h r) (λ v m. booleans l v r (from l v m).1);
      fixed_values = λ l h e. rw (fired_frame l, still l e) (c_ok.fixed_values l h e);
      fixed_arguments = λ l x h e p a. rw (fired_frame l, still l e) (c_ok.fixed_arguments l x h e p a);
      labels = labels;
      arguments = arguments;
      values = values_kept;
    }
      where
        small : (l v : ℕ) → Origin B c is l v → v < B.E
        small l v (inl t) = (fine l v t).2.0
        small l v (inr (x, r, z)) = omega (arith, given_low x l v z, B_ok.high)

        booleans : (l v : ℕ) → relation_at B l ≡ true → Origin B c is l v → boolean v ≡ true
        booleans l v e (inl t) = (fine l v t).3 e
        booleans l v e (inr (x, r, inl (p, z))) = rw z
        booleans l v e (inr (x, r, inr (n, a, b, z))) = rw (z, e)

    -- ---- labels

    freed_is : (x : ℕ) → has (released f.instructions) x ≡ true → Releases x is
    freed_is x h = has_releases is x (rw (← gave_is) at h)

    -- what a move releases is a label
    pub fired_label : (x : ℕ) → has (released f.instructions) x ≡ true → (B.P ≤ x) × (x < B.E)
    fired_label x h = let t = label x (freed_is x h) in (t.0, t.1)

    -- a release writes Reserve at its label, which is true afterwards
    pub fired_returns : (x : ℕ) → has (released f.instructions) x ≡ true → (writes f.updates x ≡ true) × (at (fire f.updates c) x ≡ true_element)
    unfolding us d
    fired_returns x h =
        let r = freed_is x h in
        let b : x < L B = omega (arith, (label x r).1, roll_inside B B_ok) in (
          has_some (values_at us x) true_element (to x true_element b (releases_values B c is x x true_element r (inl (refl, refl)))),
          swept x x true_element r b (inl (refl, refl)),
        )

    -- a location that an update sets has its value afterwards
    pub fired_sets : (l v : ℕ) → Sets l v f.instructions → at (fire f.updates c) l ≡ v
    unfolding us
    fired_sets l v t =
        let t : Sets l v is = rw (← gave_is) at t in
        fired_frame l ∙ one_value B c i f moves l v (to l v (fine l v t).0 (sets_values B c is l v t))

    -- after the move the roll has the labels that it releases, and those that were on it and that its walk did not pass
    pub fired_roll : (x : ℕ) → x < B.E → in_reserve (fire f.updates c) x
        ≡ (has (released f.instructions) x || (in_reserve c x && not (ltb x (firing B c i f moves).walk.next)))
    unfolding s is us d
    fired_roll x h =
        both_ways (in_reserve d x) (has (released f.instructions) x || left) (λ e. there (cause x (h, eqb-true (at d x) true_element e)))
        (λ e. eq-eqb (at d x) true_element (back (or_cases (has (released f.instructions) x) left e)))
      where
        left : Bool
        left = in_reserve c x && not (ltb x s.walk.next)

        there : Releases x is ⊎ (OnRoll B c x × (s.walk.next ≤ x)) → (has (released f.instructions) x || left) ≡ true
        there (inl r) = rw (rw gave_is at (releases_has is x r))
        there (inr ((b, e), n)) = rw (eq-eqb (at c x) true_element e, le-ltb x s.walk.next n) (or-true (has (released f.instructions) x))

        -- an update of Reserve would be at a label that the walk passed, and releases agree
        given : OnRoll B c x → s.walk.next ≤ x → (v : ℕ) → Origin B c is x v → v ≡ true_element
        given o n v (inl t) = absurd (omega (arith, ((fine x v t).5 x (rw (roll_place B B_ok x h, B_ok.reserve, eq-eqb x x refl))).1 o))
        given o n v (inr (y, r, z)) =
            sym (releases_agree B B_ok c c_ok x y x true_element v (c_ok.labels x o, h) ((label y r).0, (label y r).1) (inl (refl, refl)) z)

        back : (has (released f.instructions) x ≡ true) ⊎ (left ≡ true) → at d x ≡ true_element
        back (inl r) = (fired_returns x r).1
        back (inr q) =
            let p = and_cases (in_reserve c x) (not (ltb x s.walk.next)) q in
            let e = eqb-true (at c x) true_element p.0 in
            let n = ltb-false x s.walk.next (not-true (ltb x s.walk.next) p.1) in
            cases (λ v. v ≡ true_element) x (λ z. e) (λ v m. given (h, e) n v (from x v m).1)

    -- a release writes each location that holds its label
    pub fired_clears : (x l : ℕ) → has (released f.instructions) x ≡ true → at c l ≡ x → writes f.updates l ≡ true
    unfolding us
    fired_clears x l h e =
        let r = freed_is x h in
        holder_written x l r (held_inside B B_ok c c_ok l (omega (arith, (label x r).0))) e

    -- a move that changes a location from a label to another value reads Reserve at the label
    pub fired_takes : (l : ℕ) → B.P ≤ at c l → at (fire f.updates c) l ≢ at c l → has f.reads (at c l) ≡ true
    unfolding extra_reads
    fired_takes l p n =
        let one : has (changed_reads B c f.updates l) (at c l) ≡ true =
        taken_has B.P (at c l) (new_value (at c l) (values_at f.updates l)) p (λ q. n (fired_frame l ∙ q)) in
        let m = append_has (changed_reads B c f.updates) 0 (L B) l (at c l) (omega arith) (omega (arith, held_inside B B_ok c c_ok l p)) one in
        rw (
          reads_parts B c i f moves,
          has_append (walk_reads B c i) _ (at c l),
          has_append (append_from (release_reads B c (released f.instructions)) 0 (L B)) _ (at c l),
          m,
          or-true (has (append_from (release_reads B c (released f.instructions)) 0 (L B)) (at c l)),
        )
        (or-true (has (walk_reads B c i) (at c l)))

-- ---- an idle move

-- updates that would change no location leave the contents as they are
pub idle_leaves : (c : List ℕ) (us : List (List ℕ)) → idle c us ≡ true → fire us c ≡ c
unfolding idle other
idle_leaves c us e = ext_get_or 0 (fire us c) c (fire_length us c) (λ l h. fire_inside us c l (omega (arith, fire_length us c)) ∙ go l (values_at us l) refl (dite (dec_lt l (length us))
    (λ k. refuted (other (at c l) (values_at us l)) (λ q. true≢false (sym e ∙ rw (some_below_from (λ l. other (at c l) (values_at us l)) (length us) l k q))))
    (λ (k : ¬ (l < length us)). rw (get_or-eq_default us [] {n = l} (omega arith)))))
  where
    go : (l : ℕ) (ws : List ℕ) → values_at us l ≡ ws → other (at c l) (values_at us l) ≡ false → new_value (at c l) ws ≡ at c l
    go l [] q n = refl
    go l (w ∷ ws) q n = eqb-true w (at c l) (not-false (eqb w (at c l)) (or_no (not (eqb w (at c l))) (other (at c l) ws) (rw q at n)).0)

other_none : (x : ℕ) (ws : List ℕ) → ((v : ℕ) → has ws v ≡ true → v ≡ x) → other x ws ≡ false
unfolding other
other_none x [] h = refl
other_none x (w ∷ ws) h =
    rw (eq-eqb w x (h w (rw (eq-eqb w w refl))), other_none x ws (λ v e. h v (rw e (or-true (eqb w v)))))

-- if the updates of a move that fires leave the contents as they are, it is idle
pub leaves_idle : (B : Program) → Lawful B → (c : List ℕ) → Sound B c → (i : Input) (f : Fired) → move B c i ≡ fires f
    → fire f.updates c ≡ c → idle c f.updates ≡ true
unfolding idle
leaves_idle B ok c s i f moves e = rw (refuted (some_below test (length f.updates)) (λ q. let r = some_below_true test (length f.updates) q in true≢false (sym r.2 ∙ still r.0)))
  where
    test : ℕ → Bool
    test l = other (at c l) (values_at f.updates l)

    still : (l : ℕ) → test l ≡ false
    still l =
        let kept : new_value (at c l) (values_at f.updates l) ≡ at c l = sym (fired_frame B ok c s i f moves l) ∙ ap (λ (d : List ℕ). at d l) e in
        other_none (at c l) (values_at f.updates l) (λ v h. sym (one_value B c i f moves l v h) ∙ kept)
