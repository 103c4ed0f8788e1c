-- The walk of a lawful book on sound contents: what each of its instructions is. An update names a dynamic location after Reserve, or takes a label;
-- no label of the roll is in it but those taken; a release is of a label.
use Rattle.std.specs.Prelude.{Option, None, Some}
use Rattle.std.specs.Prelude.{if◌then◌else◌}
use mathlib.Core.Path.{◌≡◌, refl, sym, ap, subst, ◌∙◌}
use mathlib.Core.Logic.{◌↔◌, ◌⊎◌, inl, inr, dite, ◌≢◌}
use mathlib.Core.Bool.{Bool, true, false, not, ◌||◌, ◌&&◌, false≢true}
use mathlib.Core.List.{List, [], ◌∷◌, ◌++◌}
use Prim.Native.Nat.{ℕ, zero, suc, ◌+◌, ◌-◌, ◌≤◌, ◌<◌}
use native.Mathlib.Omega.{arith}
use native.Mathlib.Decide.{ℕ_discrete, dec_lt}
use lib.Dec.{eqb, ltb, leb}
use lib.ListN.{length, get_or, set, get_or-eq_default}
use borrow.Author.Tests.{eqb-true, eqb-false, eq-eqb, ne_eqb, lt-ltb, le-ltb, ltb-true, ltb-false, leb-true, not-false}
use Rattle.text.specs.Words.{one_if}
use Rattle.text.specs.Refusals.{non_boolean, not_releasable, list_full, not_in_universe}
use Rattle.text.proofs.Words.{and_cases, or_no}
use Rattle.book.specs.Book.{undef, true_element, false_element, boolean, truth, relation, dynamic, Program, L, location, reserve, function_at, place, relation_at, dynamic_at}
use Rattle.book.specs.Sound.{Lawful, at, Argument, OnRoll, Sound}
use Rattle.book.proofs.Places.{located, held_argument, held_first, roll_place, roll_inside, roll_argument, past_roll, default_low}
use Rattle.engine.specs.declared.Instruction.{Instruction}
use Rattle.engine.specs.declared.Instruction.TheVariants.{Update, Release}
use Rattle.engine.specs.Reader.{Reader, done, read, value_in, ◌>>=◌}
use Rattle.engine.specs.Term.{Op, equal, conjunction, disjunction, plus, minus, less, Term, element, variable, self, at0, at1, at2, negated, joined, number, apply, negate, eval, target, function_of}
use Rattle.engine.specs.Rule.{Rule, skip, assign, block, test, bind, for_all, import, release, choose, Walk, Walked, walking, refused_at, ◌then◌, after, most_instructions, emit, take_label, take_pick, refuse_if, members, each, lowest, import_of, universe_at, choose_of, all_taken, not_boolean, unreleasable, not_member, walk}
use Rattle.engine.specs.Labels.{issues, issued, count_below, in_reserve}
use Rattle.engine.proofs.Counts.{count_upto}
use Rattle.engine.proofs.Reader.{value_bind}
use Rattle.engine.proofs.Picks.{universe_member}
use Rattle.engine.proofs.LocationsRead.{names_one, names_two}
use Rattle.engine.proofs.Decode.{Proper, Named, ProperTarget, ProperRule}
use Rattle.engine.proofs.Values.{Sets, Releases}

-- a value of a list with one put in is that one, or as it was
set_cases : (vs : List ℕ) (x y v : ℕ) → (get_or (set vs x y) v 0 ≡ y) ⊎ (get_or (set vs x y) v 0 ≡ get_or vs v 0)
set_cases [] x y v = inr refl
set_cases (z ∷ vs) zero y zero = inl refl
set_cases (z ∷ vs) zero y (suc v) = inr refl
set_cases (z ∷ vs) (suc x) y zero = inr refl
set_cases (z ∷ vs) (suc x) y (suc v) = set_cases vs x y v

-- ---- what a walk has made

module _ (B : Program) (c : List ℕ) where
  -- v is an element that a rule may name once the labels of the roll before `next` are taken: no other label of the roll
  abbrev pub Clean : ℕ → ℕ → Type 0
  Clean next v = (v < B.E) × (OnRoll B c v → v < next)

  abbrev pub Fine : ℕ → Instruction → Type 0
  Fine next (Update l v) =
      (l < L B) × (dynamic_at B l ≡ true) × Clean next v × (relation_at B l ≡ true → boolean v ≡ true) × (l < B.E → v ≡ false_element)
      × ((x : ℕ) → Argument B x l → Clean next x)
  Fine next (Release x) = (B.P ≤ x) × (x < B.E) × (at c x ≢ true_element)

  abbrev pub All : ℕ → List Instruction → Type 0
  All next [] = Unit {0}
  All next (i ∷ is) = Fine next i × All next is

  pub record Made (w : Walk) : Type 0 where
    pub from : B.P ≤ w.next
    pub upto : w.next ≤ B.E
    pub all : All w.next w.made
    -- each label of the roll before `next` is taken, and no other is issued
    pub taken : (x : ℕ) → OnRoll B c x → x < w.next → Sets x false_element w.made
    pub many : issued B w.made ≡ count_below (in_reserve c) w.next

  pub sets_fine : (n : ℕ) (is : List Instruction) (l v : ℕ) → All n is → Sets l v is → Fine n (Update l v)
  sets_fine n [] l v a s = elim s [ ]
  sets_fine n (Update k w ∷ is) l v a (inl e) = rw (e.0, e.1) at a.0
  sets_fine n (Update k w ∷ is) l v a (inr s) = sets_fine n is l v a.1 s
  sets_fine n (Release x ∷ is) l v a s = sets_fine n is l v a.1 s

  pub releases_fine : (n : ℕ) (is : List Instruction) (x : ℕ) → All n is → Releases x is → Fine n (Release x)
  releases_fine n [] x a f = elim f [ ]
  releases_fine n (Update k w ∷ is) x a f = releases_fine n is x a.1 f
  releases_fine n (Release y ∷ is) x a (inl e) = rw e at a.0
  releases_fine n (Release y ∷ is) x a (inr f) = releases_fine n is x a.1 f

  -- what a walk from `next` on comes to, if it meets no refusal, has what a walk has made
  abbrev pub Comes : ℕ → Walked → Type 0
  Comes next (refused_at n q) = Unit {0}
  Comes next (walking w) = (next ≤ w.next) × Made w

  -- the values of the variables are elements that a rule may name
  abbrev pub Vars : ℕ → List ℕ → Type 0
  Vars next vs = (v : ℕ) → Clean next (get_or vs v undef)

  fine_more : (m n : ℕ) (i : Instruction) → m ≤ n → Fine m i → Fine n i
  fine_more m n (Update l v) h (a, b, (e, f), d, g, k) =
      (a, b, (e, λ r. omega (arith, f r)), d, g, λ x q. ((k x q).0, λ r. omega (arith, (k x q).1 r)))
  fine_more m n (Release x) h f = f

  all_more : (m n : ℕ) (is : List Instruction) → m ≤ n → All m is → All n is
  all_more m n [] h a = tt
  all_more m n (i ∷ is) h a = (fine_more m n i h a.0, all_more m n is h a.1)

  vars_more : (m n : ℕ) (vs : List ℕ) → m ≤ n → Vars m vs → Vars n vs
  vars_more m n vs h f v = ((f v).0, λ r. omega (arith, (f v).1 r))

  comes_more : (m n : ℕ) (o : Walked) → m ≤ n → Comes n o → Comes m o
  comes_more m n (refused_at r q) h f = tt
  comes_more m n (walking w) h (a, b) = (omega arith, b)

  all_snoc : (n : ℕ) (is : List Instruction) (i : Instruction) → All n is → Fine n i → All n (is ++ (i ∷ []))
  all_snoc n [] i a f = (f, tt)
  all_snoc n (j ∷ is) i a f = (a.0, all_snoc n is i a.1 f)

  sets_snoc : (l v : ℕ) (is : List Instruction) (i : Instruction) → Sets l v is → Sets l v (is ++ (i ∷ []))
  sets_snoc l v [] i s = elim s [ ]
  sets_snoc l v (Update k w ∷ is) i (inl e) = inl e
  sets_snoc l v (Update k w ∷ is) i (inr s) = inr (sets_snoc l v is i s)
  sets_snoc l v (Release x ∷ is) i s = sets_snoc l v is i s

  sets_last : (l v : ℕ) (is : List Instruction) → Sets l v (is ++ (Update l v ∷ []))
  sets_last l v [] = inl (refl, refl)
  sets_last l v (Update k w ∷ is) = inr (sets_last l v is)
  sets_last l v (Release x ∷ is) = sets_last l v is

  vars_set : (n : ℕ) (vs : List ℕ) (x y : ℕ) → Vars n vs → Clean n y → Vars n (set vs x y)
  vars_set n vs x y f h v = go (set_cases vs x y v)
    where
      go : (get_or (set vs x y) v 0 ≡ y) ⊎ (get_or (set vs x y) v 0 ≡ get_or vs v 0) → Clean n (get_or (set vs x y) v 0)
      go (inl e) = rw e h
      go (inr e) = rw e (f v)

  -- ---- one instruction more

  issued_snoc : (is : List Instruction) (i : Instruction) → issued B (is ++ (i ∷ [])) ≡ issued B is + one_if (issues B i)
  unfolding issued
  issued_snoc [] i = omega arith
  issued_snoc (j ∷ is) i = omega (arith, issued_snoc is i)

  give_made : (n : ℕ) (i : Instruction) (w : Walk) → Made w → Fine w.next i → issues B i ≡ false → Comes w.next (emit n i w)
  give_made n i w m f e = go (ltb (length w.made) most_instructions)
    where
      go : (b : Bool) → Comes w.next (if b then walking (record { made = w.made ++ (i ∷ []); next = w.next; left = w.left }) else refused_at list_full n)
      go false = tt
      go true = (
        omega arith,
        record {
          from = m.from;
          upto = m.upto;
          all = all_snoc w.next w.made i m.all f;
          taken = λ x r h. sets_snoc x false_element w.made i (m.taken x r h);
          many = omega (arith, issued_snoc w.made i, ap one_if e, m.many);
        },
      )

  after_comes : (m : ℕ) (o : Walked) (f : Walk → Reader Walked) → Comes m o → ((w : Walk) → m ≤ w.next → Made w → Comes w.next (value_in c (f w)))
      → Comes m (value_in c (after o f))
  unfolding value_in
  after_comes m (refused_at n q) f h k = tt
  after_comes m (walking w) f (a, b) k = comes_more m w.next (value_in c (f w)) a (k w a b)

  then_comes : (m : ℕ) (o : Walked) (f : Walk → Walked) → Comes m o → ((w : Walk) → m ≤ w.next → Made w → Comes w.next (f w)) → Comes m (o then f)
  then_comes m (refused_at n q) f h k = tt
  then_comes m (walking w) f (a, b) k = comes_more m w.next (f w) a (k w a b)

  -- ---- terms

  module _ (B_ok : Lawful B) (c_ok : Sound B c) where
    -- a permanent element is on no roll
    pub low_clean : (n v : ℕ) → v < B.P → Clean n v
    low_clean n v h = (omega (arith, B_ok.high), λ r. absurd (omega (arith, c_ok.labels v r)))

    -- an element that a location holds is not on the roll
    held_clean : (n l : ℕ) → Clean n (at c l)
    held_clean n l = (c_ok.small l, λ r. absurd (go r))
      where
        go : OnRoll B c (at c l) → ⊥
        go r = dite (dec_lt l (L B)) (λ h. c_ok.values (at c l) l r h refl)
            (λ (h : ¬ (l < L B)).
            let e : at c l ≡ 0 = get_or-eq_default c 0 {n = l} (omega (arith, c_ok.long)) in
            omega (arith, c_ok.labels (at c l) r, B_ok.low))

    truth_low : (b : Bool) → truth b < B.P
    truth_low true = omega (arith, B_ok.low)
    truth_low false = omega (arith, B_ok.low)

    if_low : (b : Bool) (x : ℕ) → (b ≡ true → x < B.P) → (if b then x else 0) < B.P
    if_low true x h = h refl
    if_low false x h = omega (arith, B_ok.low)

    apply_low : (o : Op) (x y : ℕ) → apply B.P o x y < B.P
    unfolding apply
    apply_low equal x y = truth_low (eqb x y)
    apply_low conjunction x y = if_low (boolean x && boolean y) (truth (eqb x 2 && eqb y 2)) (λ e. truth_low (eqb x 2 && eqb y 2))
    apply_low disjunction x y = if_low (boolean x && boolean y) (truth (eqb x 2 || eqb y 2)) (λ e. truth_low (eqb x 2 || eqb y 2))
    apply_low plus x y = if_low (number B.P x && number B.P y && ltb (x + y - 3) B.P) (x + y - 3)
        (λ e. ltb-true (x + y - 3) B.P (and_cases (number B.P x && number B.P y) (ltb (x + y - 3) B.P) e).1)
    apply_low minus x y = if_low (number B.P x && number B.P y && leb y x) (3 + (x - y)) (λ e.
        let s = and_cases (number B.P x && number B.P y) (leb y x) e in
        let t = and_cases (number B.P x) (number B.P y) s.0 in
        let p = and_cases (leb 3 x) (ltb x B.P) t.0 in
        let q = and_cases (leb 3 y) (ltb y B.P) t.1 in
        omega (arith, ltb-true x B.P p.1, leb-true 3 y q.0, leb-true y x s.1))
    apply_low less x y = if_low (number B.P x && number B.P y) (truth (ltb x y)) (λ e. truth_low (ltb x y))

    module _ (me : ℕ) (me_low : me < B.P) where
      eval_clean : (n : ℕ) (vs : List ℕ) (t : Term) → Proper B t → Vars n vs → Clean n (value_in c (eval B me vs t))
      unfolding eval value_in
      eval_clean n vs (element x) p f = low_clean n x p
      eval_clean n vs (variable v) p f = f v
      eval_clean n vs self p f = low_clean n me me_low
      eval_clean n vs (at0 g) p f = held_clean n (location B g 0 0)
      eval_clean n vs (at1 g a) p f =
          rw (value_bind c (eval B me vs a) (λ x. read (location B g x 0))) (held_clean n (location B g (value_in c (eval B me vs a)) 0))
      eval_clean n vs (at2 g a b) p f =
          rw (
            value_bind c (eval B me vs a) (λ x. eval B me vs b >>= λ y. read (location B g x y)),
            value_bind c (eval B me vs b) (λ y. read (location B g (value_in c (eval B me vs a)) y)),
          )
          (held_clean n (location B g (value_in c (eval B me vs a)) (value_in c (eval B me vs b))))
      eval_clean n vs (negated a) p f =
          rw (value_bind c (eval B me vs a) (λ x. done (negate x)))
          (low_clean n (negate (value_in c (eval B me vs a)))
          (if_low (boolean (value_in c (eval B me vs a))) (truth (not (eqb (value_in c (eval B me vs a)) 2)))
          (λ e. truth_low (not (eqb (value_in c (eval B me vs a)) 2)))))
      eval_clean n vs (joined o a b) p f =
          rw (
            value_bind c (eval B me vs a) (λ x. eval B me vs b >>= λ y. done (apply B.P o x y)),
            value_bind c (eval B me vs b) (λ y. done (apply B.P o (value_in c (eval B me vs a)) y)),
          )
          (low_clean n (apply B.P o (value_in c (eval B me vs a)) (value_in c (eval B me vs b)))
          (apply_low o (value_in c (eval B me vs a)) (value_in c (eval B me vs b))))

      -- the location l that the location term t of a set names
      abbrev Aimed : ℕ → Term → ℕ → Type 0
      Aimed n t l = (l < L B) × (B.E ≤ l) × (dynamic_at B l ≡ true) × (relation_at B l ≡ relation (function_at B (function_of t)))
          × ((x : ℕ) → Argument B x l → Clean n x)

      aimed : (n f x y : ℕ) (t : Term) → (0 < f) × (f < length B.functions) → function_of t ≡ f → dynamic (function_at B f) ≡ true → Clean n x
          → Clean n y → Aimed n t (location B f x y)
      aimed n f x y t h e d p q =
          let s = located B B_ok f x y h.1 p.0 q.0 in (
            s.inside,
            past_roll B B_ok f x y h.0 h.1,
            rw s.where_at d,
            rw (s.where_at, e),
            λ z a. go z (held_argument B B_ok f x y z h.1 p.0 q.0 a),
          )
        where
          go : (z : ℕ) → (z ≡ x) ⊎ (z ≡ y) → Clean n z
          go z (inl e) = rw e p
          go z (inr e) = rw e q

      zero_clean : (n : ℕ) → Clean n 0
      zero_clean n = low_clean n 0 (omega (arith, B_ok.low))

      target_aimed : (n : ℕ) (vs : List ℕ) (t : Term) → ProperTarget B t → Vars n vs → Aimed n t (value_in c (target B me vs t))
      unfolding target value_in function_of
      target_aimed n vs (element x) p f = absurd p
      target_aimed n vs (variable v) p f = absurd p
      target_aimed n vs self p f = absurd p
      target_aimed n vs (at0 g) p f = aimed n g 0 0 (at0 g) (p.0.0, p.0.1) refl p.1 (zero_clean n) (zero_clean n)
      target_aimed n vs (at1 g a) p f =
          rw (names_one B c me vs g a)
          (aimed n g (value_in c (eval B me vs a)) 0 (at1 g a) (p.0.0, p.0.1) refl p.1 (eval_clean n vs a p.2 f) (zero_clean n))
      target_aimed n vs (at2 g a b) p f =
          rw (names_two B c me vs g a b)
          (aimed n g (value_in c (eval B me vs a)) (value_in c (eval B me vs b)) (at2 g a b) (p.0.0, p.0.1) refl p.1 (eval_clean n vs a p.2 f)
          (eval_clean n vs b p.3 f))
      target_aimed n vs (negated a) p f = absurd p
      target_aimed n vs (joined o a b) p f = absurd p

      -- ---- universes

      abbrev Member : ℕ → ℕ → Type 0
      Member u y = (y < B.E) × (at c (location B u y 0) ≡ true_element)

      abbrev Members : ℕ → List ℕ → Type 0
      Members u [] = Unit {0}
      Members u (y ∷ ys) = Member u y × Members u ys

      members_are : (u x n : ℕ) → x + n ≤ B.E → Members u (value_in c (members B u x n))
      unfolding members value_in ◌>>=◌
      members_are u x zero h = tt
      members_are u x (suc n) h =
          rw (value_bind c (members B u (suc x) n) (λ ys. done (if eqb (at c (location B u x 0)) true_element then x ∷ ys else ys)))
          (go (eqb (at c (location B u x 0)) true_element) refl (members_are u (suc x) n (omega arith)))
        where
          go : (b : Bool) → eqb (at c (location B u x 0)) true_element ≡ b → Members u (value_in c (members B u (suc x) n))
              → Members u (if b then x ∷ value_in c (members B u (suc x) n) else value_in c (members B u (suc x) n))
          go true e r = ((omega arith, eqb-true (at c (location B u x 0)) true_element e), r)
          go false e r = r

      -- a member of a universe is no label of the roll: there the universe would be at its default
      member_clean : (n u y : ℕ) → Named B u 1 → Member u y → Clean n y
      member_clean n u y p (h, e) = (h, λ r. absurd (go r))
        where
          go : OnRoll B c y → ⊥
          go r =
              let s = located B B_ok u y 0 p.1 h (omega (arith, B_ok.low, B_ok.high)) in
              let d = c_ok.arguments y (location B u y 0) r s.inside (omega (arith, past_roll B B_ok u y 0 p.0 p.1))
              (held_first B B_ok u y p.1 h p.2) in
              omega (arith, default_low (place B (location B u y 0)).function)

      each_comes : (f : ℕ → Walk → Reader Walked) (ys : List ℕ) (u : ℕ) → Members u ys → (w : Walk) → Made w
          → ((y : ℕ) → Member u y → (v : Walk) → w.next ≤ v.next → Made v → Comes v.next (value_in c (f y v))) → Comes w.next (value_in c (each f ys w))
      unfolding each value_in
      each_comes f [] u h w m k = (omega arith, m)
      each_comes f (y ∷ ys) u h w m k =
          rw (value_bind c (f y w) (λ o. after o (each f ys)))
          (after_comes w.next (value_in c (f y w)) (each f ys) (k y h.0 w (omega arith) m)
          (λ v a b. each_comes f ys u h.1 v b (λ z hz t q r. k z hz t (omega arith) r)))

      for_comes : (f : ℕ → Walk → Reader Walked) (u x n : ℕ) → x + n ≤ B.E → (w : Walk) → Made w
          → ((y : ℕ) → Member u y → (v : Walk) → w.next ≤ v.next → Made v → Comes v.next (value_in c (f y v)))
          → Comes w.next (value_in c (members B u x n >>= λ ys. each f ys w))
      for_comes f u x n h w m k =
          rw (value_bind c (members B u x n) (λ ys. each f ys w)) (each_comes f (value_in c (members B u x n)) u (members_are u x n h) w m k)

      -- ---- labels

      -- the label that a search from x finds is on the roll, and no label from x up to it is
      abbrev Lowest : ℕ → Option ℕ → Type 0
      Lowest x None = Unit {0}
      Lowest x (Some y) = (x ≤ y) × OnRoll B c y × ((z : ℕ) → x ≤ z → z < y → at c z ≢ true_element)

      lowest_is : (x n : ℕ) → x + n ≤ B.E → Lowest x (value_in c (lowest x n))
      unfolding lowest value_in ◌>>=◌
      lowest_is x zero h = tt
      lowest_is x (suc n) h = go (eqb (at c x) true_element) refl (lowest_is (suc x) n (omega arith))
        where
          later : at c x ≢ true_element → (o : Option ℕ) → Lowest (suc x) o → Lowest x o
          later d None r = tt
          later d (Some y) (a, b, e) = (omega arith, b, λ z p q. dite (ℕ_discrete z x) (λ i. rw i d) (λ i. e z (omega arith) q))

          go : (b : Bool) → eqb (at c x) true_element ≡ b → Lowest (suc x) (value_in c (lowest (suc x) n))
              → Lowest x (value_in c (if b then done (Some x) else lowest (suc x) n))
          go true e r = (omega arith, (omega arith, eqb-true (at c x) true_element e), λ z p q. absurd (omega arith))
          go false e r = later (eqb-false (at c x) true_element e) (value_in c (lowest (suc x) n)) r

      -- the labels of the roll that are taken are those below `next`: an import takes the lowest one that is not taken yet
      pub taken_iff : (w : Walk) → Made w → (x : ℕ) → OnRoll B c x → (x < w.next) ↔ Sets x false_element w.made
      taken_iff w m x o = (
        m.taken x o,
        λ s. ((sets_fine w.next w.made x false_element m.all s).5 x
            (rw (roll_place B B_ok x o.0, B_ok.reserve, eq-eqb x x refl))).1 o,
      )

      pub import_takes : (w : Walk) → Made w → (y : ℕ) → value_in c (lowest w.next (B.E - w.next)) ≡ Some y
          → OnRoll B c y × ¬ Sets y false_element w.made × ((x : ℕ) → OnRoll B c x → ¬ Sets x false_element w.made → y ≤ x)
      import_takes w m y e =
          let l = subst (Lowest w.next) e (lowest_is w.next (B.E - w.next) (omega (arith, m.upto))) in (
            l.1,
            (λ s. omega (arith, l.0, (taken_iff w m y l.1).1 s)),
            λ x o n. dite (dec_lt x y) (λ b. absurd (dite (dec_lt x w.next) (λ d. n (m.taken x o d))
                (λ (d : ¬ (x < w.next)). l.2 x (omega arith) b o.1))) (λ (b : ¬ (x < y)). omega arith),
          )

      lowest_none : (x n : ℕ) → value_in c (lowest x n) ≡ None → (z : ℕ) → x ≤ z → z < x + n → at c z ≢ true_element
      unfolding lowest value_in ◌>>=◌
      lowest_none x zero e z a b = absurd (omega arith)
      lowest_none x (suc n) e z a b = go (eqb (at c x) true_element) refl e (lowest_none (suc x) n)
        where
          go : (t : Bool) → eqb (at c x) true_element ≡ t → value_in c (if t then done (Some x) else lowest (suc x) n) ≡ None
              → (value_in c (lowest (suc x) n) ≡ None → (z : ℕ) → suc x ≤ z → z < suc x + n → at c z ≢ true_element) → at c z ≢ true_element
          go true q f r = let k : ◌≡◌ {A = ℕ} 0 1 = cc in absurd (omega arith)
          go false q f r = dite (ℕ_discrete z x) (λ i. rw i (eqb-false (at c x) true_element q)) (λ i. r f z (omega arith) (omega arith))

      -- an import that finds no label, refusal 13, has no label of the roll left that is not taken
      pub import_none : (w : Walk) → Made w → value_in c (lowest w.next (B.E - w.next)) ≡ None → (x : ℕ) → OnRoll B c x
          → Sets x false_element w.made
      import_none w m e x o =
          dite (dec_lt x w.next) (m.taken x o)
          (λ (b : ¬ (x < w.next)). absurd (lowest_none w.next (B.E - w.next) e x (omega arith) (omega (arith, o.0, m.upto)) o.1))

      roll_fine : (y n : ℕ) → y < B.E → y < n → Fine n (Update (reserve y) false_element)
      roll_fine y n h a =
          let p = roll_place B B_ok y h in (
            omega (arith, roll_inside B B_ok),
            rw (p, B_ok.reserve),
            low_clean n 1 (omega (arith, B_ok.low)),
            λ r. refl,
            λ r. refl,
            λ x e. (omega (arith, this x e), λ r. omega (arith, this x e)),
          )
        where
          this : (x : ℕ) → Argument B x y → x ≡ y
          this x e = sym (roll_argument B B_ok x y h e)

      universe_fine : (u y n : ℕ) → Named B u 1 → (function_at B u).kind ≡ 3 → y < B.E → y < n → Fine n (Update (location B u y 0) true_element)
      universe_fine u y n p k h a =
          let z : 0 < B.E = omega arith in
          let s = located B B_ok u y 0 p.1 h z in (
            s.inside,
            rw (s.where_at, k),
            low_clean n 2 (omega (arith, B_ok.low)),
            λ r. refl,
            λ r. absurd (omega (arith, past_roll B B_ok u y 0 p.0 p.1)),
            λ x e. this x (held_argument B B_ok u y 0 x p.1 h z e),
          )
        where
          this : (x : ℕ) → (x ≡ y) ⊎ (x ≡ 0) → Clean n x
          this x (inl e) = (omega arith, λ r. omega arith)
          this x (inr e) = rw e (zero_clean n)

      take_made : (n y : ℕ) (w : Walk) → Made w → Lowest w.next (Some y) → Comes (suc y) (emit n (Update (reserve y) false_element) (take_label y w))
      unfolding count_below
      take_made n y w m (a, r, low) = go (ltb (length w.made) most_instructions)
        where
          taken : (x : ℕ) → OnRoll B c x → x < suc y → Sets x false_element (w.made ++ (Update y false_element ∷ []))
          taken x o h = dite (dec_lt x w.next) (λ b. sets_snoc x false_element w.made (Update y false_element) (m.taken x o b))
              (λ (b : ¬ (x < w.next)). dite (ℕ_discrete x y) (λ e. rw e (sets_last y false_element w.made))
              (λ d. absurd (low x (omega arith) (omega arith) o.1)))

          many : issued B (w.made ++ (Update y false_element ∷ [])) ≡ count_below (in_reserve c) (suc y)
          many =
              let e : in_reserve c y ≡ true = eq-eqb (at c y) true_element r.1 in
              let k = count_upto (in_reserve c) w.next y a (λ z p q. ne_eqb (at c z) true_element (low z p q)) in
              omega (arith, issued_snoc w.made (Update y false_element), ap one_if (lt-ltb y B.E r.0), m.many, k, ap one_if e)

          go : (b : Bool) → Comes (suc y) (if b then walking (record { made = w.made ++ (Update (reserve y) false_element ∷ []); next = (take_label y w).next; left = w.left }) else refused_at list_full n)
          go false = tt
          go true = (
            omega arith,
            record {
              from = omega (arith, m.from);
              upto = r.0;
              all = all_snoc (suc y) w.made (Update y false_element) (all_more w.next (suc y) w.made (omega arith) m.all)
                  (roll_fine y (suc y) r.0 (omega arith));
              taken = taken;
              many = many;
            },
          )

      import_comes : (n u : ℕ) (body : ℕ → Walk → Reader Walked) (w : Walk) (o : Option ℕ) → Named B u 1 → (function_at B u).kind ≡ 3 → Made w → Lowest w.next o
          → ((y : ℕ) → y < B.E → (v : Walk) → w.next ≤ v.next → y < v.next → Made v → Comes v.next (value_in c (body y v)))
          → Comes w.next (value_in c (import_of B n u w body o))
      unfolding value_in
      import_comes n u body w None p k m l f = tt
      import_comes n u body w (Some y) p k m l f =
          let a : w.next ≤ y = l.0 in
          comes_more w.next (suc y) (value_in c (import_of B n u w body (Some y))) (omega arith)
          (after_comes (suc y) (emit n (Update (reserve y) false_element) (take_label y w) then emit n (Update (location B u y 0) true_element)) (body y)
          (then_comes (suc y) (emit n (Update (reserve y) false_element) (take_label y w)) (emit n (Update (location B u y 0) true_element))
          (take_made n y w m l) (λ v b q. give_made n (Update (location B u y 0) true_element) v q (universe_fine u y v.next p k l.1.0 (omega arith))
          (le-ltb (location B u y 0) B.E (past_roll B B_ok u y 0 p.0 p.1))))
          (λ v b q. f y l.1.0 v (omega arith) (omega arith) q))

      -- ---- picks

      choose_comes : (n u : ℕ) (body : ℕ → Walk → Reader Walked) (w : Walk) (ys : List ℕ) → Made w
          → ((y : ℕ) → Member u y → (v : Walk) → w.next ≤ v.next → Made v → Comes v.next (value_in c (body y v)))
          → Comes w.next (value_in c (choose_of B n u w body ys))
      unfolding value_in
      choose_comes n u body w [] m k = tt
      choose_comes n u body w (y ∷ ys) m k =
          rw (value_bind c (universe_at B u y) (λ v. after (refuse_if (not_member v) not_in_universe n (take_pick ys w)) (body y)))
          (go (eqb (value_in c (universe_at B u y)) true_element) refl)
        where
          go : (b : Bool) → eqb (value_in c (universe_at B u y)) true_element ≡ b
              → Comes w.next (value_in c (after (refuse_if (not b) not_in_universe n (take_pick ys w)) (body y)))
          go false e = tt
          go true e =
              k y (universe_member B c u y (eqb-true (value_in c (universe_at B u y)) true_element e)) (take_pick ys w) (omega arith)
              (record { from = m.from; upto = m.upto; all = m.all; taken = m.taken; many = m.many })

      -- ---- the walk

      no_and : (a b : Bool) → (a && b) ≡ false → a ≡ true → b ≡ false
      no_and true b e h = e
      no_and false b e h = absurd (false≢true h)

      assign_comes : (n : ℕ) (t : Term) (l v : ℕ) (w : Walk) → Made w → Aimed w.next t l → Clean w.next v
          → Comes w.next (refuse_if (not_boolean B t v) non_boolean n w then emit n (Update l v))
      assign_comes n t l v w m a p = go (not_boolean B t v) refl
        where
          go : (b : Bool) → not_boolean B t v ≡ b → Comes w.next (refuse_if b non_boolean n w then emit n (Update l v))
          go true e = tt
          go false e = give_made n (Update l v) w m (
            a.0,
            a.2,
            p,
            (λ r. not-false (boolean v) (no_and (relation (function_at B (function_of t))) (not (boolean v)) e (sym a.3 ∙ r))),
            (λ r. absurd (omega (arith, a.1))),
            a.4,
          ) (le-ltb l B.E a.1)

      release_comes : (n x : ℕ) (w : Walk) → Made w → x < B.E → Comes w.next (refuse_if (unreleasable B x (at c x)) not_releasable n w then emit n (Release x))
      release_comes n x w m h = go (unreleasable B x (at c x)) refl
        where
          go : (b : Bool) → unreleasable B x (at c x) ≡ b → Comes w.next (refuse_if b not_releasable n w then emit n (Release x))
          go true e = tt
          go false e =
              let p = or_no (ltb x B.P) (eqb (at c x) true_element) e in
              give_made n (Release x) w m (ltb-false x B.P p.0, h, eqb-false (at c x) true_element p.1) refl

      if_comes : (b : Bool) (n : ℕ) (p q : Reader Walked) → Comes n (value_in c p) → Comes n (value_in c q) → Comes n (value_in c (if b then p else q))
      if_comes true n p q f g = f
      if_comes false n p q f g = g

      pub walk_comes : (r : Rule) (vs : List ℕ) (w : Walk) → ProperRule B r → Vars w.next vs → Made w → Comes w.next (value_in c (walk B me r vs w))
      unfolding walk value_in
      walk_comes skip vs w p f m = (omega arith, m)
      walk_comes (assign n t u) vs w p f m =
          rw (
            value_bind c (target B me vs t) (λ l. eval B me vs u >>= λ v. done (refuse_if (not_boolean B t v) non_boolean n w then emit n (Update l v))),
            value_bind c (eval B me vs u) (λ v. done (refuse_if (not_boolean B t v) non_boolean n w then emit n (Update (value_in c (target B me vs t)) v))),
          )
          (assign_comes n t (value_in c (target B me vs t)) (value_in c (eval B me vs u)) w m (target_aimed w.next vs t p.0 f)
          (eval_clean w.next vs u p.1 f))
      walk_comes (block r s) vs w p f m =
          rw (value_bind c (walk B me r vs w) (λ o. after o (walk B me s vs)))
          (after_comes w.next (value_in c (walk B me r vs w)) (walk B me s vs) (walk_comes r vs w p.0 f m)
          (λ v a q. walk_comes s vs v p.1 (vars_more w.next v.next vs a f) q))
      walk_comes (test t r s) vs w p f m =
          rw (value_bind c (eval B me vs t) (λ x. if eqb x true_element then walk B me r vs w else walk B me s vs w))
          (if_comes (eqb (value_in c (eval B me vs t)) true_element) w.next (walk B me r vs w) (walk B me s vs w) (walk_comes r vs w p.1 f m)
          (walk_comes s vs w p.2 f m))
      walk_comes (bind x t r) vs w p f m =
          rw (value_bind c (eval B me vs t) (λ y. walk B me r (set vs x y) w))
          (walk_comes r (set vs x (value_in c (eval B me vs t))) w p.1
          (vars_set w.next vs x (value_in c (eval B me vs t)) f (eval_clean w.next vs t p.0 f)) m)
      walk_comes (for_all x u r) vs w p f m =
          for_comes (λ y. walk B me r (set vs x y)) u _ _ (omega (arith, B_ok.high)) w m
          (λ y h v a q. walk_comes r (set vs x y) v p.2 (vars_set v.next vs x y (vars_more w.next v.next vs a f)
          (member_clean v.next u y p.0 h)) q)
      walk_comes (import n x u r) vs w p f m =
          rw (value_bind c (lowest w.next (B.E - w.next)) (λ o. import_of B n u w (λ y. walk B me r (set vs x y)) o))
          (import_comes n u (λ y. walk B me r (set vs x y)) w (value_in c (lowest w.next (B.E - w.next))) p.0 p.1 m
          (lowest_is w.next (B.E - w.next) (omega (arith, m.upto)))
          (λ y h v a b q. walk_comes r (set vs x y) v p.2 (vars_set v.next vs x y (vars_more w.next v.next vs a f) (h, λ o. b)) q))
      walk_comes (release n t) vs w p f m =
          rw (value_bind c (eval B me vs t) (λ x. read (reserve x) >>= λ r. done (refuse_if (unreleasable B x r) not_releasable n w then emit n (Release x))))
          (release_comes n (value_in c (eval B me vs t)) w m (eval_clean w.next vs t p f).0)
      walk_comes (choose n x u r) vs w p f m =
          choose_comes n u (λ y. walk B me r (set vs x y)) w w.left m
          (λ y h v a q. walk_comes r (set vs x y) v p.2 (vars_set v.next vs x y (vars_more w.next v.next vs a f)
          (member_clean v.next u y p.0 h)) q)

  -- the check for picks left over changes nothing of what a walk has made
  pub taken_comes : (m q : ℕ) (ys : List ℕ) (w : Walk) → Comes m (walking w) → Comes m (all_taken q ys w)
  taken_comes m q [] w h = h
  taken_comes m q (y ∷ ys) w h = tt
