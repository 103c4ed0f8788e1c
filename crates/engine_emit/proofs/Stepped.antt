-- Laws of steps whose refusals have reasons of any type, to which this code's reasons are converted; and what they say where the reasons are this code's own.
use Rattle.std.specs.Prelude.{Option, None, Some, IfSome, is_some}
use mathlib.Core.Path.{◌≡◌, refl, sym, ap, subst, ◌∙◌}
use mathlib.Core.Logic.{◌≢◌}
use mathlib.Core.Bool.{Bool, true, false, true≢false, false≢true}
use mathlib.Core.List.{List}
use Prim.Native.Nat.{ℕ, ◌+◌}
use native.Mathlib.Omega.{arith}
use Rattle.text.specs.declared.Reason.{Reason}
use Rattle.text.specs.Refusals.{number_of, refusal_number}
use Rattle.text.proofs.Checks.{reason_numbered}
use Rattle.book.specs.Book.{true_element, false_element, reserve}
use Rattle.engine.specs.declared.Instruction.TheVariants.{Update}
use Rattle.engine.specs.Rule.{Walk, Walked, walking, refused_at, ◌then◌, emit}
use Rattle.engine_emit.specs.declared.Progress.{Progress}
use Rattle.engine_emit.specs.Emit.{walk_from, reached, StandsFor, WalkStepped, importing}
use Rattle.engine_emit.proofs.Steps.{reached_walking, reached_refused, taking_from}

-- the state s without its refusal
abbrev pub bare : {R : Type 0} → Progress R → Progress Reason
bare s = record { len = s.len; label = s.label; refused = None; node = s.node }

-- no refusal, by the test for one
pub none_is : {R : Type 0} {o : Option R} {b : Bool} → b ≡ is_some o → b ≡ false → None ≡ o
none_is {o = None} e t = refl
none_is {o = Some x} e t = absurd (true≢false (sym e ∙ t))

-- a refusal and its node that stay
some_stays : {R : Type 0} (o p : Option R) (m n : ℕ) → p ≡ o → m ≡ n → IfSome o (λ x. (p ≡ Some x) × (m ≡ n))
some_stays None p m n f e = tt
some_stays (Some x) p m n f e = (f, e)

module _ {R : Type 0} {gives : Reason → R → Type 0} {s r : Progress R} {ys zs l m : List ℕ} where
  -- a walk that is refused stays so
  pub stepped_over : {k : Walk → Walked} {b : Bool} → b ≡ is_some s.refused → b ≡ true → r.refused ≡ s.refused → r.node ≡ s.node → WalkStepped gives k ys s l zs r m
  stepped_over {k = k} e t f n = record { stays = some_stays s.refused r.refused r.node s.node f n; steps = λ z. absurd (true≢false (sym t ∙ e ∙ ap is_some z)) }

  -- any other makes the step
  pub stepped_on : {k : Walk → Walked} {b : Bool} → b ≡ is_some s.refused → b ≡ false → StandsFor gives zs r m (k (walk_from ys s l)) → WalkStepped gives k ys s l zs r m
  stepped_on e t h = record { stays = subst (λ (o : Option R). IfSome o (λ x. (r.refused ≡ Some x) × (r.node ≡ s.node))) (none_is e t) tt; steps = λ z. h }

  -- one whose refusal, or none, and node stay, and which goes on to what the step comes to
  pub stepped_to : {k : Walk → Walked} → r.refused ≡ s.refused → r.node ≡ s.node → walking (walk_from zs r m) ≡ k (walk_from ys s l) → WalkStepped gives k ys s l zs r m
  stepped_to {k = k} f n e = record { stays = some_stays s.refused r.refused r.node s.node f n; steps = λ z. subst (StandsFor gives zs r m) e (f ∙ z, refl) }

  -- a step that comes to the same is the same
  pub stepped_as : {k k' : Walk → Walked} {vs : List ℕ} → k (walk_from ys s l) ≡ k' (walk_from vs s l) → WalkStepped gives k ys s l zs r m → WalkStepped gives k' vs s l zs r m
  stepped_as e h = record { stays = h.stays; steps = λ z. subst (StandsFor gives zs r m) e (h.steps z) }

  -- two steps, one after the other
  pub stepped_twice : {k k' : Walk → Walked} {t : Progress R} {vs n : List ℕ} → WalkStepped gives k ys s l zs r m → WalkStepped gives k' zs r m vs t n
      → WalkStepped gives (λ w. k w then k') ys s l vs t n
  stepped_twice {k = k} {k' = k'} {t = t} {vs = vs} {n = n} h f = record { stays = kept s.refused h.stays; steps = λ z. next (k (walk_from ys s l)) (h.steps z) }
    where
      -- the first of them refused, so the second stays
      over : (o : Option R) (x : R) (q : ℕ) → o ≡ Some x → r.node ≡ q → IfSome o (λ y. (t.refused ≡ Some y) × (t.node ≡ r.node)) → (t.refused ≡ Some x) × (t.node ≡ q)
      over None x q e d g = absurd (false≢true (ap is_some e))
      over (Some y) x q e d g = (g.0 ∙ e, g.1 ∙ d)

      kept : (o : Option R) → IfSome o (λ x. (r.refused ≡ Some x) × (r.node ≡ s.node)) → IfSome o (λ x. (t.refused ≡ Some x) × (t.node ≡ s.node))
      kept None g = tt
      kept (Some x) g = over r.refused x s.node g.0 g.1 f.stays

      next : (o : Walked) → StandsFor gives zs r m o → StandsFor gives vs t n (o then k')
      next (walking w) g = subst (λ (w : Walk). StandsFor gives vs t n (k' w)) g.1 (f.steps g.0)
      next (refused_at a q) (e, x, y, b, i, d) = let g = over r.refused x q i d f.stays in (e, x, y, b, g.0, g.1)

  -- an import: with label x taken, its two updates
  pub enrolled : (at x n : ℕ)
      → WalkStepped gives (λ w. emit n (Update (reserve x) false_element) w then emit n (Update at true_element)) ys (record { len = s.len; label = x + 1; refused = s.refused; node = s.node }) l zs r m
      → WalkStepped gives (importing at x n) ys s l zs r m
  enrolled at x n h = record {
    stays = h.stays;
    steps = λ z. subst (StandsFor gives zs r m)
        (rw (reached_walking ys (record { len = s.len; label = x + 1; refused = None; node = s.node }) l refl, reached_walking ys (bare s) l refl) at (taking_from at x n ys (bare s) l)) (h.steps z);
  }

-- ---- where the reasons are this code's own

-- a state that stands for what a walk has come to
stands_reached : (zs : List ℕ) (r : Progress Reason) (m : List ℕ) (o : Walked) → StandsFor (λ x y. y ≡ x) zs r m o → reached zs r m ≡ o
stands_reached zs r m (walking w) g = reached_walking zs r m (ap refusal_number g.0) ∙ ap walking g.1
stands_reached zs r m (refused_at n q) (e, x, y, b, i, d) =
    let a : refusal_number r.refused ≡ n = ap refusal_number i ∙ ap number_of y ∙ b in
    reached_refused zs r m (λ z. omega (arith, a, b, z, (reason_numbered e).0)) ∙ rw (a, d)

-- a step, as an equation of what the walk has come to before it and after it
pub stepped_reached : {s r : Progress Reason} {ys zs l m : List ℕ} {k : Walk → Walked} → WalkStepped (λ x y. y ≡ x) k ys s l zs r m → reached zs r m ≡ (reached ys s l then k)
stepped_reached {s = s} {r = r} {ys = ys} {zs = zs} {l = l} {m = m} {k = k} h = go s.refused refl
  where
    some : (o : Option Reason) (x : Reason) → o ≡ Some x → refusal_number o ≢ 0
    some o x i z = omega (arith, (reason_numbered x).0, sym (ap refusal_number i) ∙ z)

    go : (o : Option Reason) → s.refused ≡ o → reached zs r m ≡ (reached ys s l then k)
    go None e = rw (reached_walking ys s l (ap refusal_number e)) (stands_reached zs r m (k (walk_from ys s l)) (h.steps e))
    go (Some x) e =
        let g : (r.refused ≡ Some x) × (r.node ≡ s.node) = subst (λ (o : Option Reason). IfSome o (λ x. (r.refused ≡ Some x) × (r.node ≡ s.node))) e h.stays in
        rw (reached_refused ys s l (some s.refused x e), reached_refused zs r m (some r.refused x g.0), g.0, e, g.1)
