-- Laws of results whose refusals have reasons of any type, to which this code's reasons are converted; and what they say where the reasons are this code's own.
use Rattle.std.specs.Prelude.{Option, None, Some, IfSome, is_some}
use mathlib.Core.Path.{◌≡◌, refl, sym, ap, subst, ◌∙◌}
use mathlib.Core.Bool.{false≢true}
use mathlib.Core.List.{List, []}
use Prim.Native.Nat.{ℕ}
use native.Mathlib.Omega.{arith}
use Rattle.text.specs.declared.Reason.{Reason}
use Rattle.text.specs.Refusals.{number_of, refusal_number}
use Rattle.text.proofs.Checks.{reason_numbered}
use Rattle.engine.specs.declared.TalliedResult.{TalliedResult}
use Rattle.engine.specs.Labels.{tallied}
use Rattle.engine.specs.Rule.{Walked, walking, refused_at}
use Rattle.engine.specs.Move.{settle}
use Rattle.engine.specs.Reasons.{ResultAs}
use Rattle.engine.specs.Tables.{Tables}
use Rattle.engine.proofs.Reasons.{result_own}
use Rattle.engine_emit.specs.declared.Progress.{Progress}
use Rattle.engine_emit.specs.Emit.{walk_from}
use Rattle.engine_emit.proofs.Steps.{reached_walking, reached_refused}
use Rattle.engine_walk.specs.Walk.{outcome}
use Rattle.engine_fire.specs.Finish.{Finishes}
use Rattle.engine_fire.specs.Reasons.{refused_result, ReasonAs, ProgressAs, FinishesAs}

-- a move whose walk was refused is refused for that reason, and leaves the tables as they were
refused_finishes : (image : List ℕ) (bit i : ℕ) (z : Progress Reason) (l : List ℕ) (t : Tables) (e : Reason) → z.refused ≡ Some e
    → Finishes image bit i (outcome z l) t (tallied (refused_result e i z.node)) t
unfolding settle
refused_finishes image bit i z l t e is =
    let n : refusal_number z.refused ≡ number_of e = ap refusal_number is in
    subst (λ (w : Walked). Finishes image bit i w t (tallied (refused_result e i z.node)) t)
    (sym (reached_refused [] z l (λ y. omega (arith, n, y, (reason_numbered e).0)) ∙ ap (λ (k : ℕ). refused_at k z.node) n))
    (λ strides. record { answer = λ ls. refl; tally = λ ls. refl; contents = λ ls. refl; readers = λ ls. refl; writers = λ ls. refl })

module _ {R : Type 0} (gives : Reason → R → Type 0) (image : List ℕ) (bit i : ℕ) (z : Progress Reason) (s : Progress R) (l : List ℕ) (t : Tables) (r : TalliedResult R) (u : Tables) where
  -- a move whose walk ended as one with this code's reasons did, converted, is finished with a result of this code, converted
  pub finished_as : ProgressAs gives z s → FinishesAs gives image bit i s l t r u → (a : TalliedResult Reason) × ResultAs gives a r × Finishes image bit i (outcome z l) t (tallied a) u
  finished_as p h = go z.refused s.refused refl refl p.refused
    where
      go : (o : Option Reason) (q : Option R) → z.refused ≡ o → s.refused ≡ q → ReasonAs gives o q → (a : TalliedResult Reason) × ResultAs gives a r × Finishes image bit i (outcome z l) t (tallied a) u
      go None None e f g =
          let (a, b, c) = h.settled f in
          let w : walking (walk_from [] s l) ≡ outcome z l = rw (reached_walking [] z l (ap refusal_number e), p.len, p.label) refl in
          (a, b, subst (λ (w : Walked). Finishes image bit i w t (tallied a) u) w c)
      go (Some e) (Some x) j k g =
          let q : (r ≡ refused_result x i s.node) × (u ≡ t) = subst (λ (o : Option R). IfSome o (λ x. (r ≡ refused_result x i s.node) × (u ≡ t))) k h.refused in (
            refused_result e i z.node,
            subst (ResultAs gives (refused_result e i z.node)) (sym q.0) (record { answer = (g, refl, p.node); tally = refl }),
            subst (λ (v : Tables). Finishes image bit i (outcome z l) t (tallied (refused_result e i z.node)) v) (sym q.1) (refused_finishes image bit i z l t e j),
          )
      go None (Some x) e f g = absurd g
      go (Some e) None j k g = absurd g

module _ {R : Type 0} {gives : Reason → R → Type 0} {image : List ℕ} {bit i : ℕ} {s : Progress R} {l : List ℕ} {t : Tables} {r : TalliedResult R} {u : Tables} where
  -- a walk that was refused
  pub finishes_over : {x : R} → s.refused ≡ Some x → r ≡ refused_result x i s.node → u ≡ t → FinishesAs gives image bit i s l t r u
  finishes_over {x = x} e f g = record {
    refused = subst (λ (o : Option R). IfSome o (λ x. (r ≡ refused_result x i s.node) × (u ≡ t))) (sym e) (f, g);
    settled = λ z. absurd (false≢true (ap is_some (sym z ∙ e)));
  }

  -- any other
  pub finishes_on : s.refused ≡ None → (a : TalliedResult Reason) × ResultAs gives a r × Finishes image bit i (walking (walk_from [] s l)) t (tallied a) u
      → FinishesAs gives image bit i s l t r u
  finishes_on e h = record {
    refused = subst (λ (o : Option R). IfSome o (λ x. (r ≡ refused_result x i s.node) × (u ≡ t))) (sym e) tt;
    settled = λ z. h;
  }

-- ---- where the reasons are this code's own

-- a walk's end is itself, its reason converted to what it is
pub progress_own : (s : Progress Reason) → ProgressAs (λ x y. y ≡ x) s s
progress_own s = record { len = refl; label = refl; refused = same s.refused; node = refl }
  where
    same : (o : Option Reason) → ReasonAs (λ x y. y ≡ x) o o
    same None = tt
    same (Some e) = refl

-- a move that is finished, as its definition says
pub finishes_own : (image : List ℕ) (bit i : ℕ) (s : Progress Reason) (l : List ℕ) (t : Tables) (r : TalliedResult Reason) (u : Tables)
    → FinishesAs (λ x y. y ≡ x) image bit i s l t r u → Finishes image bit i (outcome s l) t (tallied r) u
finishes_own image bit i s l t r u h =
    let (a, b, c) = finished_as (λ x y. y ≡ x) image bit i s s l t r u (progress_own s) h in
    subst (λ (x : TalliedResult Reason). Finishes image bit i (outcome s l) t (tallied x) u) (sym (result_own a r b)) c
