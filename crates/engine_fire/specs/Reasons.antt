-- Moves that are finished where the refusals have reasons of any type R, to which this code's reasons are converted.
use Rattle.std.specs.Prelude.{⊤, Option, None, Some, IfSome, Err, ◌≡◌, List, [], ℕ}
use Rattle.text.specs.declared.Reason.{Reason}
use Rattle.engine.specs.declared.TalliedResult.{TalliedResult}
use Rattle.engine.specs.Labels.{no_labels, tallied}
use Rattle.engine.specs.Rule.{walking}
use Rattle.engine.specs.Reasons.{ResultAs}
use Rattle.engine.specs.Tables.{Tables}
use Rattle.engine_emit.specs.declared.Progress.{Progress}
use Rattle.engine_emit.specs.Emit.{walk_from}
use Rattle.engine_fire.specs.Finish.{Finishes}

-- the result of a move that is refused, for this reason at this place: it has issued and returned no label
abbrev pub refused_result : {R : Type 0} → R → ℕ → ℕ → TalliedResult R
refused_result x p q = record { answer = Err (record { reason = x; p = p; q = q }); tally = no_labels }

module _ {R : Type 0} (gives : Reason → R → Type 0) where
  -- the second reason, if there is one, is the first converted
  abbrev pub ReasonAs : Option Reason → Option R → Type 0
  ReasonAs None None = ⊤
  ReasonAs (Some e) (Some x) = gives e x
  ReasonAs None (Some x) = ⊥
  ReasonAs (Some e) None = ⊥

  -- the second state of a walk is the first with its refusal's reason converted
  pub record ProgressAs (z : Progress Reason) (s : Progress R) : Type 0 where
    pub len : s.len ≡ z.len
    pub label : s.label ≡ z.label
    pub refused : ReasonAs z.refused s.refused
    pub node : s.node ≡ z.node

  -- Move i, whose walk ended as s says with its instructions in the list l, is finished on the tables t, which become u. A walk that was refused is so for its
  -- own reason, with the tables as they were; any other move is finished with one of this code's results, converted.
  pub record FinishesAs (image : List ℕ) (bit i : ℕ) (s : Progress R) (l : List ℕ) (t : Tables) (r : TalliedResult R) (u : Tables) : Type 0 where
    pub refused : IfSome s.refused (λ x. (r ≡ refused_result x i s.node) × (u ≡ t))
    pub settled : s.refused ≡ None → (a : TalliedResult Reason) × ResultAs gives a r × Finishes image bit i (walking (walk_from [] s l)) t (tallied a) u
