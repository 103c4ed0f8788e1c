-- `run_from_own_list` meets its contract: a list of more than 256 records makes no difference.
use Rattle.text.specs.declared.Reason.{Reason}
use Rattle.std.proofs.Common.{◌≡◌, sym, subst, arith, ℕ, List, length, min, length-take}
use Rattle.engine.specs.declared.Record.{Record}
use Rattle.engine.specs.Labels.{TalliedAnswer, tallied}
use Rattle.engine.specs.Tables.{Tables}
use Rattle.engine.specs.declared.TalliedResult.{TalliedResult}
use Rattle.order_run.specs.declared.RunState.{RunState}
use Rattle.order_run.specs.declared.RunState.TheVariants.{Next, Over}
use Rattle.order_run.specs.Stages.{CallAt}
use Rattle.order_entry.specs.Promised.{RunToEnd, RunToEndOwn, AnyRunToEnd, AnyRunToEndOwn}
use Rattle.order_entry.proofs.Longer.{call_shorter}
use Rattle.order_entry.proofs.run_from_own_list.Goals as goal

-- what is promised of a list of so many records is promised of its own
own : (m o : List ℕ) (s : RunState (TalliedResult Reason)) (t : Tables) (n : ℕ) (ys : List Record) (r : TalliedAnswer) (u : Tables) (zs : List Record)
    → RunToEnd m o s t ys r u zs → length ys ≡ min n 256 → RunToEndOwn m o s t n r u
own m o s t n ys r u zs said e = λ lent whole rest h.
    (said lent whole rest (subst (λ (k : ℕ). CallAt lent k whole m o rest s t.contents t.readers t.writers) (sym e) (call_shorter lent n whole m o rest s t.contents t.readers t.writers h))).0

-- and so of results of any type
any_own : {T : Type 0} (gives : TalliedResult Reason → T → Type 0) (m o : List ℕ) (s : RunState T) (t : Tables) (n : ℕ) (ys : List Record) (r : T) (u : Tables) (zs : List Record)
    → AnyRunToEnd gives m o s t ys r u zs → length ys ≡ min n 256 → AnyRunToEndOwn gives m o s t n r u
any_own gives m o (Next k) t n ys r u zs (x, is, said) e = (x, is, own m o (Next k) t n ys (tallied x) u zs said e)
any_own gives m o (Over a) t n ys r u zs (stays, same, written) e = (stays, same)

pub returns : goal.returns
returns g c = any_own _ _ _ _ _ c.args.lent _ _ _ _ c.run_from.ensures (omega (arith, c.min-n.ensures, length-take {A = Record}))
