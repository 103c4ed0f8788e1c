-- `run_own_list` meets its contract: a list of more than 256 records makes no difference.
use Rattle.std.proofs.Common.{◌≡◌, ◌∙◌, ap, arith, ℕ, List, length, min, length-take}
use Rattle.engine.specs.declared.Record.{Record}
use Rattle.engine.specs.Labels.{TalliedAnswer}
use Rattle.engine.specs.Tables.{Tables}
use Rattle.order.specs.Call.{log_call}
use Rattle.order.proofs.Claim.{demand3}
use Rattle.order.proofs.Tallied.{tallied}
use Rattle.order_entry.specs.LogRun.{LogRun, LogRunOwn}
use Rattle.order_entry.proofs.Longer.{call_longer}
use Rattle.order_entry.proofs.run_own_list.Goals as goal

-- what the entry promises of a list of so many records, it promises of its own
own : (book log : List ℕ) (lent : Tables) (n : ℕ) (ys : List Record) (r : TalliedAnswer) (left : Tables) (zs : List Record)
    → LogRun book log lent ys r left zs → length ys ≡ min n 256 → LogRunOwn book log lent n r left
own book log lent n ys r left zs s e = record {
  answer = s.answer ∙ ap (λ (m : ℕ). log_call book log lent m) e ∙ call_longer book log lent n;
  demand3 = demand3 book log lent n;
  tallied = tallied book log lent n;
}

pub returns : goal.returns
returns c = own _ _ _ c.args.lent _ _ _ _ c.run.ensures (omega (arith, c.min-n.ensures, length-take {A = Record}))
