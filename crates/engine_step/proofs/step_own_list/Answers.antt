-- `step_own_list` meets its contract: a list of more than 256 records makes no difference.
use Rattle.std.proofs.Common.{◌≡◌, ◌∙◌, ap, arith, ℕ, List, length, min, length-take}
use Rattle.text.specs.Words.{Answer}
use Rattle.engine.specs.declared.Record.{Record}
use Rattle.engine.specs.Move.{Input}
use Rattle.engine.specs.Single.{Stepped, step_call}
use Rattle.engine_step.specs.Entry.{StepMade, StepMadeOwn}
use Rattle.engine_step.proofs.Longer.{step_longer}
use Rattle.engine_step.proofs.step_own_list.Goals as goal

-- what the entry promises of a list of so many records, it promises of its own
own : (book c : List ℕ) (i : Input) (n : ℕ) (ys : List Record) (r : Answer) (d : List ℕ) (zs : List Record)
    → StepMade book c i ys r d zs → length ys ≡ min n 256 → StepMadeOwn book c i n r d
own book c i n ys r d zs s e =
    let same = ap (λ (m : ℕ). step_call book c i m) e ∙ step_longer book c i n in
    record { answer = s.answer ∙ ap (λ (x : Stepped). x.answer) same; contents = s.contents ∙ ap (λ (x : Stepped). x.contents) same }

pub returns : goal.returns
returns c = own _ _ _ c.args.lent _ _ _ _ c.step.ensures (omega (arith, c.min-n.ensures, length-take {A = Record}))
