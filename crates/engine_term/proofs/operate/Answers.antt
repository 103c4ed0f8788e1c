-- `operate` meets its contract.
use mathlib.Core.Path.{◌∙◌}
use Rattle.engine.specs.Term.{apply}
use Rattle.engine_term.proofs.TermKinds.{no_join_number}
use Rattle.engine_term.proofs.Values.{no_join}
use Rattle.engine_term.proofs.operate.Goals as goal

pub returns-in-Equal : goal.returns-in-Equal
unfolding apply
returns-in-Equal c = c.truth.ensures ∙ rw c.in-Equal.ensures

pub returns-in-And : goal.returns-in-And
unfolding apply
returns-in-And c = c.and.ensures ∙ rw c.in-And.ensures

pub returns-in-Or : goal.returns-in-Or
unfolding apply
returns-in-Or c = c.or.ensures ∙ rw c.in-Or.ensures

pub returns-in-Plus : goal.returns-in-Plus
unfolding apply
returns-in-Plus c = c.plus.ensures ∙ rw c.in-Plus.ensures

pub returns-in-Minus : goal.returns-in-Minus
unfolding apply
returns-in-Minus c = c.minus.ensures ∙ rw c.in-Minus.ensures

pub returns-in-Less : goal.returns-in-Less
unfolding apply
returns-in-Less c = c.less.ensures ∙ rw c.in-Less.ensures

pub returns-in_default : goal.returns-in_default
returns-in_default c =
    let a = c.args in
    let d = c.in_default in
    let r = no_join_number c.kind_of.result a.k c.kind_of.ensures d.not-Equal d.not-And d.not-Or d.not-Plus d.not-Minus d.not-Less in
    no_join a.p a.k a.x a.y r.0 r.1 r.2 r.3 r.4 r.5
