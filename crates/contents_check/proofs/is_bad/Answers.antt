-- `is_bad` meets its contract.
use mathlib.Core.Path.{◌≡◌, ◌∙◌}
use Rattle.book.specs.Book.{arguments}
use Rattle.book.specs.Sum.{arguments_by}
use Rattle.contents_check.proofs.Laws.{arguments_are}
use Rattle.contents_check.proofs.Faults.{own_cell, far_cell}
use Rattle.contents_check.proofs.is_bad.Goals as goal

pub returns-then-l-e : goal.returns-then-l-e
returns-then-l-e c =
    λ B h.
    let a = c.args in
    let apart = c.take_apart-a in
    let v = c.fetch-v in
    let rel = c.is_relation in
    let bool = c.is_boolean in
    let fine = c.is_static_fine in
    let args : arguments_by a.f.arity apart.result.first apart.result.second ≡ arguments a.e a.f.arity a.i = arguments_are a.e a.f a.i apart.result.first apart.result.second h.strided apart.ensures in
    rw (← h.elements, ← h.permanent) (own_cell B a.contents.now a.f a.l a.i v.result rel.result bool.result fine.result h.here v.ensures rel.ensures bool.ensures (fine.ensures ∙ rw (h.permanent, h.elements, args)) (rw h.elements c.if-l-e.true))

pub returns : goal.returns
returns c =
    λ B h.
    let a = c.args in
    let apart = c.take_apart-a in
    let v = c.fetch-v in
    let rel = c.is_relation in
    let bool = c.is_boolean in
    let fine = c.is_static_fine in
    let args : arguments_by a.f.arity apart.result.first apart.result.second ≡ arguments a.e a.f.arity a.i = arguments_are a.e a.f a.i apart.result.first apart.result.second h.strided apart.ensures in
    rw (← h.elements) (far_cell B a.contents.now a.f a.l a.i v.result rel.result bool.result fine.result h.here v.ensures rel.ensures bool.ensures (fine.ensures ∙ rw (h.permanent, h.elements, args)) c.default_of.result c.on_roll.result c.some_on_roll.result c.default_of.ensures (c.on_roll.ensures ∙ rw h.elements) (c.some_on_roll.ensures B h.elements ∙ rw (h.elements, args)) (rw h.elements c.if-l-e.false))
