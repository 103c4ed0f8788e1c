use mathlib.Core.Path.{◌≡◌, refl, ◌∙◌}
use Prim.Native.Nat.{◌-◌}
use Rattle.book.specs.Book.{node_at, location}
use Rattle.engine.specs.Reader.{read, done, ◌>>=◌}
use Rattle.engine.specs.Term.{eval as value, negate, apply}
use Rattle.engine.proofs.Steps.{term_zero, term_element, term_variable, term_agent, term_none, term_one, term_two, term_not, term_join, no_term_at}
use Rattle.engine_term.specs.Bindings.{agent_of, value_at}
use Rattle.book_parts.specs.StoredNodes.{stored_node}
use Rattle.book.specs.Image.{low_program}
use Rattle.engine_term.proofs.TermKinds.{join_number, no_term_number}
use Rattle.engine_term.proofs.Values.{join_kind}
use Rattle.engine_term.proofs.Marking.{runs_done, runs_given, runs_value, runs_bind}
use Rattle.engine_term.proofs.Leaves.{named_none, named_one, named_two, at_none, at_one, at_two}
use Rattle.engine_term.proofs.Frame.+argument_eval.Goals as goal

pub argument-returns-then-depth-eq0 : goal.argument-returns-then-depth-eq0
unfolding value
argument-returns-then-depth-eq0 t c =
    let a = c.args in
    let f = a.self.now in
    rw (term_zero (node_at (low_program f.image.now)) a.depth a.n c.if-depth-eq0.true) (runs_done (low_program f.image.now) f.contents.now f.bit 0 a.readers.now)

pub argument-returns-then-node-eq2 : goal.argument-returns-then-node-eq2
unfolding value
argument-returns-then-node-eq2 t c =
    let a = c.args in
    let f = a.self.now in
    let x = stored_node c.node-node.result in
    rw (term_variable (node_at (low_program f.image.now)) a.depth a.n x c.if-depth-eq0.false c.node-node.ensures c.if-node-eq2.true)
    (runs_value (low_program f.image.now) f.contents.now f.bit _ _ a.readers.now c.variable.ensures)

pub argument-returns : goal.argument-returns
argument-returns t c = c.eval.ensures

pub eval-returns-then-depth-eq0 : goal.eval-returns-then-depth-eq0
unfolding value
eval-returns-then-depth-eq0 t c =
    let a = c.args in
    let f = a.self.now in
    rw (term_zero (node_at (low_program f.image.now)) a.depth a.n c.if-depth-eq0.true) (runs_done (low_program f.image.now) f.contents.now f.bit 0 a.readers.now)

pub eval-returns-in-Element : goal.eval-returns-in-Element
unfolding value
eval-returns-in-Element t c =
    let a = c.args in
    let f = a.self.now in
    let x = stored_node c.node-node.result in
    rw (term_element (node_at (low_program f.image.now)) a.depth a.n x c.if-depth-eq0.false c.node-node.ensures c.in-Element.ensures)
    (runs_done (low_program f.image.now) f.contents.now f.bit x.a a.readers.now)

pub eval-returns-in-Variable : goal.eval-returns-in-Variable
unfolding value
eval-returns-in-Variable t c =
    let a = c.args in
    let f = a.self.now in
    let x = stored_node c.node-node.result in
    rw (term_variable (node_at (low_program f.image.now)) a.depth a.n x c.if-depth-eq0.false c.node-node.ensures c.in-Variable.ensures)
    (runs_value (low_program f.image.now) f.contents.now f.bit _ _ a.readers.now c.variable.ensures)

pub eval-returns-in-Agent : goal.eval-returns-in-Agent
unfolding value
eval-returns-in-Agent t c =
    let a = c.args in
    let f = a.self.now in
    let x = stored_node c.node-node.result in
    rw (term_agent (node_at (low_program f.image.now)) a.depth a.n x c.if-depth-eq0.false c.node-node.ensures c.in-Agent.ensures)
    (runs_done (low_program f.image.now) f.contents.now f.bit (agent_of f.bindings) a.readers.now)

pub eval-returns-in-Function : goal.eval-returns-in-Function
unfolding value
eval-returns-in-Function t c =
    let a = c.args in
    let f = a.self.now in
    let B = low_program f.image.now in
    let x = stored_node c.node-node.result in
    rw (term_none (node_at B) a.depth a.n x c.if-depth-eq0.false c.node-node.ensures c.in-Function.ensures)
    (runs_given B f.contents.now f.bit _ _ _ _ (λ p.
    c.read.ensures (location B x.a 0 0) (at_none B x.a (named_none B p a.n x c.node-node.ensures c.in-Function.ensures))))

pub eval-returns-in-FunctionOfOne : goal.eval-returns-in-FunctionOfOne
unfolding value
eval-returns-in-FunctionOfOne t c =
    let a = c.args in
    let f = a.self.now in
    let m = f.image.now in
    let B = low_program m in
    let x = stored_node c.node-node.result in
    rw (term_one (node_at B) a.depth a.n x c.if-depth-eq0.false c.node-node.ensures c.in-FunctionOfOne.ensures)
    (runs_bind B f.contents.now f.bit (value_at m f.bindings (a.depth - 1) x.b) (λ y. read (location B x.a y 0)) _ _ _ _ _ c.eval-x.ensures
    (runs_given B f.contents.now f.bit _ _ _ _ (λ p.
    c.read-in-FunctionOfOne.ensures _ (at_one B x.a c.eval-x.result (named_one B p a.n x c.node-node.ensures c.in-FunctionOfOne.ensures)))))

pub eval-returns-in-FunctionOfTwo : goal.eval-returns-in-FunctionOfTwo
unfolding value
eval-returns-in-FunctionOfTwo t c =
    let a = c.args in
    let f = a.self.now in
    let m = f.image.now in
    let B = low_program m in
    let x = stored_node c.node-node.result in
    let s = f.bindings in
    let d = a.depth - 1 in
    rw (term_two (node_at B) a.depth a.n x c.if-depth-eq0.false c.node-node.ensures c.in-FunctionOfTwo.ensures)
    (runs_bind B f.contents.now f.bit (value_at m s d x.b) (λ y. value_at m s d x.c >>= λ z. read (location B x.a y z)) _ _ _ _ _ c.argument-x.ensures
    (runs_bind B f.contents.now f.bit (value_at m s d x.c) (λ z. read (location B x.a c.argument-x.result z)) _ _ _ _ _ c.argument-y.ensures
    (runs_given B f.contents.now f.bit _ _ _ _ (λ p.
    c.read-in-FunctionOfTwo.ensures _ (at_two B x.a c.argument-x.result c.argument-y.result (named_two B p a.n x c.node-node.ensures c.in-FunctionOfTwo.ensures))))))

pub eval-returns-in-Not : goal.eval-returns-in-Not
unfolding value
eval-returns-in-Not t c =
    let a = c.args in
    let f = a.self.now in
    let m = f.image.now in
    let B = low_program m in
    let x = stored_node c.node-node.result in
    rw (term_not (node_at B) a.depth a.n x c.if-depth-eq0.false c.node-node.ensures c.in-Not.ensures)
    (runs_bind B f.contents.now f.bit (value_at m f.bindings (a.depth - 1) x.a) (λ y. done (negate y)) _ _ _ _ _ c.eval.ensures
    (runs_value B f.contents.now f.bit _ _ _ c.not.ensures))

pub eval-returns-in_default : goal.eval-returns-in_default
unfolding value
eval-returns-in_default t c =
    let a = c.args in
    let f = a.self.now in
    let x = stored_node c.node-node.result in
    let d = c.in_default in
    let h = no_term_number c.kind_of.result x.kind c.kind_of.ensures d.not-Element d.not-Variable d.not-Agent d.not-Function d.not-FunctionOfOne d.not-FunctionOfTwo d.not-Equal d.not-Not d.not-And d.not-Or d.not-Plus d.not-Minus d.not-Less in
    rw (no_term_at (node_at (low_program f.image.now)) a.depth a.n x c.if-depth-eq0.false c.node-node.ensures h)
    (runs_done (low_program f.image.now) f.contents.now f.bit 0 a.readers.now)

pub eval-returns-in-Equal : goal.eval-returns-in-Equal
unfolding value
eval-returns-in-Equal t c =
    let a = c.args in
    let f = a.self.now in
    let m = f.image.now in
    let B = low_program m in
    let x = stored_node c.node-node.result in
    let s = f.bindings in
    let d = a.depth - 1 in
    let k = join_number c.kind_of.result x.kind c.kind_of.ensures c.in-Equal.is in
    let j = join_kind x.kind k.0 k.1 k.2 in
    let e : c.operate.result ≡ apply B.P j.0 c.eval-x-in-Equal.result c.eval-y.result = c.operate.ensures ∙ rw (j.1, c.permanent.ensures) in
    rw (term_join (node_at B) a.depth a.n x c.if-depth-eq0.false c.node-node.ensures x.kind j.0 refl j.1)
    (runs_bind B f.contents.now f.bit (value_at m s d x.a) (λ y. value_at m s d x.b >>= λ z. done (apply B.P j.0 y z)) _ _ _ _ _ c.eval-x-in-Equal.ensures
    (runs_bind B f.contents.now f.bit (value_at m s d x.b) (λ z. done (apply B.P j.0 c.eval-x-in-Equal.result z)) _ _ _ _ _ c.eval-y.ensures
    (runs_value B f.contents.now f.bit _ _ _ e)))
