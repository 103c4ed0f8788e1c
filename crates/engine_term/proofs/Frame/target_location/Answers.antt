-- `target_location` meets its contract.
use Prim.Native.Nat.{◌-◌}
use Rattle.book.specs.Book.{node_at, location}
use Rattle.engine.specs.Reader.{done, ◌>>=◌}
use Rattle.engine.specs.Term.{target}
use Rattle.engine.proofs.Steps.{term_zero, term_none, term_one, term_two, no_target}
use Rattle.engine_term.specs.Bindings.{variables_of, agent_of, value_at}
use Rattle.book_parts.specs.StoredNodes.{stored_node}
use Rattle.book.specs.Image.{low_program}
use Rattle.engine_term.proofs.Marking.{runs_done, runs_given, runs_value, runs_bind}
use Rattle.engine_term.proofs.TermKinds.{no_location_number}
use Rattle.engine_term.proofs.Leaves.{named_none, named_one, named_two, at_none, at_one, at_two}
use Rattle.engine_term.proofs.Frame.target_location.Goals as goal

pub returns-then-depth-eq0 : goal.returns-then-depth-eq0
unfolding target
returns-then-depth-eq0 c =
    let a = c.args in
    let f = a.self.now in
    rw (term_zero (node_at (low_program f.image.now)) a.depth a.n c.if-depth-eq0.true) (runs_done (low_program f.image.now) f.contents.now f.bit 0 a.readers.now)

pub returns-in-Function : goal.returns-in-Function
unfolding target
returns-in-Function c =
    let a = c.args in
    let f = a.self.now in
    let x = stored_node c.node-node.result in
    rw (term_none (node_at (low_program f.image.now)) a.depth a.n x c.if-depth-eq0.false c.node-node.ensures c.in-Function.ensures)
    (runs_given (low_program f.image.now) f.contents.now f.bit _ _ _ _ (λ p.
    let h = named_none (low_program f.image.now) p a.n x c.node-node.ensures c.in-Function.ensures in
    runs_value (low_program f.image.now) f.contents.now f.bit _ _ _ (c.location.ensures _ (at_none (low_program f.image.now) x.a h) p)))

pub returns-in-FunctionOfOne : goal.returns-in-FunctionOfOne
unfolding target
returns-in-FunctionOfOne c =
    let a = c.args in
    let f = a.self.now in
    let m = f.image.now in
    let x = stored_node c.node-node.result in
    rw (term_one (node_at (low_program m)) a.depth a.n x c.if-depth-eq0.false c.node-node.ensures c.in-FunctionOfOne.ensures)
    (runs_bind (low_program m) f.contents.now f.bit (value_at m f.bindings (a.depth - 1) x.b) (λ y. done (location (low_program m) x.a y 0)) _ _ _ _ _ c.argument-x.ensures
    (runs_given (low_program m) f.contents.now f.bit _ _ _ _ (λ p.
    let h = named_one (low_program m) p a.n x c.node-node.ensures c.in-FunctionOfOne.ensures in
    runs_value (low_program m) f.contents.now f.bit _ _ _ (c.location-in-FunctionOfOne.ensures _ (at_one (low_program m) x.a _ h) p))))

pub returns-in-FunctionOfTwo : goal.returns-in-FunctionOfTwo
unfolding target
returns-in-FunctionOfTwo c =
    let a = c.args in
    let f = a.self.now in
    let m = f.image.now in
    let x = stored_node c.node-node.result in
    let s = f.bindings in
    let d = a.depth - 1 in
    rw (term_two (node_at (low_program m)) a.depth a.n x c.if-depth-eq0.false c.node-node.ensures c.in-FunctionOfTwo.ensures)
    (runs_bind (low_program m) f.contents.now f.bit (value_at m s d x.b) (λ y. value_at m s d x.c >>= λ z. done (location (low_program m) x.a y z)) _ _ _ _ _ c.argument-x-in-FunctionOfTwo.ensures
    (runs_bind (low_program m) f.contents.now f.bit (value_at m s d x.c) (λ z. done (location (low_program m) x.a c.argument-x-in-FunctionOfTwo.result z)) _ _ _ _ _ c.argument-y.ensures
    (runs_given (low_program m) f.contents.now f.bit _ _ _ _ (λ p.
    let h = named_two (low_program m) p a.n x c.node-node.ensures c.in-FunctionOfTwo.ensures in
    runs_value (low_program m) f.contents.now f.bit _ _ _ (c.location-in-FunctionOfTwo.ensures _ (at_two (low_program m) x.a _ _ h) p)))))

pub returns-in_default : goal.returns-in_default
returns-in_default c =
    let a = c.args in
    let f = a.self.now in
    let x = stored_node c.node-node.result in
    let d = c.in_default in
    let r = no_location_number c.kind_of.result x.kind c.kind_of.ensures d.not-Function d.not-FunctionOfOne d.not-FunctionOfTwo in
    rw (no_target (low_program f.image.now) (agent_of f.bindings) (variables_of f.bindings) (node_at (low_program f.image.now)) a.depth a.n (stored_node c.node-node.result) c.node-node.ensures r.0 r.1 r.2)
    (runs_done (low_program f.image.now) f.contents.now f.bit 0 a.readers.now)
