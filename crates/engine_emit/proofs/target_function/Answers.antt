-- `target_function` meets its contract.
use mathlib.Core.Path.{sym}
use mathlib.Core.List.{[]}
use Rattle.book.specs.Book.{node_at}
use Rattle.engine.specs.Term.{function_of}
use Rattle.engine.proofs.Steps.{term_zero, function_none, function_one, function_two, no_function_of}
use Rattle.book_parts.specs.StoredNodes.{stored_node}
use Rattle.book.specs.Image.{low_program}
use Rattle.engine_term.proofs.TermKinds.{no_location_number}
use Rattle.engine_emit.proofs.target_function.Goals as goal

pub returns-then-depth-eq0 : goal.returns-then-depth-eq0
unfolding function_of
returns-then-depth-eq0 c = rw (term_zero (node_at (low_program c.args.image.now)) c.args.depth c.args.n c.if-depth-eq0.true)

pub returns-in-Function : goal.returns-in-Function
returns-in-Function c = let a = c.args in sym (function_none (node_at (low_program a.image.now)) a.depth a.n (stored_node c.node-node.result) c.if-depth-eq0.false c.node-node.ensures c.in-Function.ensures)

pub returns-in-FunctionOfOne : goal.returns-in-FunctionOfOne
returns-in-FunctionOfOne c = let a = c.args in sym (function_one (node_at (low_program a.image.now)) a.depth a.n (stored_node c.node-node.result) c.if-depth-eq0.false c.node-node.ensures c.in-FunctionOfOne.ensures)

pub returns-in-FunctionOfTwo : goal.returns-in-FunctionOfTwo
returns-in-FunctionOfTwo c = let a = c.args in sym (function_two (node_at (low_program a.image.now)) a.depth a.n (stored_node c.node-node.result) c.if-depth-eq0.false c.node-node.ensures c.in-FunctionOfTwo.ensures)

pub returns-in_default : goal.returns-in_default
returns-in_default c =
    let a = c.args in
    let x = stored_node c.node-node.result in
    let d = c.in_default in
    let r = no_location_number c.kind_of.result x.kind c.kind_of.ensures d.not-Function d.not-FunctionOfOne d.not-FunctionOfTwo in
    sym (no_function_of (low_program a.image.now) 0 [] (node_at (low_program a.image.now)) a.depth a.n (stored_node c.node-node.result) c.node-node.ensures r.0 r.1 r.2)
