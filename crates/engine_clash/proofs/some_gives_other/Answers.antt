-- `some_gives_other` meets its contract.
use Rattle.std.proofs.Common.{◌∙◌, rules, tests, Bool}
use Rattle.std.proofs.lemmas.Iterator.{YieldsList-from_slice}
use Rattle.std.proofs.lemmas.Iterator.Search.{any_from_yields_List}
use Rattle.engine.specs.declared.Instruction.{Instruction}
use Rattle.engine.specs.Move.{other}
use Rattle.engine_instruction.specs.Code.{decode_of}
use Rattle.engine_clash.specs.LeastClash.{values_given}
use Rattle.engine_clash.proofs.Laws.{any_decoded}
use Rattle.engine_clash.proofs.some_gives_other.Goals as goal

pub returns : goal.returns
returns c =
    let a = c.args in
    let gives : Instruction → Bool = λ i. other a.w (values_given a.s i) in
    any_from_yields_List (λ x. gives (decode_of x)) _ _ c.any.result c.any.ensures.ran
    (YieldsList-from_slice a.list.now c.iter.ensures.rest)
    (λ x b q k. search (rules, tests))
    ∙ any_decoded gives a.list.now
