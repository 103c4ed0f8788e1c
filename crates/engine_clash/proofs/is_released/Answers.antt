-- `is_released` meets its contract.
use Rattle.std.proofs.Common.{◌∙◌, rules, tests, sym, Bool, []}
use Rattle.std.proofs.lemmas.Iterator.{YieldsList-from_slice}
use Rattle.std.proofs.lemmas.Iterator.Search.{any_from_yields_List}
use Rattle.text.specs.Words.{has}
use Rattle.engine.specs.declared.Instruction.{Instruction}
use Rattle.engine.specs.Move.{label_of}
use Rattle.engine_instruction.specs.Code.{decode_of, decoded}
use Rattle.engine_clash.proofs.Laws.{any_decoded, has_any}
use Rattle.engine_clash.proofs.is_released.Goals as goal

pub returns : goal.returns
returns c =
    let a = c.args in
    let gives : Instruction → Bool = λ i. has (label_of i []) a.x in
    any_from_yields_List (λ x. gives (decode_of x)) _ _ c.any.result c.any.ensures.ran
    (YieldsList-from_slice a.list.now c.iter.ensures.rest)
    (λ x b q k. search (rules, tests))
    ∙ any_decoded gives a.list.now ∙ sym (has_any a.x (decoded a.list.now))
