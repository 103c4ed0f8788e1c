-- `check_call` meets its contract.
use Rattle.std.proofs.Common.{◌∙◌}
use Rattle.text.specs.Words.{told}
use Rattle.text.proofs.Checks.{passing, refusing, refused_alike}
use Rattle.book.specs.Image.{word, low_program}
use Rattle.engine.specs.Move.{input}
use Rattle.engine_step.proofs.Checks.{agent_refuses, picks_refuse, two_refuses, eight_last}
use Rattle.engine_step.proofs.check_call.Goals as goal

pub returns-in_err-check_agent : goal.returns-in_err-check_agent
returns-in_err-check_agent c =
    λ strides.
    let a = c.args in
    let nine = c.check_agent in
    refused_alike _ c.in_err-check_agent.was c.from_residual.ensures.1 ∙ agent_refuses (low_program a.image.now) (word a.image.now 6) a.contents.now (input a.agent a.picks.now) a.lent (told nine.result) nine.ensures (refusing c.in_err-check_agent.was)

pub returns-in_err-check_picks : goal.returns-in_err-check_picks
returns-in_err-check_picks c =
    λ strides.
    let a = c.args in
    let nine = c.check_agent in
    let other = c.check_picks in
    refused_alike _ c.in_err-check_picks.was c.from_residual-in_err-check_picks.ensures.1 ∙ picks_refuse (low_program a.image.now) (word a.image.now 6) a.contents.now (input a.agent a.picks.now) a.lent (told nine.result) nine.ensures (passing c.in_ok-check_agent.was)
    (told other.result) other.ensures (refusing c.in_err-check_picks.was)

pub returns-in_err-check_lent : goal.returns-in_err-check_lent
returns-in_err-check_lent c =
    λ strides.
    let a = c.args in
    let nine = c.check_agent in
    let other = c.check_picks in
    let two = c.check_lent in
    refused_alike _ c.in_err-check_lent.was c.from_residual-in_err-check_lent.ensures.1 ∙ two_refuses (low_program a.image.now) (word a.image.now 6) a.contents.now (input a.agent a.picks.now) a.lent (told nine.result) nine.ensures (passing c.in_ok-check_agent.was)
    (told other.result) other.ensures (passing c.in_ok-check_picks.was) (told two.result) two.ensures (refusing c.in_err-check_lent.was)

pub returns : goal.returns
returns c =
    λ strides.
    let a = c.args in
    let nine = c.check_agent in
    let other = c.check_picks in
    let two = c.check_lent in
    eight_last (low_program a.image.now) (word a.image.now 6) a.contents.now (input a.agent a.picks.now) a.lent (told nine.result) nine.ensures (passing c.in_ok-check_agent.was)
    (told other.result) other.ensures (passing c.in_ok-check_picks.was) (told two.result) two.ensures (passing c.in_ok-check_lent.was) (told c.check_contents.result) (c.check_contents.ensures strides)
