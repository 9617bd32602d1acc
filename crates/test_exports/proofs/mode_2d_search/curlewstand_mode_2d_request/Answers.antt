-- `curlewstand_mode_2d_request` meets its contract: the case of what is loaded and asked is the case of the definition. Assumes nothing.
use Rattle.std.proofs.Common.{sym, ap, ◌∙◌}
use Rattle.float64.specs.Answer.{given, through}
use Rattle.mode_2d.specs.Rules.{request}
use Rattle.state_words.specs.SearchWords2.{answer}
use Rattle.test_exports.specs.Mode2d.{requested, request_number, point_or}
use Rattle.test_exports.proofs.mode_2d_search.curlewstand_mode_2d_request.Goals as goal

pub returns-in-Point : goal.returns-in-Point
unfolding answer through requested request_number point_or
returns-in-Point c =
    let found = ap (through (request _)) (sym (ap answer c.in-Some.is) ∙ c.load.ensures) in
    let told = ap given (sym c.in-Point.is ∙ c.request.ensures) ∙ found in
    rw (← c.settings_of-settings.ensures) (record { value = ap request_number told; point_after = ap (point_or _) told })

pub returns-in-Mode : goal.returns-in-Mode
unfolding answer through requested request_number point_or
returns-in-Mode c =
    let found = ap (through (request _)) (sym (ap answer c.in-Some.is) ∙ c.load.ensures) in
    let told = ap given (sym c.in-Mode.is ∙ c.request.ensures) ∙ found in
    rw (← c.settings_of-settings.ensures) (record { value = ap request_number told; point_after = ap (point_or _) told })

pub returns-in-Refused : goal.returns-in-Refused
unfolding answer through requested request_number point_or
returns-in-Refused c =
    let found = ap (through (request _)) (sym (ap answer c.in-Some.is) ∙ c.load.ensures) in
    let told = ap given (sym c.in-Refused.is ∙ c.request.ensures) ∙ found in
    rw (← c.settings_of-settings.ensures) (record { value = ap request_number told; point_after = ap (point_or _) told })

pub returns-in_default : goal.returns-in_default
unfolding answer through requested request_number point_or
returns-in_default c =
    let found = ap (through (request _)) (sym (ap answer c.in_default.is) ∙ c.load.ensures) in
    record { value = ap request_number found; point_after = ap (point_or _) found }
