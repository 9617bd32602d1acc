-- `curlewstand_mode_2d_advance` meets its contract: the case of what is loaded is the case of the definition. Assumes nothing.
use Rattle.std.proofs.Common.{sym, ap, ◌∙◌}
use Rattle.float64.specs.Answer.{number_of, through, or_old}
use Rattle.state_words.specs.SearchWords2.{saved, answer}
use Rattle.test_exports.specs.Mode2d.{next, advanced}
use Rattle.test_exports.proofs.mode_2d_search.curlewstand_mode_2d_advance.Goals as goal

pub returns : goal.returns
unfolding answer through advanced number_of or_old
returns c =
    let found = ap (through (next _ _)) (sym (ap answer c.in-Some.is) ∙ c.load.ensures) in
    rw (← c.settings_of-settings.ensures, ← c.point_of-c.ensures)
    record { value = ap number_of found; search_after = c.save.ensures ∙ ap saved c.advance.ensures ∙ ap (or_old _) found }

pub returns-in_default : goal.returns-in_default
unfolding answer through advanced number_of or_old
returns-in_default c =
    let found = ap (through (next _ _)) (sym (ap answer c.in_default.is) ∙ c.load.ensures) in
    record { value = ap number_of found; search_after = ap (or_old _) found }
