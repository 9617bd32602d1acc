-- `curlewstand_row_terms` meets its contract: the case of the leaf's answer is the case of the definition. Assumes nothing.
use Rattle.std.proofs.Common.{sym, ap, ◌∙◌}
use Rattle.likelihood.specs.RowTerms.{answer}
use Rattle.float64.specs.Answer.{number_of}
use Rattle.test_exports.specs.Leaves.{terms_or}
use Rattle.test_exports.proofs.leaves.curlewstand_row_terms.Goals as goal

pub returns-in-Ok : goal.returns-in-Ok
unfolding answer number_of terms_or
returns-in-Ok c =
    let found = sym (ap answer c.in-Ok.is) ∙ c.row_terms.ensures in
    rw (← c.observation_of-observation.ensures) (record { value = ap number_of found; terms_after = ap (terms_or _) found })

pub returns-in-Err : goal.returns-in-Err
unfolding answer number_of terms_or
returns-in-Err c =
    let found = sym (ap answer c.in-Err.is) ∙ c.row_terms.ensures in
    rw (← c.observation_of-observation.ensures) (record { value = c.number.ensures ∙ ap number_of found; terms_after = ap (terms_or _) found })
