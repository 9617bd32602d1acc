-- `curlewstand_add_row` meets its contract: the case of the leaf's answer is the case of the definition. Assumes nothing.
use Rattle.std.proofs.Common.{sym, ap, ◌∙◌}
use Rattle.likelihood.specs.Row2.{answer}
use Rattle.float64.specs.Answer.{number_of}
use Rattle.test_exports.specs.Leaves.{added, add_row}
use Rattle.test_exports.proofs.leaves.curlewstand_add_row.Goals as goal

pub returns-in-Ok : goal.returns-in-Ok
unfolding answer number_of added add_row
returns-in-Ok c =
    let found = sym (ap answer c.in-Ok.is) ∙ c.row_variance.ensures in
    let row = c.scaled_row-row.ensures in
    rw (← c.observation_of-observation.ensures)
    record {
      value = ap number_of found;
      information_after = rw (c.add_nll.ensures, c.add_score.ensures, c.add_information.ensures, row) (ap (added _ _ _ _) found);
    }

pub returns-in-Err : goal.returns-in-Err
unfolding answer number_of added add_row
returns-in-Err c =
    let found = sym (ap answer c.in-Err.is) ∙ c.row_variance.ensures in
    rw (← c.observation_of-observation.ensures)
    record { value = c.number.ensures ∙ ap number_of found; information_after = ap (added _ _ _ _) found }
