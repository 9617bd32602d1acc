-- `curlewstand_shrinkage` meets its contract: the case of the answer is the case of the definition. Assumes nothing.
use Rattle.std.proofs.Common.{sym, ap, ◌∙◌}
use Rattle.float64.specs.Answer.{number_of, or_old}
use Rattle.host_calls.specs.Figures.{told}
use Rattle.curlewstand_calls.proofs.figures.curlewstand_shrinkage.Goals as goal

pub returns-in-Some : goal.returns-in-Some
unfolding told number_of or_old
returns-in-Some c =
    let found = sym (ap told c.in-Some.is) ∙ c.shrinkage_from.ensures in
    record { value = ap number_of found; shrinkage_after = ap (or_old _) found }

pub returns-in-None : goal.returns-in-None
unfolding told number_of or_old
returns-in-None c =
    let found = sym (ap told c.in-None.is) ∙ c.shrinkage_from.ensures in
    record { value = ap number_of found; shrinkage_after = ap (or_old _) found }
