-- `curlewstand_individual_values` meets its contract: the case of the answer is the case of the definition. Assumes nothing.
use Rattle.std.proofs.Common.{sym, ap, ◌∙◌}
use Rattle.float64.specs.Answer.{number_of, through, or_old}
use Rattle.subject.specs.Subject.{answer}
use Rattle.test_exports.specs.Evaluations.{floats_of}
use Rattle.test_exports.proofs.evaluations.curlewstand_individual_values.Goals as goal

pub returns-in-Some : goal.returns-in-Some
unfolding answer number_of or_old floats_of through
returns-in-Some c =
    let found = sym (ap answer c.in-Some.is) ∙ c.individual_values.ensures in
    rw (← c.pair_of.ensures, ← c.pair_of-2.ensures)
    record { value = ap number_of found; individual_after = ap (λ z. or_old c.args.individual.now (floats_of z)) found }

pub returns-in-None : goal.returns-in-None
unfolding answer number_of or_old floats_of through
returns-in-None c =
    let found = sym (ap answer c.in-None.is) ∙ c.individual_values.ensures in
    rw (← c.pair_of.ensures, ← c.pair_of-2.ensures)
    record { value = ap number_of found; individual_after = ap (λ z. or_old c.args.individual.now (floats_of z)) found }
