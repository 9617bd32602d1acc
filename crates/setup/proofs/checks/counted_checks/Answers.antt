-- `counted_checks` meets its contract: each exit by its law. Assumes nothing.
use Rattle.setup.proofs.Bounds.{cohort_low}
use Rattle.setup.proofs.Paths.{no_cohort_lem, cohort}
use Rattle.setup.proofs.checks.counted_checks.Goals as goal

pub admitted-requires : goal.admitted-requires
admitted-requires c =
    let low = cohort_low _ _ _ _ c.is_cohort.ensures c.if-is_cohort.true in
    (low.0, low.1, c.requires.0, c.requires.1)

pub returns-then-is_cohort : goal.returns-then-is_cohort
returns-then-is_cohort c = cohort _ _ _ _ _ c.is_cohort.ensures c.if-is_cohort.true c.admitted.ensures

pub returns : goal.returns
returns c = no_cohort_lem _ _ _ _ _ c.is_cohort.ensures c.if-is_cohort.false
