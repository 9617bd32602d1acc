-- Whether a reply is accepted that lends the observations of the awaited subject alone: 19, then 1 to 5 of what is lent, and what its
-- observations are added to.
use Rattle.std.specs.Prelude.{List, ℕ}
use Rattle.work.specs.Work.{most_rows}
use Rattle.setup.specs.Admission.{with_parameters}
use Rattle.setup.specs.declared.Lent.{Lent}
use Rattle.setup.specs.declared.Setup.{Setup}
use Rattle.setup.specs.SubjectChecks.{subject_checks}
use Rattle.search.specs.Subjects.{fit_of}
use Rattle.search.specs.declared.Tally.{Tally}
use Rattle.population.specs.Population.{rows_of}
use Rattle.session.specs.Calls.{awaited_point, awaited_for, admitted_over, trial_by}
use Rattle.session.specs.declared.State.{State}
use Rattle.session.specs.declared.Awaited.{Awaited}
use Rattle.session.specs.declared.Admitted.{Admitted}
use Rattle.subject.specs.Observations.{Check}

-- the positions are within the most observations that there can be, since not all are lent
unfoldable pub subject_awaited : Setup → List ℕ → Lent → Check → State → Tally → Awaited
subject_awaited setup counts lent check state tally =
    let fit = fit_of setup state.parameters in
    awaited_for fit (subject_checks (with_parameters setup state.parameters) counts state.progress.subject lent check)
    (awaited_point setup counts most_rows fit state tally)

unfoldable pub admit_subject_reply : Setup → List ℕ → Lent → Check → State → Tally → List ℕ → Admitted
admit_subject_reply setup counts lent check state tally reply =
    let awaited = subject_awaited setup counts lent check state tally in
    admitted_over setup (trial_by setup state (rows_of counts state.progress.subject)) reply awaited 0 lent.observations
    awaited.admission
