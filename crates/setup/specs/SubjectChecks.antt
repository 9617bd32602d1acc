-- Document 01's checks 1 to 5 where the observations that are lent are those of one subject alone.
use Rattle.std.specs.Prelude.{List, ℕ, ltb, eqb, length, get_or, Err}
use Rattle.float64.specs.Pick.{pick}
use Rattle.work.specs.Work.{most_rows}
use Rattle.setup.specs.Admission.{checks_of, within, Admission}
use Rattle.setup.specs.declared.Setup.{Setup}
use Rattle.setup.specs.declared.Lent.{Lent}
use Rattle.setup.specs.declared.AdmissionError.TheVariants.{Refused}
use Rattle.subject.specs.Observations.{Check}

-- the subject's count is at least 1, at most 100,000 and the number of records lent; of the other counts nothing is asked
unfoldable pub subject_checks : Setup → List ℕ → ℕ → Lent → Check → Admission
subject_checks setup counts subject lent check =
    let count = get_or counts subject 0 in
    pick (eqb count 0) (Err (Refused 1))
    (pick (ltb most_rows count) (Err (Refused 1))
    (checks_of setup (length counts) lent check (within count count)))
