-- A reply that lends the observations of the awaited subject alone, as a host makes it. The tally and the words are lent as for any call
-- of the session.
use Rattle.std.specs.Prelude.{Bool, List, ℕ, ◌-◌, length, get_or, take, drop, Ok}
use Rattle.float64.specs.Answer.{Answer, given, refused}
use Rattle.float64.specs.Pick.{pick}
use Rattle.likelihood.specs.declared.population_focei.Observation.{Observation}
use Rattle.subject.specs.Observations.{check_observations, Check}
use Rattle.subject.specs.Subject.{evaluating, add_observations}
use Rattle.setup.specs.declared.Lent.{Lent}
use Rattle.setup.specs.declared.Setup.{Setup}
use Rattle.search.specs.declared.Tally.{Tally}
use Rattle.session.specs.Calls.{lent_by, unadmitted}
use Rattle.session.specs.declared.Admitted.{Admitted}
use Rattle.session.specs.declared.State.{State}
use Rattle.state_words.specs.SessionWords.{loaded_state}
use Rattle.session.specs.SubjectReply.{admit_subject_reply}
use Rattle.host_calls.specs.Hosting.{Out, admit_with, finish_with}

-- the check begins at the first observation of the subject that the state's words name
unfoldable pub subject_first : List ℕ → Check
subject_first state = Ok (record { subject = get_or state 8 0; observation = 0 })

abbrev pub subject_checked : Setup → List ℕ → List Observation → List ℕ → Check
subject_checked setup counts observations state = check_observations setup.width counts observations (subject_first state)

unfoldable pub admit_subject_with : Setup → List ℕ → Lent → Check → Tally → List ℕ → Answer State → Admitted
admit_subject_with setup counts lent check tally reply (given s) = admit_subject_reply setup counts lent check s tally reply
admit_subject_with setup counts lent check tally reply (refused n) = unadmitted setup

-- a reply that lends the observations of the awaited subject alone, or those of all subjects
unfoldable pub admit_for : Bool → Setup → List ℕ → Lent → Check → Tally → List ℕ → Answer State → Admitted
admit_for alone setup counts lent check tally reply s =
    pick alone (admit_subject_with setup counts lent check tally reply s) (admit_with setup counts lent check tally reply s)

-- it is accepted or not; the observations are added to its evaluation, none where it is not accepted; and the rest is as for a reply that
-- lends all of them
unfoldable pub subject_reply_over : Setup → List ℕ → List Observation → Tally → List ℕ → List ℕ → List ℕ → List ℕ → List ℕ → List ℕ → List ℕ
    → Out
subject_reply_over setup counts observations tally state answer cache work warm results reply =
    let lent = lent_by (length observations) (length cache) (length work) (length warm) (length results) in
    let a = admit_subject_with setup counts lent (subject_checked setup counts observations state) tally reply (loaded_state state) in
    let e = add_observations a.trial reply (take (a.to - a.from) (drop a.from observations)) (evaluating a.evaluation work) in
    finish_with counts a.awaited e.evaluation tally state answer cache e.work warm results
