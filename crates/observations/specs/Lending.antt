-- The evaluation of a reply over lent observations.
use Rattle.std.specs.Prelude.{Bool, List, ℕ, ◌-◌, length, take, drop}
use Rattle.likelihood.specs.declared.population_focei.Observation.{Observation}
use Rattle.subject.specs.Subject.{Evaluating, evaluating, add_observations}
use Rattle.session.specs.declared.Admitted.{Admitted}
use Rattle.setup.specs.declared.Setup.{Setup}
use Rattle.search.specs.declared.Tally.{Tally}
use Rattle.session.specs.Calls.{lent_by}
use Rattle.state_words.specs.SessionWords.{loaded_state}
use Rattle.host_calls.specs.Hosting.{Out, finish_with}
use Rattle.host_calls.specs.SubjectReplies.{admit_for}
use Rattle.subject.specs.Observations.{Check}

-- the evaluation of a reply, with the work words that it has written
abbrev pub evaluate_over : List Observation → Admitted → List ℕ → List ℕ → Evaluating
evaluate_over observations a reply work =
    add_observations a.trial reply (take (a.to - a.from) (drop a.from observations)) (evaluating a.evaluation work)

-- a reply, where `check` is what was found of the observations: it is accepted or not; the observations are added to its evaluation,
-- none where it is not accepted; and the rest follows
unfoldable pub replied_over : Bool → Setup → List ℕ → List Observation → Check → Tally → List ℕ → List ℕ → List ℕ → List ℕ → List ℕ → List ℕ
    → List ℕ → Out
replied_over alone setup counts observations check tally state answer cache work warm results reply =
    let lent = lent_by (length observations) (length cache) (length work) (length warm) (length results) in
    let a = admit_for alone setup counts lent check tally reply (loaded_state state) in
    let e = evaluate_over observations a reply work in
    finish_with counts a.awaited e.evaluation tally state answer cache e.work warm results
