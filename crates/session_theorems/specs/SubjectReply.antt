-- A reply that lends the observations of the awaited subject alone is the reply that lends all of them, where the latter is accepted:
-- where the state's positions are right, and 1 to 5 pass of all that there is. It is so for any words and any state.
use Rattle.std.specs.Prelude.{◌≡◌, true, List, ℕ, length, take, drop, Ok}
use Rattle.float64.specs.Answer.{given}
use Rattle.likelihood.specs.declared.population_focei.Observation.{Observation}
use Rattle.setup.specs.Admission.{checks, with_parameters}
use Rattle.setup.specs.declared.Lent.{Lent}
use Rattle.setup.specs.declared.Setup.{Setup}
use Rattle.search.specs.declared.Tally.{Tally}
use Rattle.machine.specs.Machine.{Act, run}
use Rattle.population.specs.Kept.{words}
use Rattle.population.specs.Population.{rows_of}
use Rattle.session.specs.Calls.{held_of, lent_by, stands}
use Rattle.session.specs.Session.{all_checked, reply, opened, session}
use Rattle.session.specs.declared.State.{State}
use Rattle.state_words.specs.SessionWords.{loaded_state}
use Rattle.host_calls.specs.Hosting.{call_over}
use Rattle.host_calls.specs.SubjectReplies.{subject_reply_over}
use Rattle.session_theorems.specs.Setup.{Granted}

-- the observations of the subject that the state stands at
abbrev pub own_of : List ℕ → List Observation → State → List Observation
own_of counts observations s = take (rows_of counts s.progress.subject) (drop s.progress.first observations)

abbrev pub EverySubjectReply : Type 0
EverySubjectReply = (setup : Setup) (counts : List ℕ) (observations : List Observation) (tally : Tally)
    → (state answer cache work warm results : List ℕ) (said : List ℕ) (s : State) → loaded_state state ≡ given s
    → stands setup counts (length observations) s tally ≡ true
    → checks (with_parameters setup s.parameters) counts
    (lent_by (length observations) (length cache) (length work) (length warm) (length results)) (all_checked setup counts observations)
    ≡ Ok tt
    → subject_reply_over setup counts (own_of counts observations s) tally state answer cache work warm results said
    ≡ call_over setup counts observations tally state answer cache work warm results (reply said)

-- so in every session that an accepted setup opened, wherever it stands: the words that are lent are those of the state that its calls
-- have come to
abbrev pub InEverySession : Type 0
InEverySession = (setup : Setup) (counts : List ℕ) (observations : List Observation) (lent : Lent) (before : List ℕ)
    → Granted setup counts observations lent before
    → (acts : List (Act (session words setup counts observations))) (tally : Tally) (state answer cache work warm results : List ℕ)
    → (said : List ℕ) (s : State) → loaded_state state ≡ given s
    → held_of s tally cache work warm results
    ≡ run (session words setup counts observations) (opened words setup counts lent before) acts
    → subject_reply_over setup counts (own_of counts observations s) tally state answer cache work warm results said
    ≡ call_over setup counts observations tally state answer cache work warm results (reply said)
