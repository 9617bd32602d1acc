-- What the parts of the reply answered, put together. Assumes nothing.
use mathlib.Core.Path.{◌≡◌, refl, ap, ◌∙◌}
use mathlib.Core.Bool.{true}
use mathlib.Core.List.{List}
use Prim.Native.Nat.{ℕ, ◌-◌}
use native.Mathlib.Omega.{arith}
use lib.ListN.{length, take, drop}
use lib.Seq.{take_all}
use Rattle.float64.specs.Pick.{pick_yes}
use Rattle.likelihood.specs.declared.population_focei.Observation.{Observation}
use Rattle.subject.specs.Observations.{check_observations, Check}
use Rattle.setup.specs.declared.Lent.{Lent}
use Rattle.setup.specs.declared.Setup.{Setup}
use Rattle.search.specs.declared.Tally.{Tally}
use Rattle.session.specs.Calls.{lent_by}
use Rattle.session.specs.declared.Admitted.{Admitted}
use Rattle.state_words.specs.SessionWords.{loaded_state}
use Rattle.host_calls.specs.Hosting.{Out, finish_with, setup_of}
use Rattle.host_calls.specs.SubjectReplies.{subject_first, subject_checked, admit_subject_with, admit_for, subject_reply_over}
use Rattle.host_calls.specs.declared.SessionSetup.{SessionSetup}
use Rattle.observations.specs.Lending.{evaluate_over, replied_over}

-- the reply, where the state's words are as they were when the first place was read off them
module _ (setup : Setup) (counts : List ℕ) (observations : List Observation) (tally : Tally)
    (state answer cache work warm results said : List ℕ) where
  abbrev lent : Lent
  lent = lent_by (length observations) (length cache) (length work) (length warm) (length results)

  alone : (check : Check) → admit_for true setup counts lent check tally said (loaded_state state) ≡ admit_subject_with setup counts lent check tally said (loaded_state state)
  unfolding admit_for
  alone check = pick_yes true _ _ refl

  -- what follows of what was found of the reply
  abbrev follows : Admitted → Out
  follows a =
      let e = evaluate_over observations a said work in
      finish_with counts a.awaited e.evaluation tally state answer cache e.work warm results

  pub subject_replied : {state' : List ℕ} {first check : Check} {z : Out} → state' ≡ state → first ≡ subject_first state
      → check ≡ check_observations setup.width counts observations first
      → z ≡ replied_over true setup counts observations check tally state' answer cache work warm results said
      → z ≡ subject_reply_over setup counts observations tally state answer cache work warm results said
  unfolding subject_reply_over replied_over
  subject_replied {check = check} es ef ec q =
      let checked : check ≡ subject_checked setup counts observations state = ec ∙ ap (check_observations setup.width counts observations) ef in
      q ∙ (λ i. replied_over true setup counts observations (checked i) tally (es i) answer cache work warm results said)
      ∙ ap follows (alone (subject_checked setup counts observations state))

-- the check of all that is lent, from `first` on
pub all_from : (s : SessionSetup) (counts : List ℕ) (observations : List Observation) (first : Check) {check : Check}
    → check ≡ check_observations s.width counts (take (length observations - 0) (drop 0 observations)) first
    → check ≡ check_observations (setup_of s).width counts observations first
unfolding setup_of
all_from s counts observations first e =
    e ∙ ap (λ (l : List Observation). check_observations s.width counts l first) (take_all (length observations - 0) observations (omega arith))
