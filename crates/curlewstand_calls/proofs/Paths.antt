-- What the parts of a call answered, put together. Assumes nothing.
use Rattle.std.specs.Prelude.{Err, None, Ok, Option, Some}
use mathlib.Core.Path.{◌≡◌, refl, ◌∙◌}
use mathlib.Core.Bool.{false}
use mathlib.Core.List.{List, [], ◌∷◌}
use Prim.Native.Nat.{ℕ, ◌-◌}
use lib.ListN.{length, take, drop, length-set}
use Rattle.float64.specs.Pick.{pick_no}
use Rattle.likelihood.specs.declared.population_focei.Observation.{Observation}
use Rattle.subject.specs.Observations.{first_check, check_observations, Check}
use Rattle.subject.specs.Reply.{written}
use Rattle.subject.specs.Subject.{Evaluating, evaluating, add_at, add_to, add_after, add_observation, add_observations, Evaluation}
use Rattle.subject.specs.declared.PredictionRow.{PredictionRow}
use Rattle.subject.specs.declared.Sums.{Sums}
use Rattle.subject.specs.declared.Trial.{Trial}
use Rattle.setup.specs.declared.Lent.{Lent}
use Rattle.setup.specs.declared.Setup.{Setup}
use Rattle.search.specs.declared.Tally.{Tally}
use Rattle.session.specs.Calls.{lent_by}
use Rattle.session.specs.Session.{all_checked, reply}
use Rattle.session.specs.declared.Admitted.{Admitted}
use Rattle.session_calls.proofs.Whole.{whole_check}
use Rattle.state_words.specs.SessionWords.{loaded_state}
use Rattle.host_calls.proofs.Whole.{reply_over}
use Rattle.host_calls.specs.Hosting.{Out, setup_of, admit_with, call_over}
use Rattle.host_calls.specs.SubjectReplies.{admit_for}
use Rattle.host_calls.specs.declared.SessionSetup.{SessionSetup}
use Rattle.observations.specs.Lending.{evaluate_over, replied_over}
use Rattle.subject.specs.declared.EvaluationError.TheVariants.{Refused, RefusedAt}

-- ---- the check of all the observations
pub all_checked_lem : (s : SessionSetup) (counts : List ℕ) (observations : List Observation) {first check : Check} → first ≡ first_check
    → check ≡ check_observations s.width counts (take (length observations - 0) (drop 0 observations)) first
    → check ≡ all_checked (setup_of s) counts observations
unfolding setup_of
all_checked_lem s counts observations f e = whole_check (setup_of s) counts observations f e

-- ---- an evaluation writes its rows, and no words are added to the work words
written_length : (block n : ℕ) (row : PredictionRow) (work : List ℕ) → length (written block n row work) ≡ length work
unfolding written
written_length block n row work = simp length-set

module _ (trial : Trial) (words : List ℕ) where
  row_length_lem : (s : Sums) (o : Observation) (work : List ℕ) (r : Option ℕ) → length (add_at s o trial words work r).work ≡ length work
  unfolding add_at
  row_length_lem s o work (Some at) = written_length _ _ _ work
  row_length_lem s o work None = refl

  one_length : (o : Observation) (work : List ℕ) (e : Evaluation) → length (add_after trial words o work e).work ≡ length work
  unfolding add_after add_to
  one_length o work (Ok s) = row_length_lem s o work _
  one_length o work (Err (Refused n)) = refl
  one_length o work (Err (RefusedAt n i)) = refl

  added_length : (os : List Observation) (x : Evaluating) → length (add_observations trial words os x).work ≡ length x.work
  unfolding add_observation
  added_length [] x = refl
  added_length (o ∷ os) x = added_length os _ ∙ one_length o x.work x.evaluation

-- ---- a reply with all observations is the session's
module _ (setup : Setup) (counts : List ℕ) (observations : List Observation) (tally : Tally)
    (state answer cache work warm results said : List ℕ) where
  abbrev lent : Lent
  lent = lent_by (length observations) (length cache) (length work) (length warm) (length results)

  abbrev admitted : Check → Admitted
  admitted check = admit_for false setup counts lent check tally said (loaded_state state)

  not_alone : (check : Check) → admitted check ≡ admit_with setup counts lent check tally said (loaded_state state)
  unfolding admit_for
  not_alone check = pick_no false _ _ refl

  abbrev ended : Check → Evaluating
  ended check = evaluate_over observations (admitted check) said work

  length_of : (check : Check) → length (ended check).work ≡ length work
  length_of check =
      let a = admitted check in
      added_length a.trial said (take (a.to - a.from) (drop a.from observations)) (evaluating a.evaluation work)

  pub all_replied : {check : Check} {z : Out} → check ≡ all_checked setup counts observations
      → z ≡ replied_over false setup counts observations check tally state answer cache work warm results said
      → z ≡ call_over setup counts observations tally state answer cache work warm results (reply said)
  unfolding replied_over
  all_replied {check = check} ec q =
      reply_over setup counts observations tally state answer cache work warm results said (ended check).evaluation (ended check).work
      (length_of check) check ec refl (not_alone check) refl q
