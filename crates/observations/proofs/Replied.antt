-- What the parts of a reply answered, put together. Assumes nothing.
use mathlib.Core.Path.{◌≡◌, ap, ◌∙◌}
use mathlib.Core.Bool.{Bool}
use mathlib.Core.List.{List}
use Prim.Native.Nat.{ℕ}
use lib.ListN.{length}
use Rattle.likelihood.specs.declared.population_focei.Observation.{Observation}
use Rattle.subject.specs.Subject.{Evaluating, evaluating, Evaluation}
use Rattle.setup.specs.declared.Lent.{Lent}
use Rattle.setup.specs.declared.Setup.{Setup}
use Rattle.search.specs.declared.Tally.{Tally}
use Rattle.session.specs.Calls.{lent_by}
use Rattle.session.specs.declared.Admitted.{Admitted}
use Rattle.state_words.specs.SessionWords.{loaded_state}
use Rattle.host_calls.specs.Hosting.{Out, finish_with}
use Rattle.host_calls.specs.SubjectReplies.{admit_for}
use Rattle.observations.specs.Lending.{evaluate_over, replied_over}
use Rattle.subject.specs.Observations.{Check}

-- a is what was found of the reply, e and w its evaluation with the work words; the state's words are as they were
module _ (alone : Bool) (setup : Setup) (counts : List ℕ) (observations : List Observation) (check : Check) (tally : Tally)
    (state answer cache work warm results reply : List ℕ) where
  abbrev lent : Lent
  lent = lent_by (length observations) (length cache) (length work) (length warm) (length results)

  abbrev finishes : Admitted → Evaluating → Out
  finishes a x = finish_with counts a.awaited x.evaluation tally state answer cache x.work warm results

  pub replied_over_lem : {state' : List ℕ} {a : Admitted} {e : Evaluation} {w : List ℕ} {z : Out} → state' ≡ state
      → a ≡ admit_for alone setup counts lent check tally reply (loaded_state state) → evaluating e w ≡ evaluate_over observations a reply work
      → z ≡ finish_with counts a.awaited e tally state' answer cache w warm results
      → z ≡ replied_over alone setup counts observations check tally state answer cache work warm results reply
  unfolding replied_over
  replied_over_lem {a = a} {e = e} {w = w} es ea ee q =
      q ∙ ap (λ (s : List ℕ). finish_with counts a.awaited e tally s answer cache w warm results) es ∙ ap (finishes a) ee
      ∙ ap (λ (y : Admitted). finishes y (evaluate_over observations y reply work)) ea
