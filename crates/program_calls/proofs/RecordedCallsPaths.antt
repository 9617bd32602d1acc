-- The calls over observations in words, put together from their parts. Assumes nothing.
use mathlib.Core.Path.{◌≡◌, ap, ◌∙◌}
use mathlib.Core.List.{List}
use Prim.Native.Nat.{ℕ, ◌-◌}
use lib.ListN.{length, take, drop}
use Rattle.subject.specs.Subject.{evaluating, add_observations, Evaluation}
use Rattle.setup.specs.declared.Lent.{Lent}
use Rattle.setup.specs.declared.Parameters.{Parameters}
use Rattle.setup.specs.declared.Setup.{Setup}
use Rattle.search.specs.declared.Step.{Step}
use Rattle.search.specs.declared.Tally.{Tally}
use Rattle.machine.specs.Machine.{Ran}
use Rattle.population.specs.Kept.{words}
use Rattle.session.specs.Calls.{held_of, entered, lent_by, Setting, opened_by, admit_reply, finish_reply}
use Rattle.session.specs.Session.{Held, objective, failure, all_checked, enter_objective, enter_failure}
use Rattle.session.specs.declared.Admitted.{Admitted}
use Rattle.session.specs.declared.State.{State}
use Rattle.session_calls.proofs.Whole.{objective_call, failure_call, reply_call}
use Rattle.program_calls.specs.Recorded.{observations_of, call_of, reply_of, open_of}
use Rattle.subject.specs.Observations.{Check}

-- ---- a session's calls; n is the number of the observations, and check what was found of them

pub opens : (setup : Setup) (counts o : List ℕ) (tally : Tally) (cache work warm results : List ℕ) {check : Check} {n : ℕ} {z : Setting} → check ≡ all_checked setup counts (observations_of o) → n ≡
    length (observations_of o) → z ≡ opened_by setup counts n check tally cache work warm results
    → z ≡ open_of setup counts o tally cache work warm results
opens setup counts o tally cache work warm results ec en q = q ∙ (λ i. opened_by setup counts (en i) (ec i) tally cache work warm results)

module _ (setup : Setup) (counts o : List ℕ) (state : State) (tally : Tally) (cache work warm results : List ℕ) where
  abbrev h : Held words
  h = held_of state tally cache work warm results

  module _ {check : Check} {n : ℕ} (ec : check ≡ all_checked setup counts (observations_of o)) (en : n ≡ length (observations_of o)) where
    pub begins : (parameters : Parameters) {z : Ran (Held words) Step} → z ≡ entered setup counts (enter_objective words setup counts n check parameters h) → z ≡ call_of setup counts o
        (objective parameters) h
    begins parameters q =
        objective_call setup counts (observations_of o) state tally cache work warm results parameters ec
        (q ∙ ap (λ (m : ℕ). entered setup counts (enter_objective words setup counts m check parameters h)) en)

    pub fails : {z : Ran (Held words) Step} → z ≡ entered setup counts (enter_failure words setup counts n check h) → z ≡ call_of setup counts o failure h
    fails q =
        failure_call setup counts (observations_of o) state tally cache work warm results ec
        (q ∙ ap (λ (m : ℕ). entered setup counts (enter_failure words setup counts m check h)) en)

    -- v are the words of the reply, e what its evaluation came to, and w the work words that this has written
    pub replies : (v : List ℕ) (e : Evaluation) (w : List ℕ) → length w ≡ length work → {l : Lent} {a : Admitted} {z : Ran (Held words) Step} → l ≡ lent_by n (length cache) (length work) (length warm)
        (length results) → a ≡ admit_reply setup counts l check state tally v
        → evaluating e w ≡ add_observations a.trial v (take (a.to - a.from) (drop a.from (observations_of o))) (evaluating a.evaluation work)
        → z ≡ finish_reply counts a.awaited e (held_of state tally cache w warm results) → z ≡ call_of setup counts o (reply_of v) h
    replies v e w same el ea ee q =
        reply_call setup counts (observations_of o) state tally cache work warm results v e w same ec
        (el ∙ ap (λ (m : ℕ). lent_by m (length cache) (length work) (length warm) (length results)) en)
        ea ee q
