-- The calls over a list of observations, put together from their parts. Assumes nothing.
use mathlib.Core.Path.{◌≡◌, refl, ap, subst, ◌∙◌}
use mathlib.Core.List.{List}
use Prim.Native.Nat.{ℕ, ◌-◌}
use lib.ListN.{length, take, drop}
use Rattle.float64.specs.Answer.{Answer, given, refused}
use Rattle.likelihood.specs.declared.population_focei.Observation.{Observation}
use Rattle.subject.specs.Subject.{Evaluating, evaluating, add_observations, Evaluation}
use Rattle.setup.specs.declared.Lent.{Lent}
use Rattle.setup.specs.declared.Parameters.{Parameters}
use Rattle.setup.specs.declared.Setup.{Setup}
use Rattle.search.specs.declared.Step.{Step}
use Rattle.search.specs.declared.Tally.{Tally}
use Rattle.machine.specs.Machine.{Ran, call}
use Rattle.population.specs.Kept.{words}
use Rattle.session.specs.Calls.{held_of, entered, lent_by, finish_reply}
use Rattle.session.specs.Session.{Held, Call, all_checked, enter_objective, enter_failure, objective, reply, failure, session}
use Rattle.session.specs.declared.Admitted.{Admitted}
use Rattle.session.specs.declared.State.{State}
use Rattle.state_words.specs.SessionWords.{loaded_state}
use Rattle.session_calls.proofs.Whole.{objective_call, failure_call, reply_call}
use Rattle.host_calls.specs.Hosting.{Out, did, unknown, with_state, open_with, objective_with, failure_with, admit_with, finish_with, setup_over, call_over}
use Rattle.subject.specs.Observations.{Check}

module _ (setup : Setup) (counts : List ℕ) (observations : List Observation) (tally : Tally) (state answer cache work warm results : List ℕ) where
  -- what the session does from the state s on
  does : Call → State → Out
  does c s = did (call (session words setup counts observations) c (held_of s tally cache work warm results)) state answer

  abbrev none : Out
  none = unknown tally state answer cache work warm results

  same_state : (f g : State → Out) → ((s : State) → f s ≡ g s) → (l : Answer State) → with_state f none l ≡ with_state g none l
  unfolding with_state
  same_state f g h (given s) = h s
  same_state f g h (refused n) = refl

  pub setup_over_lem : {check : Check} {z : Out} → check ≡ all_checked setup counts observations → z ≡ open_with setup counts (length observations) check tally state answer cache work warm results
      → z ≡ setup_over setup counts observations tally state answer cache work warm results
  unfolding setup_over
  setup_over_lem ec q = q ∙ ap (λ (c : Check). open_with setup counts (length observations) c tally state answer cache work warm results) ec

  pub objective_over : (parameters : Parameters) {check : Check} {z : Out} → check ≡ all_checked setup counts observations → z ≡ objective_with setup counts (length observations) check tally state
      answer cache work warm results parameters
      → z ≡ call_over setup counts observations tally state answer cache work warm results (objective parameters)
  unfolding objective_with call_over does
  objective_over parameters {check} ec q =
      q
      ∙ same_state (λ s. did (entered setup counts (enter_objective words setup counts (length observations) check parameters (held_of s tally cache work warm results))) state answer)
      (does (objective parameters))
      (λ s. ap (λ (z : Ran (Held words) Step). did z state answer) (objective_call setup counts observations s tally cache work warm results parameters ec refl)) (loaded_state state)

  pub failure_over : {check : Check} {z : Out} → check ≡ all_checked setup counts observations → z ≡ failure_with setup counts (length observations) check tally state answer cache work warm results
      → z ≡ call_over setup counts observations tally state answer cache work warm results failure
  unfolding failure_with call_over does
  failure_over {check} ec q =
      q
      ∙ same_state (λ s. did (entered setup counts (enter_failure words setup counts (length observations) check (held_of s tally cache work warm results))) state answer) (does failure)
      (λ s. ap (λ (z : Ran (Held words) Step). did z state answer) (failure_call setup counts observations s tally cache work warm results ec refl)) (loaded_state state)

  -- a reply: v are its words, e what its evaluation came to, and w the work words that this has written
  module _ (v : List ℕ) (e : Evaluation) (w : List ℕ) (same : length w ≡ length work) (check : Check) (ec : check ≡ all_checked setup counts observations) where
    abbrev lent : Lent
    lent = lent_by (length observations) (length cache) (length work) (length warm) (length results)

    abbrev Evaluates : Admitted → Type 0
    Evaluates a = evaluating e w ≡ add_observations a.trial v (take (a.to - a.from) (drop a.from observations)) (evaluating a.evaluation work)

    finishes : Admitted → State → Out
    finishes a s = did (finish_reply counts a.awaited e (held_of s tally cache w warm results)) state answer

    reply_at : (l : Answer State) → Evaluates (admit_with setup counts lent check tally v l)
        → with_state (finishes (admit_with setup counts lent check tally v l)) (unknown tally state answer cache w warm results) l ≡ with_state (does (reply v)) none l
    unfolding with_state admit_with finishes does
    reply_at (given s) q =
        ap (λ (z : Ran (Held words) Step). did z state answer) (reply_call setup counts observations s tally cache work warm results v e w same {l = lent} ec refl refl q refl)
    reply_at (refused n) q = ap (λ (x : Evaluating). unknown tally state answer cache x.work warm results) q

    pub reply_over : {l : Lent} {a : Admitted} {z : Out} → l ≡ lent → a ≡ admit_with setup counts l check tally v (loaded_state state) → Evaluates a
        → z ≡ finish_with counts a.awaited e tally state answer cache w warm results → z ≡ call_over setup counts observations tally state answer cache work warm results (reply v)
    unfolding finish_with call_over finishes does
    reply_over {a = a} el ea q z =
        let b = admit_with setup counts lent check tally v (loaded_state state) in
        let eb : a ≡ b = ea ∙ ap (λ (y : Lent). admit_with setup counts y check tally v (loaded_state state)) el in
        z ∙ ap (λ (y : Admitted). with_state (finishes y) (unknown tally state answer cache w warm results) (loaded_state state)) eb ∙ reply_at (loaded_state state) (subst Evaluates eb q)
