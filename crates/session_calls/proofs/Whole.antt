-- The calls over a list of observations, put together from their parts: what the parts answered is the session's call. Assumes nothing.
use Rattle.std.specs.Prelude.{Err, Float, Ok, Option}
use mathlib.Core.Path.{◌≡◌, refl, sym, ap, subst, ◌∙◌}
use mathlib.Core.Bool.{Bool, true, false}
use mathlib.Core.List.{List}
use Prim.Native.Nat.{ℕ, ◌+◌, ◌-◌, ◌≤◌}
use native.Mathlib.Omega.{arith}
use borrow.Author.Tests.{ltb-false}
use lib.Dec.{T, ltb}
use lib.ListN.{length, take, drop}
use lib.Seq.{take_all}
use Rattle.float64.specs.Pick.{cases}
use Rattle.matrix.specs.declared.Pair.{Pair}
use Rattle.likelihood.specs.declared.population_focei.Observation.{Observation}
use Rattle.words.specs.Words.{smaller}
use Rattle.subject.specs.Observations.{first_check, check_observations, Check}
use Rattle.subject.specs.Subject.{Evaluating, evaluating, begin, add_observations, finish, Evaluation}
use Rattle.subject.specs.declared.Trial.{Trial}
use Rattle.words.specs.Words.{zeros}
use Rattle.work.specs.Work.{block}
use Rattle.setup.specs.Admission.{checks, with_parameters, Admission}
use Rattle.setup.specs.declared.Lent.{Lent}
use Rattle.setup.specs.declared.Parameters.{Parameters}
use Rattle.setup.specs.declared.Setup.{Setup}
use Rattle.search.proofs.Fits.{fit_additive}
use Rattle.search.specs.Subjects.{fit_of, idle, refusal}
use Rattle.search.specs.declared.Fit.{Fit}
use Rattle.search.specs.declared.Place.{Place}
use Rattle.search.specs.declared.Place.TheVariants as At
use Rattle.search.specs.declared.Progress.{Progress}
use Rattle.search.specs.declared.Step.{Step}
use Rattle.search.specs.declared.Step.TheVariants.{Refused}
use Rattle.search.specs.declared.Tally.{Tally}
use Rattle.machine.specs.Machine.{Moved, halt, Ran, call}
use Rattle.population.specs.Kept.{words, cache_of, order_rows}
use Rattle.population.specs.Population.{rows_of, whole_of}
use Rattle.session.specs.Calls.{held_of, entered, lent_by, stands, awaited_point, awaited_for, admit_awaited, trial_by, admitted_over, admit_reply, finish_reply}
use Rattle.session.specs.Session.{Held, held, Call, is_placed, is_standing, when_admitted, over, replied, enter_objective, when_awaited, enter_failure, all_checked, evaluated, answered}
use Rattle.session.specs.Session.{enter_reply, enter, objective, reply, failure, session}
use Rattle.session.proofs.Loops.{awaited_fit, own_finish}
use Rattle.session.specs.declared.Admitted.{Admitted}
use Rattle.session.specs.declared.Awaited.{Awaited}
use Rattle.session.specs.declared.State.{State}
use Rattle.session_calls.proofs.Paths.{awaited_enters}
use Rattle.subject.specs.declared.EvaluationError.TheVariants as E
use Rattle.setup.specs.declared.AdmissionError.TheVariants as A
use Rattle.mode.specs.declared.Request.{Request}

-- ---- all of a list, as a loop from its first to its last takes it
all_of : (l : List Observation) → take (length l - 0) (drop 0 l) ≡ l
all_of l = take_all (length l - 0) l (omega arith)

pub whole_check : (setup : Setup) (counts : List ℕ) (observations : List Observation) {first check : Check} → first ≡ first_check → check ≡ check_observations setup.width counts
    (take (length observations - 0) (drop 0 observations)) first
    → check ≡ all_checked setup counts observations
whole_check setup counts observations f e =
    e ∙ (λ i. check_observations setup.width counts (all_of observations i) (f i))

-- ---- a case that cannot be
is_accepted : Admission → Bool
is_accepted (Ok tt) = true
is_accepted (Err (A.Refused n)) = false
is_accepted (Err (A.Unsound at)) = false

never : {X : Type 0} → false ≡ true → X
never e = absurd (subst T (sym e) tt)

refused_never : {X : Type 0} (n : ℕ) → ◌≡◌ {A = Admission} (Err (A.Refused n)) (Ok tt) → X
unfolding is_accepted
refused_never n e = never (ap is_accepted e)

-- ---- where a reply is let in, the subject's observations are among those lent
placed_within : (effects : ℕ) (counts : List ℕ) (n : ℕ) (p : Progress) → is_placed effects counts n p ≡ true → p.first + rows_of counts p.subject ≤ n
unfolding is_placed
placed_within effects counts n p =
    let Fits : Bool → Type 0 = λ b. b ≡ true → p.first + rows_of counts p.subject ≤ n in
    cases Fits (ltb p.subject (length counts))
    (λ _. cases Fits (ltb n (p.first + rows_of counts p.subject)) (λ _ e. never e) (λ f _. ltb-false n (p.first + rows_of counts p.subject) f))
    (λ _ e. never e)

standing_within : (setup : Setup) (counts : List ℕ) (n : ℕ) (tally : Tally) (rows : ℕ) (p : Progress) → is_standing setup counts n tally rows p ≡ true → p.first + rows_of counts p.subject ≤ n
unfolding is_standing
standing_within setup counts n tally rows p =
    let Fits : Bool → Type 0 = λ b. b ≡ true → p.first + rows_of counts p.subject ≤ n in
    cases Fits (ltb setup.k tally.cached_rows.0) (λ _ e. never e) (λ _. cases Fits (ltb setup.k rows) (λ _ e. never e) (λ _ e. placed_within setup.effects counts n p e))

awaited_within : (setup : Setup) (counts : List ℕ) (lent : Lent) (check : Check) (state : State) (tally : Tally) → (admit_awaited setup counts lent check state tally).admission ≡ (Ok tt)
    → state.progress.first + rows_of counts state.progress.subject ≤ lent.observations
unfolding admit_awaited awaited_point awaited_for
awaited_within setup counts lent check state tally =
    let fit = fit_of setup state.parameters in
    let judged = checks (with_parameters setup state.parameters) counts lent check in
    let Fits : Request Pair → Type 0 = λ w. (awaited_for fit judged w).admission ≡ (Ok tt) → state.progress.first + rows_of counts state.progress.subject ≤ lent.observations in
    cases Fits state.progress.awaits
    (λ _. cases Fits (stands setup counts lent.observations state tally) (λ s _. standing_within setup counts lent.observations tally (order_rows state.order) state.progress s)
    (λ _ e. refused_never 19 e))
    (λ _ e. refused_never 19 e)

-- ---- a refusal ends the objective alike, whether the work words are those before the evaluation or after it
module _ (counts : List ℕ) (fit : Fit) (eta : Pair) (state : State) (tally : Tally) (cache work warm results : List ℕ) (w : List ℕ) (same : length w ≡ length work) where
  ends : ℕ → Place → ℕ → Moved (Held words) Step
  ends number place n = halt (Refused (refusal number place)) (held words state.parameters (whole_of words (idle state.progress) tally (cache_of cache state.order) (zeros n) warm results))

  replied_after : (x : Evaluation) → replied words counts fit eta (held_of state tally cache w warm results) w x ≡ replied words counts fit eta (held_of state tally cache work warm results)
      w x
  unfolding replied over ends
  replied_after (Ok sums) = refl
  replied_after (Err (E.Refused number)) = ap (ends number (At.Subject state.progress.subject)) same
  replied_after (Err (E.RefusedAt number n)) = ap (ends number (At.Observation state.progress.subject n)) same

-- ---- the calls. n is the number of the observations, and check what was found of them
module _ (setup : Setup) (counts : List ℕ) (observations : List Observation) (state : State) (tally : Tally) (cache work warm results : List ℕ) where
  abbrev h : Held words
  h = held_of state tally cache work warm results

  abbrev Calls : Call → Ran (Held words) Step → Type 0
  Calls c z = z ≡ call (session words setup counts observations) c h

  pub objective_call : (parameters : Parameters) {check : Check} {z : Ran (Held words) Step} → check ≡ all_checked setup counts observations → z ≡ entered setup counts
      (enter_objective words setup counts (length observations) check parameters h)
      → Calls (objective parameters) z
  unfolding call enter
  objective_call parameters ec q = q ∙ ap (λ (c : Check). entered setup counts (enter_objective words setup counts (length observations) c parameters h)) ec

  pub failure_call : {check : Check} {z : Ran (Held words) Step} → check ≡ all_checked setup counts observations → z ≡ entered setup counts
      (enter_failure words setup counts (length observations) check h) → Calls failure z
  unfolding call enter
  failure_call ec q = q ∙ ap (λ (c : Check). entered setup counts (enter_failure words setup counts (length observations) c h)) ec

  -- a reply: v are its words, e what its evaluation came to, and w the work words that this has written
  module _ (v : List ℕ) (e : Evaluation) (w : List ℕ) (same : length w ≡ length work) where
    abbrev lent : Lent
    lent = lent_by (length observations) (length cache) (length work) (length warm) (length results)

    abbrev after : Held words
    after = held_of state tally cache w warm results

    abbrev fit : Fit
    fit = fit_of setup state.parameters

    abbrev Evaluates : Admitted → Type 0
    Evaluates a = evaluating e w ≡ add_observations a.trial v (take (a.to - a.from) (drop a.from observations)) (evaluating a.evaluation work)

    answers : (eta : Pair) → state.progress.first + rows_of counts state.progress.subject ≤ length observations
        → evaluating e w
        ≡ add_observations (trial_by setup state (rows_of counts state.progress.subject)) v (take (smaller (state.progress.first + rows_of counts state.progress.subject) (length observations) -
        state.progress.first) (drop state.progress.first observations)) (evaluating (begin v setup.width setup.effects setup.output_budget) work)
        → replied words counts fit eta after w (finish e) ≡ answered words setup counts observations v eta h
    unfolding answered
    answers eta within q =
        let rows = rows_of counts state.progress.subject in
        let first = state.progress.first in
        let count : smaller (first + rows) (length observations) - first ≡ rows = omega (arith, within) in
        let trial : Option Float → Trial =
        λ a. record { individual = state.progress.individual; additive_sd = a; width = setup.width; effects = setup.effects; block = block rows 3 } in
        let whole : evaluating e w ≡ evaluated words setup counts observations fit v state.progress work =
        q ∙ (λ i. add_observations (trial (sym (fit_additive setup state.parameters) i)) v (take (count i) (drop first observations))
        (evaluating (begin v setup.width setup.effects setup.output_budget) work)) in
        replied_after counts fit eta state tally cache work warm results w same (finish e)
        ∙ ap (λ (x : Evaluating). replied words counts fit eta h x.work (finish x.evaluation)) whole

    -- by what let it in, or not
    abbrev begins : Awaited → Admission → Admitted
    begins a t =
        let first = state.progress.first in
        let rows = rows_of counts state.progress.subject in
        admitted_over setup (trial_by setup state rows) v a first (smaller (first + rows) (length observations)) t

    finishes : (check : Check) (a : Awaited) (t : Admission) → a ≡ admit_awaited setup counts lent check state tally → a.admission ≡ t → Evaluates (begins a t)
        → when_admitted words after (replied words counts fit a.eta after w (finish e)) t ≡ when_admitted words h (answered words setup counts observations v a.eta h) t
    unfolding admitted_over when_admitted
    finishes check a (Ok tt) ea et q =
        answers a.eta (awaited_within setup counts lent check state tally (ap (λ (x : Awaited). x.admission) (sym ea) ∙ et)) q
    finishes check a (Err (A.Refused number)) ea et q = ap (λ (x : Evaluating). halt (Refused (refusal number At.Nowhere)) (held_of state tally cache x.work warm results)) q
    finishes check a (Err (A.Unsound at)) ea et q = ap (λ (x : Evaluating). halt (Refused (refusal 4 (At.Observation at.subject at.observation))) (held_of state tally cache x.work warm results)) q

    same_awaited : (a : Awaited) (t : Admission) → (begins a t).awaited ≡ a
    unfolding admitted_over
    same_awaited a (Ok tt) = refl
    same_awaited a (Err (A.Refused number)) = refl
    same_awaited a (Err (A.Unsound at)) = refl

    pub reply_call : {check : Check} {l : Lent} {a : Admitted} {z : Ran (Held words) Step} → check ≡ all_checked setup counts observations → l ≡ lent → a ≡ admit_reply setup counts l check state tally v
        → Evaluates a
        → z ≡ finish_reply counts a.awaited e after → Calls (reply v) z
    unfolding call enter enter_reply admit_reply
    reply_call {check} {l} {a} ec el ea q z =
        let x = admit_awaited setup counts lent check state tally in
        let b = begins x x.admission in
        let eb : a ≡ b = ea ∙ ap (λ (y : Lent). admit_reply setup counts y check state tally v) el in
        let ew : a.awaited ≡ x = ap (λ (y : Admitted). y.awaited) eb ∙ same_awaited x x.admission in
        z ∙ ap (λ (y : Awaited). finish_reply counts y e after) ew ∙ own_finish setup counts x e after (awaited_fit setup counts lent check state tally)
        ∙ ap (entered setup counts) (finishes check x x.admission refl refl (subst Evaluates eb q) ∙ sym (awaited_enters setup counts (length observations) check state tally cache work warm results
        (λ eta. answered words setup counts observations v eta h) {lent = lent} refl refl))
        ∙ ap (λ (c : Check). entered setup counts (when_awaited words setup counts (length observations) c h (λ eta. answered words setup counts observations v eta h))) ec
