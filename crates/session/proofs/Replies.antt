-- The parts of a reply's admission, over plain values, put together. Assumes nothing.
use mathlib.Core.Path.{◌≡◌, ap, ◌∙◌}
use mathlib.Core.List.{List}
use Prim.Native.Nat.{ℕ, ◌+◌}
use Rattle.words.specs.Words.{smaller}
use Rattle.subject.specs.declared.Trial.{Trial}
use Rattle.setup.specs.Admission.{checks, with_parameters, Admission}
use Rattle.setup.specs.declared.Lent.{Lent}
use Rattle.setup.specs.declared.Setup.{Setup}
use Rattle.setup.specs.SubjectChecks.{subject_checks}
use Rattle.search.proofs.Fits.{own_fit}
use Rattle.search.specs.Subjects.{fit_in, fit_of}
use Rattle.search.specs.declared.Fit.{Fit}
use Rattle.search.specs.declared.Tally.{Tally}
use Rattle.population.specs.Population.{rows_of}
use Rattle.session.specs.Calls.{awaited_point, awaited_for, admit_awaited, trial_by, admitted_over, admit_reply}
use Rattle.session.specs.declared.Admitted.{Admitted}
use Rattle.session.specs.declared.Awaited.{Awaited}
use Rattle.session.specs.declared.State.{State}
use Rattle.session.specs.SubjectReply.{subject_awaited, admit_subject_reply}
use Rattle.subject.specs.Observations.{Check}
use Rattle.mode.specs.declared.Request.{Request}
use Rattle.matrix.specs.declared.Pair.{Pair}

-- ---- what is awaited, by the setup of the objective: own is the code's, and judged what its checks are of it
module _ (setup : Setup) (state : State) {own : Setup} {fit : Fit} (eo : own ≡ with_parameters setup state.parameters) (ef : fit ≡ fit_in own state.parameters.theta) where
  awaited_own : (wants : Fit → Request Pair) (judged : Setup → Admission) {wanted : Request Pair} {a : Admission} {r : Awaited} → wanted ≡ wants fit → a ≡ judged own → r ≡ awaited_for fit a wanted
      → r ≡ awaited_for (fit_of setup state.parameters) (judged (with_parameters setup state.parameters)) (wants (fit_of setup state.parameters))
  awaited_own wants judged w d e =
      let f : fit ≡ fit_of setup state.parameters = own_fit setup state.parameters eo ef in
      e ∙ (λ i. awaited_for (f i) ((d ∙ ap judged eo) i) ((w ∙ ap wants f) i))

  module _ (counts : List ℕ) (lent : Lent) (check : Check) (tally : Tally) {wanted : Request Pair} {a : Admission} {r : Awaited} where
    pub awaited_by : wanted ≡ awaited_point setup counts lent.observations fit state tally → a ≡ checks own counts lent check → r ≡ awaited_for fit a wanted
        → r ≡ admit_awaited setup counts lent check state tally
    unfolding admit_awaited
    awaited_by w d e = awaited_own (λ f. awaited_point setup counts lent.observations f state tally) (λ s. checks s counts lent check) w d e

    pub subject_awaited_lem : wanted ≡ awaited_point setup counts 100000 fit state tally → a ≡ subject_checks own counts state.progress.subject lent check → r ≡ awaited_for fit a wanted
        → r ≡ subject_awaited setup counts lent check state tally
    unfolding subject_awaited
    subject_awaited_lem w d e =
        awaited_own (λ f. awaited_point setup counts 100000 f state tally) (λ s. subject_checks s counts state.progress.subject lent check) w d e

-- ---- a reply's first part, with all observations lent, and with one subject's; w is what is awaited
module _ (setup : Setup) (counts : List ℕ) (lent : Lent) (check : Check) (state : State) (tally : Tally) (reply : List ℕ) {rows : ℕ} {trial : Trial}
    (er : rows ≡ rows_of counts state.progress.subject) (et : trial ≡ trial_by setup state rows) where
  abbrev own_trial : trial ≡ trial_by setup state (rows_of counts state.progress.subject)
  own_trial = et ∙ ap (trial_by setup state) er

  pub whole_reply : {w : Awaited} {to : ℕ} {r : Admitted} → w ≡ admit_awaited setup counts lent check state tally → to ≡ smaller (state.progress.first + rows) lent.observations → r ≡ admitted_over
      setup trial reply w state.progress.first to w.admission
      → r ≡ admit_reply setup counts lent check state tally reply
  unfolding admit_reply
  whole_reply ew l e =
      e
      ∙ (λ i. admitted_over setup (own_trial i) reply (ew i) state.progress.first ((l ∙ ap (λ (n : ℕ). smaller (state.progress.first + n) lent.observations) er) i) (ew i).admission)

  pub subject_reply : {w : Awaited} {r : Admitted} → w ≡ subject_awaited setup counts lent check state tally → r ≡ admitted_over setup trial reply w 0 lent.observations w.admission
      → r ≡ admit_subject_reply setup counts lent check state tally reply
  unfolding admit_subject_reply
  subject_reply ew e = e ∙ (λ i. admitted_over setup (own_trial i) reply (ew i) 0 lent.observations (ew i).admission)
