-- The ways through the code: one law for each, over plain variables. Assumes nothing.
use Rattle.std.specs.Prelude.{Err, None, Ok, Some}
use mathlib.Core.Path.{◌≡◌, refl, sym, ap, ◌∙◌}
use mathlib.Core.Bool.{Bool}
use mathlib.Core.List.{List}
use Prim.Native.Nat.{ℕ}
use lib.ListN.{length}
use Rattle.float64.specs.Pick.{pick, pick_through}
use Rattle.matrix.specs.declared.Pair.{Pair}
use Rattle.subject.specs.Subject.{finish, Evaluation}
use Rattle.subject.specs.declared.Sums.{Sums}
use Rattle.words.specs.Words.{zeros}
use Rattle.setup.specs.Admission.{checks, with_parameters, Admission}
use Rattle.setup.specs.declared.Lent.{Lent}
use Rattle.setup.specs.declared.Parameters.{Parameters}
use Rattle.setup.specs.declared.Setup.{Setup}
use Rattle.search.specs.Subjects.{fit_of, wanted_by, refused_by, refusal}
use Rattle.search.specs.declared.Fit.{Fit}
use Rattle.search.specs.declared.Halted.{Halted}
use Rattle.search.specs.declared.Place.{Place}
use Rattle.search.specs.declared.Place.TheVariants as At
use Rattle.search.specs.declared.Progress.{Progress}
use Rattle.search.specs.declared.Step.{Step}
use Rattle.search.specs.declared.Step.TheVariants.{Refused}
use Rattle.search.specs.declared.Tally.{Tally}
use Rattle.search.proofs.Fits.{fit_effects}
use Rattle.machine.specs.Machine.{Moved, on, Ran, ran, onward, loop}
use Rattle.population.specs.Kept.{words, cache_of}
use Rattle.population.specs.Population.{Whole, whole, turn, spent, receive}
use Rattle.population.specs.Answers.{KeptWith, kept_with, keep}
use Rattle.population.specs.declared.answers.Kept.{Kept}
use Rattle.population.specs.Through.{taken}
use Rattle.population.specs.Steps.{whole_from}
use Rattle.population.proofs.StepsPaths.{begun_own}
use Rattle.session.specs.Calls.{held_of, called, run_in, entered, entered_in, lent_by, refused_as, ended_as, first_state, Setting, begun_with, opening, opened_by, start_of, stands, admit_objective}
use Rattle.session.specs.Calls.{awaited_point, awaited_for, admit_awaited, followed, finish_reply}
use Rattle.session.specs.Session.{Held, held, fuel, no_tally, lent_of, when_admitted, begun, admitted, enter_objective, at_wanted, when_awaited, enter_failure, over, replied, unaltered}
use Rattle.session.proofs.Loops.{run_held}
use Rattle.session.specs.declared.Awaited.{Awaited}
use Rattle.session.specs.declared.Called.{Called}
use Rattle.session.specs.declared.State.{State}
use Rattle.subject.specs.declared.EvaluationError.TheVariants as E
use Rattle.setup.specs.declared.AdmissionError.{AdmissionError}
use Rattle.setup.specs.declared.AdmissionError.TheVariants as A
use Rattle.search.specs.declared.Refusal.{Refusal}
use Rattle.session_calls.specs.Refusals.{refusal_of, refused_by_verdict}
use Rattle.subject.specs.Observations.{Check}
use Rattle.mode.specs.declared.Request.{Request}
use Rattle.mode.specs.declared.Request.TheVariants as Wants

-- the loop as the code's step has it
pub ran_in : (fit : Fit) (counts : List ℕ) (parameters : Parameters) (w : Whole words) {r : Ran (Whole words) Step} → r ≡ loop (turn words fit counts) spent fuel w
    → ran r.answer (held words parameters r.state) ≡ run_in fit counts (held words parameters w)
ran_in fit counts parameters w = ap (λ (z : Ran (Whole words) Step). ran z.answer (held words parameters z.state))

-- ---- a refusal that ends the objective; h is what `refused` answered
pub ended_made : (state : State) (tally : Tally) (why : Refusal) {h : Halted} → h ≡ refused_by state.progress tally why
    → record { state = record { parameters = state.parameters; progress = h.progress; order = state.order }; tally = tally; step = h.step } ≡ ended_as state tally why
unfolding refused_by
ended_made state tally why e =
    ap (λ (h : Halted). record { state = record { parameters = state.parameters; progress = h.progress; order = state.order }; tally = tally; step = h.step }) e

-- ---- setup; a is what `checks` answered
module _ (setup : Setup) (counts : List ℕ) (n : ℕ) (check : Check) (tally : Tally) (cache work warm results : List ℕ) {lent : Lent} {a : Admission}
    (el : lent ≡ lent_by n (length cache) (length work) (length warm) (length results)) (ea : a ≡ checks setup counts lent check) where
  abbrev Set : Setting → Type 0
  Set r = r ≡ opened_by setup counts n check tally cache work warm results

  opening_by : {v : Admission} {r : Setting} → a ≡ v → r ≡ opening setup counts (lent_by n (length cache) (length work) (length warm) (length results)) tally cache work warm results v → Set r
  unfolding opened_by
  opening_by t q =
      q ∙ ap (opening setup counts (lent_by n (length cache) (length work) (length warm) (length results)) tally cache work warm results)
      (sym t ∙ ea ∙ ap (λ (l : Lent). checks setup counts l check) el)

  pub setup_opens : {c w m : List ℕ} {s : State} → a ≡ (Ok tt) → c ≡ zeros (length cache) → w ≡ zeros (length work) → m ≡ zeros (length warm) → s ≡ first_state setup
      → Set (begun_with (record { opening = Ok s; tally = no_tally }) c w m)
  unfolding opening
  setup_opens t ec ew em es = opening_by t (λ i. begun_with (record { opening = Ok (es i); tally = no_tally }) (ec i) (ew i) (em i))

  refused_opening : (error : AdmissionError) → begun_with (record { opening = Err (refusal_of error); tally = tally }) cache work warm
      ≡ opening setup counts (lent_by n (length cache) (length work) (length warm) (length results)) tally cache work warm results (Err error)
  unfolding opening refusal_of refused_by_verdict
  refused_opening (A.Refused number) = refl
  refused_opening (A.Unsound at) = refl

  pub setup_refused : {error : AdmissionError} {r : Refusal} → a ≡ Err error → r ≡ refusal_of error → Set (begun_with (record { opening = Err r; tally = tally }) cache work warm)
  setup_refused {error} t e =
      opening_by t (ap (λ (r : Refusal). begun_with (record { opening = Err r; tally = tally }) cache work warm) e ∙ refused_opening error)

-- ---- what goes into both cases goes into the one picked
through_pick : {X Y : Type 0} (f : X → Y) (b : Bool) (x y : X) → pick b (f x) (f y) ≡ f (pick b x y)
through_pick f b x y = sym (pick_through f b (λ _. refl) refl)

-- a refusal of the checks, before anything is altered
refused_onward : (f : Held words → Ran (Held words) Step) (h : Held words) (go : Moved (Held words) Step) (error : AdmissionError)
    → ran (Refused (refusal_of error)) h ≡ onward (when_admitted words h go (Err error)) f
unfolding when_admitted onward refusal_of refused_by_verdict
refused_onward f h go (A.Refused number) = refl
refused_onward f h go (A.Unsound at) = refl

-- ---- what is let in goes on, and what is not is refused: go is what the call does, a what let it in, or not, and f the loop
module _ (f : Held words → Ran (Held words) Step) (h : Held words) (go : Moved (Held words) Step) {a : Admission} {m : Moved (Held words) Step} (em : m ≡ when_admitted words h go a) where
  admitted_by : {v : Admission} {z : Ran (Held words) Step} → a ≡ v → z ≡ onward (when_admitted words h go v) f → z ≡ onward m f
  admitted_by t q = q ∙ ap (λ (x : Admission). onward (when_admitted words h go x) f) (sym t) ∙ ap (λ (x : Moved (Held words) Step). onward x f) (sym em)

  pub lets_in : {z : Ran (Held words) Step} → a ≡ (Ok tt) → z ≡ onward go f → z ≡ onward m f
  unfolding when_admitted
  lets_in t q = admitted_by t q

  pub keeps_out : {error : AdmissionError} → a ≡ Err error → ran (Refused (refusal_of error)) h ≡ onward m f
  keeps_out {error} t = admitted_by t (refused_onward f h go error)

-- a refusal that alters nothing, as the code makes it
pub refused_called : (state : State) (tally : Tally) (why : Refusal) (cache work warm results : List ℕ) {r : Called} {z : Ran
    (Held words) Step} → r ≡ refused_as state tally why
    → ran (Refused why) (held_of state tally cache work warm results) ≡ z → called r cache work warm results ≡ z
refused_called state tally why cache work warm results e q = ap (λ (x : Called). called x cache work warm results) e ∙ q

-- ---- a new objective; a is what `admit_objective` answered
module _ (setup : Setup) (counts : List ℕ) (n : ℕ) (check : Check) (parameters : Parameters) (state : State) (tally : Tally) (cache work warm results : List ℕ) where
  abbrev h : Held words
  h = held_of state tally cache work warm results

  enters : enter_objective words setup counts n check parameters h
      ≡ when_admitted words h (on (begun words setup counts parameters h.whole)) (admit_objective setup counts (lent_of words setup n h.whole) check parameters state tally)
  unfolding enter_objective admit_objective admitted when_admitted
  enters =
      let f : Admission → Moved (Held words) Step = when_admitted words h (on (begun words setup counts parameters h.whole)) in
      let checked = checks (with_parameters setup parameters) counts (lent_of words setup n h.whole) check in
      let standing = stands setup counts n state tally in
      ap (pick state.progress.awaits (unaltered words 19 At.Nowhere h)) (through_pick f standing checked (Err (A.Refused 19)))
      ∙ through_pick f state.progress.awaits (Err (A.Refused 19)) (pick standing checked (Err (A.Refused 19)))

  pub objective_enters : {lent : Lent} {a : Admission} → lent ≡ lent_by n (length cache) (length work) (length warm) (length results) → a ≡ admit_objective setup counts lent check parameters
      state tally
      → enter_objective words setup counts n check parameters h ≡ when_admitted words h (on (begun words setup counts parameters h.whole)) a
  objective_enters el ea =
      enters ∙ ap (when_admitted words h (on (begun words setup counts parameters h.whole))) (sym
      (ea ∙ ap (λ (l : Lent). admit_objective setup counts l check parameters state tally) el))

  -- the start, as the code makes it, with nothing in hand
  pub objective_starts : {s : State} {fit : Fit} {z : Ran (Held words) Step} → fit ≡ fit_of setup parameters → s ≡ start_of parameters warm setup.effects state.order
      → z ≡ run_in fit counts (held words s.parameters (whole_from fit counts None s.progress tally (cache_of cache s.order) work warm results))
      → z ≡ entered setup counts (on (begun words setup counts parameters h.whole))
  unfolding begun start_of onward taken
  objective_starts ef es q =
      q
      ∙ (λ i. run_in (ef i) counts (held words (es i).parameters (whole_from (ef i) counts None (es i).progress tally (cache_of cache (es i).order) work warm results)))
      ∙ ap (λ (p : Progress). run_in (fit_of setup parameters) counts (held words parameters (whole p tally (cache_of cache state.order) work warm results)))
      (sym (begun_own (fit_of setup parameters) setup.effects _ _ _ _ _ (fit_effects setup parameters)))
      ∙ sym (run_held setup counts parameters (begun words setup counts parameters h.whole).whole)

-- ---- a reply or a failure is let in; go is what it does with the point that was asked for
module _ (setup : Setup) (counts : List ℕ) (n : ℕ) (check : Check) (state : State) (tally : Tally) (cache work warm results : List ℕ) (go : Pair → Moved (Held words) Step) where
  abbrev at : Held words
  at = held_of state tally cache work warm results

  abbrev lent_here : Lent
  lent_here = lent_by n (length cache) (length work) (length warm) (length results)

  goes : Awaited → Moved (Held words) Step
  goes a = when_admitted words at (go a.eta) a.admission

  abbrev fit : Fit
  fit = fit_of setup state.parameters

  abbrev goes_for : Request Pair → Moved (Held words) Step
  goes_for w = goes (awaited_for fit (checks (with_parameters setup state.parameters) counts lent_here check) w)

  wanted_goes : (w : Request Pair) → at_wanted words setup counts n check at go w ≡ goes_for w
  unfolding at_wanted awaited_for goes admitted when_admitted
  wanted_goes (Wants.Point eta) = refl
  wanted_goes Wants.Mode = refl
  wanted_goes (Wants.Refused number) = refl

  all_goes : when_awaited words setup counts n check at go ≡ goes (admit_awaited setup counts lent_here check state tally)
  unfolding when_awaited admit_awaited awaited_point awaited_for goes when_admitted
  all_goes =
      let w = wanted_by fit state.progress in
      let standing = stands setup counts n state tally in
      let out = unaltered words 19 At.Nowhere at in
      ap (λ (m : Moved (Held words) Step). pick state.progress.awaits (pick standing m out) out) (wanted_goes w)
      ∙ ap (λ (m : Moved (Held words) Step). pick state.progress.awaits m out) (through_pick goes_for standing w (Wants.Refused 19))
      ∙ through_pick goes_for state.progress.awaits (pick standing w (Wants.Refused 19)) (Wants.Refused 19)

  pub awaited_enters : {a : Awaited} {lent : Lent} → lent ≡ lent_here → a ≡ admit_awaited setup counts lent check state tally → when_awaited words setup counts n check at go ≡ when_admitted
      words at (go a.eta) a.admission
  unfolding goes
  awaited_enters el ea = all_goes ∙ ap goes (sym (ea ∙ ap (λ (l : Lent). admit_awaited setup counts l check state tally) el))

-- ---- the failure: 8
module _ (setup : Setup) (counts : List ℕ) (n : ℕ) (check : Check) (state : State) (tally : Tally) (cache work warm results : List ℕ) where
  pub failure_enters : {a : Awaited} {lent : Lent} → lent ≡ lent_by n (length cache) (length work) (length warm) (length results) → a ≡ admit_awaited setup counts lent check state tally
      → enter_failure words setup counts n check (held_of state tally cache work warm results)
      ≡ when_admitted words (held_of state tally cache work warm results) (over words 8 (At.Subject state.progress.subject) (held_of state tally cache work warm results))
      a.admission
  unfolding enter_failure
  failure_enters el ea = awaited_enters setup counts n check state tally cache work warm results (λ eta. over words 8 (At.Subject state.progress.subject)
      (held_of state tally cache work warm results)) el ea

-- an end, as the code makes it; w is the work words afterwards, and f the loop
pub ended_called : (f : Held words → Ran (Held words) Step) (state : State) (tally : Tally) (number : ℕ) (place : Place) (cache work warm results : List ℕ) {r : Called} {w : List ℕ}
    → r ≡ ended_as state tally (refusal number place) → w ≡ zeros (length work)
    → called r cache w warm results ≡ onward (over words number place (held_of state tally cache work warm results)) f
unfolding over onward
ended_called f state tally number place cache work warm results e q = λ i. called (e i) cache (q i) warm results

-- ---- the end of an evaluation; x is what `finish` answered
module _ (fit : Fit) (counts : List ℕ) (eta : Pair) (e : Evaluation) (state : State) (tally : Tally) (cache work warm results : List ℕ) {x : Evaluation} (ex : x ≡ finish e) where
  abbrev here : Held words
  here = held_of state tally cache work warm results

  abbrev Follows : Ran (Held words) Step → Type 0
  Follows z = z ≡ followed fit counts eta e here

  follows_by : {v : Evaluation} {z : Ran (Held words) Step} → x ≡ v → z ≡ entered_in fit counts (replied words counts fit eta here work v) → Follows z
  unfolding followed
  follows_by t q = q ∙ ap (λ (y : Evaluation). entered_in fit counts (replied words counts fit eta here work y)) (sym t ∙ ex)

  -- k and c are the kept evaluations with the reply, which is in hand then
  pub follows_sums : {sums : Sums} (k : Kept) {c : List ℕ} {z : Ran (Held words) Step} → x ≡ Ok sums
      → kept_with k c ≡ keep fit counts state.progress.subject tally eta sums (cache_of cache state.order) work
      → z ≡ run_in fit counts (held words state.parameters (whole_from fit counts (Some (record { eta = eta; sums = sums })) state.progress k.tally (cache_of c k.order) work warm results))
      → Follows z
  unfolding replied onward receive keep taken
  follows_sums {sums} k t ek q =
      follows_by t
      (q
      ∙ ap (λ (y : KeptWith). run_in fit counts (held words state.parameters (whole_from fit counts (Some (record { eta = eta; sums = sums })) state.progress y.tally y.kept work warm results))) ek)

  pub follows_refusal : {number : ℕ} {r : Called} {w : List ℕ} → x ≡ Err (E.Refused number) → (r ≡ ended_as state tally (refusal number (At.Subject state.progress.subject))) × (w ≡ zeros
      (length work)) → Follows
      (called r cache w warm results)
  unfolding replied
  follows_refusal {number} t (er, ew) = follows_by t (ended_called _ state tally number _ cache work warm results er ew)

  pub follows_refusal_at : {number n : ℕ} {r : Called} {w : List ℕ} → x ≡ Err (E.RefusedAt number n) → (r ≡ ended_as state tally (refusal number (At.Observation state.progress.subject n))) ×
      (w ≡ zeros (length work)) → Follows (called r cache w warm results)
  unfolding replied
  follows_refusal_at {number} t (er, ew) = follows_by t (ended_called _ state tally number _ cache work warm results er ew)

-- ---- the second part of a reply
module _ (counts : List ℕ) (a : Awaited) (e : Evaluation) (h : Held words) where
  pub finish_enters : entered_in a.fit counts (when_admitted words h (replied words counts a.fit a.eta h h.whole.work (finish e)) a.admission) ≡ finish_reply counts a e h
  unfolding finish_reply
  finish_enters = refl

  pub finish_follows : {z : Ran (Held words) Step} → a.admission ≡ (Ok tt) → z ≡ followed a.fit counts a.eta e h → z ≡ finish_reply counts a e h
  unfolding followed
  finish_follows t q = lets_in (λ x. run_in a.fit counts x) h _ refl t q ∙ finish_enters
