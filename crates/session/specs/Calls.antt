-- The calls as the code has them, over the lent words of the kept evaluations.
use Rattle.std.specs.Prelude.{Bool, List, [], ℕ, ◌+◌, pos, length, Float, Err, None, Ok}
use Rattle.std.specs.Float.{binary64}
use Rattle.std.specs.Float.Ieee.{of_int}
use Rattle.float64.specs.Arithmetic.{◌-ᶠ◌, ◌/ᶠ◌, word, one}
use Rattle.float64.specs.Pick.{pick}
use Rattle.matrix.specs.declared.Pair.{Pair}
use Rattle.words.specs.Words.{smaller}
use Rattle.subject.specs.Observations.{Verdict, Check}
use Rattle.subject.specs.Observations.Verdict.{passes, fails, fails_at}
use Rattle.subject.specs.Subject.{begin, finish, Evaluation}
use Rattle.subject.specs.declared.Trial.{Trial}
use Rattle.work.specs.Work.{block}
use Rattle.setup.specs.Admission.{verdict, checks, with_parameters, Admission}
use Rattle.setup.specs.declared.Lent.{Lent}
use Rattle.setup.specs.declared.Parameters.{Parameters}
use Rattle.setup.specs.declared.Setup.{Setup}
use Rattle.cache.specs.declared.CacheOrder.{CacheOrder}
use Rattle.search.specs.Subjects.{fit_in, fit_of, wanted_by, idle, begin_subject, refusal}
use Rattle.search.specs.declared.Fit.{Fit}
use Rattle.search.specs.declared.Place.TheVariants as At
use Rattle.search.specs.declared.Tally.{Tally}
use Rattle.search.specs.declared.Refusal.{Refusal}
use Rattle.search.specs.declared.Step.{Step}
use Rattle.search.specs.declared.Step.TheVariants.{Refused}
use Rattle.machine.specs.Machine.{Moved, Ran, ran, onward, loop}
use Rattle.population.specs.Kept.{cache_of, order_rows, words}
use Rattle.population.specs.Population.{rows_of, warm_of, whole_of, turn, spent}
use Rattle.session.specs.Session.{Held, held, fuel, is_standing, when_admitted, opened, replied, turn_held}
use Rattle.session.specs.declared.State.{State}
use Rattle.session.specs.declared.Called.{Called}
use Rattle.session.specs.declared.Begun.{Begun}
use Rattle.session.specs.declared.Awaited.{Awaited}
use Rattle.session.specs.declared.Admitted.{Admitted}
use Rattle.subject.specs.declared.EvaluationError.TheVariants as E
use Rattle.setup.specs.declared.AdmissionError.TheVariants as A
use Rattle.mode.specs.declared.Request.{Request}
use Rattle.mode.specs.declared.Request.TheVariants as Wants

-- a state with the tally and the lent words
abbrev pub held_of : State → Tally → List ℕ → List ℕ → List ℕ → List ℕ → Held words
held_of state tally cache work warm results =
    held words state.parameters (whole_of words state.progress tally (cache_of cache state.order) work warm results)

-- what a call gave back, with the words as it left them
abbrev pub called : Called → List ℕ → List ℕ → List ℕ → List ℕ → Ran (Held words) Step
called r cache work warm results = ran r.step (held_of r.state r.tally cache work warm results)

-- the loop over the remaining requests
abbrev pub run : Setup → List ℕ → Held words → Ran (Held words) Step
run setup counts h = loop (turn_held words setup counts) spent fuel h

-- an entry, and then the loop
abbrev pub entered : Setup → List ℕ → Moved (Held words) Step → Ran (Held words) Step
entered setup counts m = onward m (λ h. run setup counts h)

-- the same with what the searches have in common at hand
abbrev pub run_in : Fit → List ℕ → Held words → Ran (Held words) Step
run_in fit counts h =
    let r = loop (turn words fit counts) spent fuel h.whole in
    ran r.answer (held words h.parameters r.state)

abbrev pub entered_in : Fit → List ℕ → Moved (Held words) Step → Ran (Held words) Step
entered_in fit counts m = onward m (λ h. run_in fit counts h)

-- ---- what is lent, and refusals

abbrev pub lent_by : ℕ → ℕ → ℕ → ℕ → ℕ → Lent
lent_by n cache work warm results = record { observations = n; work = work; cache = cache; warm = warm; results = results }

-- one that alters nothing
abbrev pub refused_as : State → Tally → Refusal → Called
refused_as state tally why = record { state = state; tally = tally; step = Refused why }

-- one that ends the objective
abbrev pub ended_as : State → Tally → Refusal → Called
ended_as state tally why =
    record {
      state = record { parameters = state.parameters; progress = idle state.progress; order = state.order };
      tally = tally;
      step = Refused why;
    }

-- ---- setup

abbrev pub state_of : Held words → State
state_of h = record { parameters = h.parameters; progress = h.whole.progress; order = h.whole.kept.order }

-- the state that the session `opened` has; neither the counts nor what is lent are in it
abbrev pub first_state : Setup → State
first_state setup = state_of (opened words setup [] (lent_by 0 0 0 0 0) [])

-- what setup gave back, with the words as it left them
pub record Setting : Type 0 where
  pub begun : Begun
  pub cache : List ℕ
  pub work : List ℕ
  pub warm : List ℕ

abbrev pub begun_with : Begun → List ℕ → List ℕ → List ℕ → Setting
begun_with r cache work warm = record { begun = r; cache = cache; work = work; warm = warm }

-- a session, where 1 to 5 pass; else a refusal that alters nothing
abbrev pub opening_judged : Setup → List ℕ → Lent → Tally → List ℕ → List ℕ → List ℕ → List ℕ → Verdict → Setting
opening_judged setup counts lent tally cache work warm results passes =
    let h = opened words setup counts lent results in
    begun_with (record { opening = Ok (state_of h); tally = h.whole.tally }) h.whole.kept.words h.whole.work
    h.whole.warm
opening_judged setup counts lent tally cache work warm results (fails number) =
    begun_with (record { opening = Err (refusal number At.Nowhere); tally = tally }) cache work warm
opening_judged setup counts lent tally cache work warm results (fails_at number at) =
    let place = At.Observation at.subject at.observation in
    begun_with (record { opening = Err (refusal number place); tally = tally }) cache work warm

unfoldable pub opening : Setup → List ℕ → Lent → Tally → List ℕ → List ℕ → List ℕ → List ℕ → Admission → Setting
opening setup counts lent tally cache work warm results admission =
    opening_judged setup counts lent tally cache work warm results (verdict admission)

unfoldable pub opened_by : Setup → List ℕ → ℕ → Check → Tally → List ℕ → List ℕ → List ℕ → List ℕ → Setting
opened_by setup counts n check tally cache work warm results =
    let lent = lent_by n (length cache) (length work) (length warm) (length results) in
    opening setup counts lent tally cache work warm results (checks setup counts lent check)

-- ---- a new objective

unfoldable pub start_of : Parameters → List ℕ → ℕ → CacheOrder → State
start_of parameters warm effects order = record {
  parameters = parameters;
  progress = begin_subject effects 0 0 (warm_of warm effects 0) (word 0) (word 0);
  order = order;
}

-- 19, of a state with so many observations lent
abbrev pub stands : Setup → List ℕ → ℕ → State → Tally → Bool
stands setup counts n state tally = is_standing setup counts n tally (order_rows state.order) state.progress

unfoldable pub admit_objective : Setup → List ℕ → Lent → Check → Parameters → State → Tally → Admission
admit_objective setup counts lent check parameters state tally =
    pick state.progress.awaits (Err (A.Refused 19))
    (pick (stands setup counts lent.observations state tally) (checks (with_parameters setup parameters) counts lent check)
    (Err (A.Refused 19)))

-- ---- a reply, and its failure

-- 19: a reply is awaited, and the positions are within the subjects, n observations and the search's limits; then what the search wants
unfoldable pub awaited_point : Setup → List ℕ → ℕ → Fit → State → Tally → Request Pair
awaited_point setup counts n fit state tally =
    pick state.progress.awaits
    (pick (stands setup counts n state tally) (wanted_by fit state.progress) (Wants.Refused 19))
    (Wants.Refused 19)

abbrev pub unawaited : Fit → Awaited
unawaited fit = record { admission = Err (A.Refused 19); eta = record { first = word 0; second = word 0 }; fit = fit }

-- what the checks of what is lent found, where a point is wanted; else 19
unfoldable pub awaited_for : Fit → Admission → Request Pair → Awaited
awaited_for fit admission (Wants.Point eta) = record { admission = admission; eta = eta; fit = fit }
awaited_for fit admission Wants.Mode = unawaited fit
awaited_for fit admission (Wants.Refused number) = unawaited fit

unfoldable pub admit_awaited : Setup → List ℕ → Lent → Check → State → Tally → Awaited
admit_awaited setup counts lent check state tally =
    let fit = fit_of setup state.parameters in
    awaited_for fit (checks (with_parameters setup state.parameters) counts lent check)
    (awaited_point setup counts lent.observations fit state tally)

abbrev pub trial_by : Setup → State → ℕ → Trial
trial_by setup state rows = record {
  individual = state.progress.individual;
  additive_sd = state.parameters.additive_sd;
  width = setup.width;
  effects = setup.effects;
  block = block rows 3;
}

-- no observation is added
abbrev pub nothing_admitted : Awaited → Trial → ℕ → Admitted
nothing_admitted awaited trial number = record { awaited = awaited; from = 0; to = 0; evaluation = Err (E.Refused number); trial = trial }

-- a reply where the lent words are no state
abbrev pub unadmitted : Setup → Admitted
unadmitted setup =
    let zero : Pair = record { first = word 0; second = word 0 } in
    nothing_admitted (unawaited (fit_in setup zero))
    (record { individual = zero; additive_sd = None; width = 0; effects = 0; block = 0 }) 19

-- what is begun with a reply that is accepted, over the observations lent from number `from` up to, but without, `to`
abbrev pub judged_over : Setup → Trial → List ℕ → Awaited → ℕ → ℕ → Verdict → Admitted
judged_over setup trial reply awaited from to passes =
    record {
      awaited = awaited;
      from = from;
      to = to;
      evaluation = begin reply setup.width setup.effects setup.output_budget;
      trial = trial;
    }
judged_over setup trial reply awaited from to (fails number) = nothing_admitted awaited trial number
judged_over setup trial reply awaited from to (fails_at number at) = nothing_admitted awaited trial number

unfoldable pub admitted_over : Setup → Trial → List ℕ → Awaited → ℕ → ℕ → Admission → Admitted
admitted_over setup trial reply awaited from to admission = judged_over setup trial reply awaited from to (verdict admission)

unfoldable pub admit_reply : Setup → List ℕ → Lent → Check → State → Tally → List ℕ → Admitted
admit_reply setup counts lent check state tally reply =
    let awaited = admit_awaited setup counts lent check state tally in
    let first = state.progress.first in
    let rows = rows_of counts state.progress.subject in
    admitted_over setup (trial_by setup state rows) reply awaited first (smaller (first + rows) lent.observations) awaited.admission

-- the end of the evaluation at eta, with the work words that it has written, and then the loop
unfoldable pub followed : Fit → List ℕ → Pair → Evaluation → Held words → Ran (Held words) Step
followed fit counts eta e h = entered_in fit counts (replied words counts fit eta h h.whole.work (finish e))

unfoldable pub finish_reply : List ℕ → Awaited → Evaluation → Held words → Ran (Held words) Step
finish_reply counts awaited e h =
    entered_in awaited.fit counts
    (when_admitted words h (replied words counts awaited.fit awaited.eta h h.whole.work (finish e)) awaited.admission)

-- ---- a finished objective, with one effect

unfoldable pub shrinkage : State → ℕ → Float
shrinkage state n = one -ᶠ state.progress.eta_squares /ᶠ of_int binary64 (pos n) /ᶠ state.parameters.omega
