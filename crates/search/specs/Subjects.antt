-- One subject's search within an objective, by value, with one effect or two.
use Rattle.std.specs.Prelude.{Bool, true, false, List, ℕ, ◌+◌, ltb, eqb, pos, Float, None, Option, Some}
use Rattle.std.specs.Float.{binary64}
use Rattle.std.specs.Float.Ieee.{to_bits, of_int, le, lt}
use Rattle.float64.specs.Answer.{Answer, given, refused}
use Rattle.float64.specs.Arithmetic.{◌+ᶠ◌, ◌-ᶠ◌, ◌*ᶠ◌, ◌/ᶠ◌, word, one, two}
use Rattle.float64.specs.Float64.{nonfinite}
use Rattle.float64.specs.Pick.{pick}
use Rattle.libm.specs.Log.{log}
use Rattle.matrix.specs.Matrix.{pair, array_of, matrix_of, Inverse, some, none, inverse_positive, product, dot}
use Rattle.matrix.specs.declared.Pair.{Pair}
use Rattle.likelihood.specs.Terms.{log2pi}
use Rattle.mode.specs.Rules.{eta_tolerance, request, advance, start, is_above, is_under, is_closer}
use Rattle.mode.specs.declared.population_focei.Settings.{Settings}
use Rattle.mode.specs.declared.population_focei.Conditional.{Conditional}
use Rattle.mode.specs.declared.population_focei.Stage.{Stage}
use Rattle.mode.specs.declared.population_focei.Stage.TheVariants.{Grid, Warm, Secant, Halving}
use Rattle.mode.specs.declared.population_focei.Search.{Search}
use Rattle.mode_2d.specs.Rules as R2
use Rattle.mode_2d.specs.declared.population_focei_2d.Settings2.{Settings2}
use Rattle.mode_2d.specs.declared.population_focei_2d.Conditional2.{Conditional2}
use Rattle.mode_2d.specs.declared.population_focei_2d.Stage2.{Stage2}
use Rattle.mode_2d.specs.declared.population_focei_2d.Stage2.TheVariants as Two-stage
use Rattle.mode_2d.specs.declared.population_focei_2d.Search2.{Search2}
use Rattle.cache.specs.declared.CacheKey.{CacheKey}
use Rattle.cache.specs.declared.CachedTerms.{CachedTerms}
use Rattle.work.specs.declared.Sources.{Sources}
use Rattle.subject.specs.Subject.{individual_values}
use Rattle.subject.specs.declared.Sums.{Sums}
use Rattle.setup.specs.Admission.{omega_of, with_parameters}
use Rattle.setup.specs.declared.Setup.{Setup}
use Rattle.setup.specs.declared.Parameters.{Parameters}
use Rattle.search.specs.declared.Tally.{Tally}
use Rattle.search.specs.declared.Fit.{Fit}
use Rattle.search.specs.declared.SubjectSearch.{SubjectSearch}
use Rattle.search.specs.declared.SubjectSearch.TheVariants as With
use Rattle.search.specs.declared.Progress.{Progress}
use Rattle.search.specs.declared.Place.{Place}
use Rattle.search.specs.declared.Place.TheVariants.{Nowhere, Subject}
use Rattle.search.specs.declared.Refusal.{Refusal}
use Rattle.search.specs.declared.Step.{Step}
use Rattle.search.specs.declared.Step.TheVariants.{Asked, Finished, Refused}
use Rattle.search.specs.declared.Halted.{Halted}
use Rattle.search.specs.declared.Advanced.{Advanced}
use Rattle.search.specs.declared.Mode.{Mode}
use Rattle.mode.specs.declared.Request.{Request}
use Rattle.mode.specs.declared.Request.TheVariants as Asks

-- ---- what the searches of an objective have in common

unfoldable pub fit_with : Setup → Pair → List (List Float) → Float → Fit
fit_with setup theta precision det = record {
  effects = setup.effects;
  eta_bound = setup.eta_bound;
  tolerance = eta_tolerance setup.gradient_tolerance;
  omega = setup.omega00;
  precision = matrix_of precision;
  det_omega = det;
  theta = theta;
  additive_sd = setup.additive_sd;
  k = setup.k;
  max_evaluations = setup.max_evaluations;
}

abbrev pub no_matrix : List (List Float)
no_matrix = pair (pair (word 0) (word 0)) (pair (word 0) (word 0))

-- with two effects: the inverse of omega, which check 2 has found to exist, and its determinant
unfoldable pub fit_by : Setup → Pair → Inverse → Fit
fit_by setup theta (some precision det) = fit_with setup theta precision det
fit_by setup theta none = fit_with setup theta no_matrix (word 0)

unfoldable pub fit2 : Setup → Pair → Fit
fit2 setup theta = fit_by setup theta (inverse_positive (omega_of setup))

-- by the setup of one objective
abbrev pub fit_in : Setup → Pair → Fit
fit_in own theta = pick (eqb own.effects 2) (fit2 own theta) (fit_with own theta no_matrix (word 0))

-- by the setup of the session and the objective's own parameters
unfoldable pub fit_of : Setup → Parameters → Fit
fit_of setup parameters = fit_in (with_parameters setup parameters) parameters.theta

unfoldable pub settings : Fit → Progress → Settings
settings fit progress = record {
  eta_bound = fit.eta_bound;
  omega = fit.omega;
  tolerance = fit.tolerance;
  warm = progress.warm.first;
}

unfoldable pub settings2 : Fit → Progress → Settings2
settings2 fit progress = record {
  eta_bound = fit.eta_bound;
  precision = fit.precision;
  warm = progress.warm;
}

-- ---- the search of the subject

-- with one effect, with two: a search of the other kind, which only a state from outside a session has, is as one that has asked nothing
abbrev pub one_of : SubjectSearch → Search
one_of (With.One x) = x
one_of (With.Two x) = start

abbrev pub two_of : SubjectSearch → Search2
two_of (With.One x) = R2.start
two_of (With.Two x) = x

-- ---- what the search wants

abbrev pub wants1 : Request Float → Request Pair
wants1 (Asks.Point eta) = Asks.Point (record { first = eta; second = word 0 })
wants1 Asks.Mode = Asks.Mode
wants1 (Asks.Refused number) = Asks.Refused number

unfoldable pub wanted1 : Settings → Search → Request Pair
wanted1 s x = wants1 (request s x)

abbrev pub wants2 : Request Pair → Request Pair
wants2 (Asks.Point eta) = Asks.Point eta
wants2 Asks.Mode = Asks.Mode
wants2 (Asks.Refused number) = Asks.Refused number

unfoldable pub wanted2 : Settings2 → Search2 → Request Pair
wanted2 s x = wants2 (R2.request s x)

unfoldable pub wanted_by : Fit → Progress → Request Pair
wanted_by fit progress =
    pick (eqb fit.effects 2) (wanted2 (settings2 fit progress) (two_of progress.search))
    (wanted1 (settings fit progress) (one_of progress.search))

-- ---- kept evaluations: subject, the bits of theta and eta, and with one effect of the optional override. Omega is not in the key.

abbrev pub has_additive : Option Float → ℕ
has_additive None = 0
has_additive (Some additive) = 1

abbrev pub additive_word : Option Float → ℕ
additive_word None = 0
additive_word (Some additive) = to_bits binary64 additive

unfoldable pub key1 : Fit → ℕ → Pair → CacheKey
key1 fit subject eta = record {
  subject = subject;
  theta0 = to_bits binary64 fit.theta.first;
  theta1 = 0;
  eta0 = to_bits binary64 eta.first;
  eta1 = 0;
  has_additive = has_additive fit.additive_sd;
  additive = additive_word fit.additive_sd;
}

unfoldable pub key2 : Fit → ℕ → Pair → CacheKey
key2 fit subject eta = record {
  subject = subject;
  theta0 = to_bits binary64 fit.theta.first;
  theta1 = to_bits binary64 fit.theta.second;
  eta0 = to_bits binary64 eta.first;
  eta1 = to_bits binary64 eta.second;
  has_additive = 0;
  additive = 0;
}

unfoldable pub key_of : Fit → ℕ → Pair → CacheKey
key_of fit subject eta = pick (eqb fit.effects 2) (key2 fit subject eta) (key1 fit subject eta)

unfoldable pub sums_of : CachedTerms → Sums
sums_of terms = record {
  nll = word terms.nll;
  score = record { first = word terms.score0; second = word terms.score1 };
  information = record { m00 = word terms.i00; m01 = word terms.i01; m10 = word terms.i10; m11 = word terms.i11 };
  observation = 0;
}

unfoldable pub terms_of : Sums → CachedTerms
terms_of sums = record {
  nll = to_bits binary64 sums.nll;
  score0 = to_bits binary64 sums.score.first;
  score1 = to_bits binary64 sums.score.second;
  i00 = to_bits binary64 sums.information.m00;
  i01 = to_bits binary64 sums.information.m01;
  i10 = to_bits binary64 sums.information.m10;
  i11 = to_bits binary64 sums.information.m11;
}

-- ---- an evaluated point: with one effect the prior's eta / omega is added to the score, and never kept

unfoldable pub conditional1 : Fit → Pair → Sums → Conditional
conditional1 fit eta sums = record {
  eta = eta.first;
  nll = sums.nll;
  score = sums.score.first +ᶠ eta.first /ᶠ fit.omega;
  information = sums.information.m00;
}

unfoldable pub conditional2 : Pair → Sums → Conditional2
conditional2 eta sums = record {
  eta = eta;
  nll = sums.nll;
  score = sums.score;
  information = sums.information;
}

-- ---- where the rows of the work words' blocks come from: 0 the rows at eta zero, 1 the best point's, 2 the latest's, 3 the trial's

-- on the grid the ninth point is eta zero, and the best is the closer end of the latest upward cell
unfoldable pub grid_sources : Search → Conditional → Sources
grid_sources x c = record {
  population = pick (eqb x.count 8) 3 0;
  best = pick (is_under x.latest) (pick (is_above c) (pick (is_closer x.latest c) 2 3) 1) 1;
  latest = 3;
}

unfoldable pub bracket_sources : Search → Conditional → Sources
bracket_sources x c = record { population = 0; best = pick (is_closer c x.best) 3 1; latest = 2 }

unfoldable pub sources_at : Stage → Search → Conditional → Sources
sources_at Grid x c = grid_sources x c
sources_at Warm x c = bracket_sources x c
sources_at Secant x c = bracket_sources x c
sources_at Halving x c = bracket_sources x c

unfoldable pub sources1 : Search → Conditional → Sources
sources1 x c = sources_at x.stage x c

-- two effects: the rounds' current point is the trial where it is a start, or is taken
unfoldable pub current_at : Stage2 → Settings2 → Search2 → Conditional2 → ℕ
current_at Two-stage.Zero s x c = 2
current_at Two-stage.Start s x c = 3
current_at Two-stage.Trial s x c = pick (R2.is_taken s x c) 3 2
current_at Two-stage.Found s x c = 2
current_at (Two-stage.Halted n) s x c = 2

unfoldable pub current_source : Settings2 → Search2 → Conditional2 → ℕ
current_source s x c = current_at x.stage s x c

-- the rounds of a start are over, and its candidate is the best so far
unfoldable pub is_new_best : Settings2 → Search2 → Search2 → Bool
is_new_best s x y =
    pick (ltb x.seed y.seed) (pick (eqb x.seed 0) true (lt (R2.joint s y.current) (R2.joint s x.best))) false

unfoldable pub population_at : Stage2 → ℕ
population_at Two-stage.Zero = 3
population_at Two-stage.Start = 0
population_at Two-stage.Trial = 0
population_at Two-stage.Found = 0
population_at (Two-stage.Halted n) = 0

unfoldable pub population_source : Search2 → ℕ
population_source x = population_at x.stage

unfoldable pub sources2 : Settings2 → Search2 → Search2 → Conditional2 → Sources
sources2 s x y c =
    let latest = current_source s x c in
    record { population = population_source x; best = pick (is_new_best s x y) latest 1; latest = latest }

-- ---- the search with the evaluation of the point that it asked for

unfoldable pub with_search : Progress → SubjectSearch → Progress
with_search progress x = record {
  awaits = false;
  individual = progress.individual;
  subject = progress.subject;
  first = progress.first;
  warm = progress.warm;
  search = x;
  ofv = progress.ofv;
  eta_squares = progress.eta_squares;
}

unfoldable pub advance1 : Settings → Progress → Conditional → Advanced
advance1 s progress c = record {
  progress = with_search progress (With.One (advance s (one_of progress.search) c));
  sources = sources1 (one_of progress.search) c;
}

unfoldable pub advance2 : Settings2 → Progress → Conditional2 → Advanced
advance2 s progress c =
    let x = two_of progress.search in
    let after = R2.advance s x c in
    record { progress = with_search progress (With.Two after); sources = sources2 s x after c }

unfoldable pub advance_by : Fit → Progress → Pair → Sums → Advanced
advance_by fit progress eta sums =
    pick (eqb fit.effects 2) (advance2 (settings2 fit progress) progress (conditional2 eta sums))
    (advance1 (settings fit progress) progress (conditional1 fit eta sums))

-- ---- the answers of a step

unfoldable pub idle : Progress → Progress
idle progress = with_search progress progress.search

unfoldable pub awaiting : Progress → Pair → Progress
awaiting progress individual = record {
  awaits = true;
  individual = individual;
  subject = progress.subject;
  first = progress.first;
  warm = progress.warm;
  search = progress.search;
  ofv = progress.ofv;
  eta_squares = progress.eta_squares;
}

-- why something is refused: document 01's number, and its place
abbrev pub refusal : ℕ → Place → Refusal
refusal number place = record { number = number; place = place }

unfoldable pub refused_by : Progress → Tally → Refusal → Halted
refused_by progress tally why = record { progress = idle progress; tally = tally; step = Refused why }

unfoldable pub counted : Tally → Tally
counted tally = record { calls = record { 0 = tally.calls.0 + 1 }; cached_rows = tally.cached_rows }

-- check 7, of an evaluation that is counted
unfoldable pub ask_for : Progress → Tally → Pair → Answer Pair → Halted
ask_for progress tally eta (given individual) = record {
  progress = awaiting progress individual;
  tally = tally;
  step = Asked eta individual;
}
ask_for progress tally eta (refused number) = refused_by progress tally (refusal number (Subject progress.subject))

-- check 6
unfoldable pub ask : Fit → Progress → Tally → Pair → Halted
ask fit progress tally eta =
    pick (ltb tally.calls.0 fit.max_evaluations)
    (ask_for progress (counted tally) eta (individual_values fit.theta eta fit.effects))
    (refused_by progress tally (refusal 6 (Subject progress.subject)))

unfoldable pub is_over : Step → Bool
is_over (Asked eta individual) = false
is_over (Finished ofv) = true
is_over (Refused why) = true

-- ---- a mode: check 16, and its part of the objective

-- a mode whose curvature is not positive is refused with 16
abbrev pub mode_answer : Option Mode → Answer Mode
mode_answer (Some mode) = given mode
mode_answer None = refused 16

-- 2 nll - n log 2π + eta² / omega + log (omega · curvature)
unfoldable pub closed1 : Fit → Conditional → ℕ → Option Mode
closed1 fit best rows =
    let curvature = one /ᶠ fit.omega +ᶠ best.information in
    pick (nonfinite curvature) None
    (pick (le curvature (word 0)) None
    (Some (record {
      eta = record { first = best.eta; second = word 0 };
      nll = best.nll;
      term = two *ᶠ best.nll -ᶠ of_int binary64 (pos rows) *ᶠ log2pi +ᶠ best.eta *ᶠ best.eta /ᶠ fit.omega
          +ᶠ log (fit.omega *ᶠ curvature);
    })))

abbrev pub precision_of : Fit → List (List Float)
precision_of fit = array_of fit.precision

abbrev pub curvature_of : Fit → Conditional2 → List (List Float)
curvature_of fit best = R2.curvature fit.precision best.information

-- 2 nll - n log 2π + eta · precision eta + log (det omega · det curvature)
unfoldable pub closed_with : Fit → Conditional2 → ℕ → Inverse → Option Mode
closed_with fit best rows (some inverse det) =
    let eta = pair best.eta.first best.eta.second in
    Some (record {
      eta = best.eta;
      nll = best.nll;
      term = two *ᶠ best.nll -ᶠ of_int binary64 (pos rows) *ᶠ log2pi +ᶠ dot eta (product (precision_of fit) eta)
          +ᶠ log (fit.det_omega *ᶠ det);
    })
closed_with fit best rows none = None

unfoldable pub closed2 : Fit → Conditional2 → ℕ → Option Mode
closed2 fit best rows = closed_with fit best rows (inverse_positive (curvature_of fit best))

unfoldable pub closed_by : Fit → Progress → ℕ → Option Mode
closed_by fit progress rows =
    pick (eqb fit.effects 2) (closed2 fit (two_of progress.search).best rows) (closed1 fit (one_of progress.search).best rows)

-- ---- a subject's search begins; the objective ends

unfoldable pub first_search : ℕ → SubjectSearch
first_search effects = pick (eqb effects 2) (With.Two R2.start) (With.One start)

unfoldable pub begin_subject : ℕ → ℕ → ℕ → Pair → Float → Float → Progress
begin_subject effects subject first warm ofv eta_squares = record {
  awaits = false;
  individual = record { first = word 0; second = word 0 };
  subject = subject;
  first = first;
  warm = warm;
  search = first_search effects;
  ofv = ofv;
  eta_squares = eta_squares;
}

unfoldable pub finished : Progress → Float → Float → Progress
finished progress ofv eta_squares = record {
  awaits = false;
  individual = progress.individual;
  subject = progress.subject;
  first = progress.first;
  warm = progress.warm;
  search = progress.search;
  ofv = ofv;
  eta_squares = eta_squares;
}

-- check 18
unfoldable pub objective_of : Progress → Tally → Float → Float → Halted
objective_of progress tally ofv eta_squares =
    pick (nonfinite ofv) (refused_by progress tally (refusal 18 Nowhere))
    (record { progress = finished progress ofv eta_squares; tally = tally; step = Finished ofv })
