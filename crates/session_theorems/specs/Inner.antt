-- How a session's state is read as a search of the rules, with one effect and with two.
use Rattle.std.specs.Prelude.{◌≡◌, ◌⊎◌, List, [], ℕ, ◌*◌, length, take, drop, Float, Err, Ok, Option, None, Some}
use Rattle.float64.specs.Arithmetic.{◌+ᶠ◌, ◌/ᶠ◌, word}
use Rattle.matrix.specs.declared.Pair.{Pair}
use Rattle.mode.specs.Rules.{start, request, advance}
use Rattle.mode.specs.declared.population_focei.Settings.{Settings}
use Rattle.mode.specs.declared.population_focei.Conditional.{Conditional}
use Rattle.mode.specs.declared.population_focei.Search.{Search}
use Rattle.mode_2d.specs.Rules as R2
use Rattle.mode_2d.specs.declared.population_focei_2d.Settings2.{Settings2}
use Rattle.mode_2d.specs.declared.population_focei_2d.Conditional2.{Conditional2}
use Rattle.mode_2d.specs.declared.population_focei_2d.Search2.{Search2}
use Rattle.mode_theorems.specs.History as H1
use Rattle.mode_theorems.specs.Claim.{Found, AtBound, Several, Unsettled}
use Rattle.mode_theorems.specs.Claim as C1
use Rattle.mode_theorems.specs.History2 as H2
use Rattle.mode_theorems.specs.Claim2.{Found2, Unresolved, NoInverse}
use Rattle.mode_theorems.specs.Claim2 as C2
use Rattle.likelihood.specs.declared.population_focei.Observation.{Observation}
use Rattle.subject.specs.Claim.{reply_rows}
use Rattle.subject.specs.Subject.{no_sums, finish, Evaluation}
use Rattle.subject.specs.declared.Sums.{Sums}
use Rattle.cache.specs.Cache.{row_words}
use Rattle.cache.specs.Kept.{words_from}
use Rattle.work.specs.Work.{block}
use Rattle.setup.specs.declared.Setup.{Setup}
use Rattle.search.specs.Subjects.{fit_of, settings, settings2, one_of, two_of, wanted_by, key_of, sums_of}
use Rattle.search.specs.declared.Fit.{Fit}
use Rattle.search.specs.declared.Progress.{Progress}
use Rattle.search.specs.declared.Step.{Step}
use Rattle.search.specs.declared.Step.TheVariants as Answer
use Rattle.machine.specs.Rules.{Rules, Claims, point, mode, refusal}
use Rattle.machine.specs.Rules as Rules
use Rattle.machine.specs.Observed.{Meaning, asked, finished, refused, View}
use Rattle.population.specs.Kept.{Recalled, Store}
use Rattle.population.specs.Population.{rows_of}
use Rattle.session.specs.Session.{Held, Call, objective, reply, failure, evaluated, session}
use Rattle.subject.specs.declared.EvaluationError.TheVariants as E
use Rattle.mode.specs.declared.Request.{Request}
use Rattle.mode.specs.declared.Request.TheVariants as Asks

-- ---- one effect

abbrev pub wants1 : Request Float → Rules.Wanted Float
wants1 (Asks.Point eta) = point eta
wants1 Asks.Mode = mode
wants1 (Asks.Refused number) = refusal number

abbrev pub rules1 : Rules
rules1 = record {
  Settings = Settings;
  Search = Search;
  Request = Request Float;
  Point = Float;
  Conditional = Conditional;
  start = start;
  request = request;
  advance = advance;
  wants = wants1;
  best = λ x. x.best;
  Answers = H1.Answers;
}

-- what the rules' own refusals mean
pub record Refusal1 (s : Settings) (h : List Conditional) (n : ℕ) : Type 0 where
  pub at_bound : n ≡ 13 → AtBound s h
  pub several : n ≡ 14 → Several s h
  pub unsettled : n ≡ 15 → (m : Conditional) × Unsettled s h m
  -- there is no other number
  pub numbers : (n ≡ 13) ⊎ ((n ≡ 14) ⊎ (n ≡ 15))

-- document 01's domain; the ceiling; and what a mode is
abbrev pub claims1 : Claims rules1
claims1 = record { Domain = H1.Domain; ceiling = C1.ceiling; Good = Found; Means = Refusal1 }

-- ---- two effects

abbrev pub wants2 : Request Pair → Rules.Wanted Pair
wants2 (Asks.Point eta) = point eta
wants2 Asks.Mode = mode
wants2 (Asks.Refused number) = refusal number

abbrev pub rules2 : Rules
rules2 = record {
  Settings = Settings2;
  Search = Search2;
  Request = Request Pair;
  Point = Pair;
  Conditional = Conditional2;
  start = R2.start;
  request = R2.request;
  advance = R2.advance;
  wants = wants2;
  best = λ x. x.best;
  Answers = H2.Answers;
}

pub record Refusal2 (s : Settings2) (h : List Conditional2) (n : ℕ) : Type 0 where
  pub unresolved : n ≡ 13 → Unresolved s h
  pub several : n ≡ 14 → C2.Several h
  pub no_inverse : n ≡ 16 → NoInverse s h
  -- there is no other number
  pub numbers : (n ≡ 13) ⊎ ((n ≡ 14) ⊎ (n ≡ 16))

-- an accepted omega; the ceiling; and what a mode is
abbrev pub claims2 : Claims rules2
claims2 = record { Domain = λ s. (omega : List (List Float)) × H2.Accepted omega s; ceiling = C2.ceiling; Good = Found2; Means = Refusal2 }

-- ---- a subject's search within an objective, for either

pub record Inner : Type 1 where
  pub rules : Rules
  pub claims : Claims rules
  pub settings_of : Fit → Progress → rules.Settings
  pub search_of : Progress → rules.Search
  -- a point of the rules, and a pair of the session's
  pub point_of : Pair → rules.Point
  pub pair_of : rules.Point → Pair
  pub conditional_of : Fit → Pair → Sums → rules.Conditional

abbrev pub inner1 : Inner
inner1 = record {
  rules = rules1;
  claims = claims1;
  settings_of = settings;
  search_of = λ p. one_of p.search;
  point_of = λ eta. eta.first;
  pair_of = λ x. record { first = x; second = word 0 };
  -- the prior's eta / omega is added to the score
  conditional_of = λ fit eta sums. record {
    eta = eta.first;
    nll = sums.nll;
    score = sums.score.first +ᶠ eta.first /ᶠ fit.omega;
    information = sums.information.m00;
  };
}

abbrev pub inner2 : Inner
inner2 = record {
  rules = rules2;
  claims = claims2;
  settings_of = settings2;
  search_of = λ p. two_of p.search;
  point_of = λ eta. eta;
  pair_of = λ eta. eta;
  conditional_of = λ fit eta sums. record {
    eta = eta;
    nll = sums.nll;
    score = sums.score;
    information = sums.information;
  };
}

-- ---- the view: what an observer reads

-- the terms of a kept evaluation, where there is one
abbrev pub recalled_sums : Option Recalled → Sums
recalled_sums (Some r) = sums_of r.terms
recalled_sums None = no_sums

-- the work words with its rows
abbrev pub recalled_work : Option Recalled → List ℕ
recalled_work (Some r) = r.work
recalled_work None = []

-- the sums of an evaluation that came to its end
abbrev pub running_sums : Evaluation → Sums
running_sums (Ok sums) = sums
running_sums (Err (E.Refused number)) = no_sums
running_sums (Err (E.RefusedAt number n)) = no_sums

abbrev pub point_wanted : Request Pair → Pair
point_wanted (Asks.Point eta) = eta
point_wanted Asks.Mode = record { first = word 0; second = word 0 }
point_wanted (Asks.Refused number) = record { first = word 0; second = word 0 }

module _ (S : Store) (setup : Setup) (counts : List ℕ) (observations : List Observation) (I : Inner) where
  abbrev pub fit_at : Held S → Fit
  fit_at h = fit_of setup h.parameters

  abbrev pub means : Step → Meaning I.rules.Point
  means (Answer.Asked eta individual) = asked (I.point_of eta)
  means (Answer.Finished ofv) = finished
  means (Answer.Refused why) = refused why.number

  -- the sums of a reply
  abbrev pub sums_of_call : Call → Held S → Sums
  sums_of_call (objective parameters) h = no_sums
  sums_of_call (reply words) h =
      running_sums (finish (evaluated S setup counts observations (fit_at h) words h.whole.progress h.whole.work).evaluation)
  sums_of_call failure h = no_sums

  -- and its rows: the words that it has for the observations of the awaited subject
  abbrev pub rows_of_call : Call → Held S → List ℕ
  rows_of_call (objective parameters) h = []
  rows_of_call (reply words) h =
      let p = h.whole.progress in
      reply_rows setup.width setup.effects words (take (rows_of counts p.subject) (drop p.first observations))
  rows_of_call failure h = []

  -- what is kept for a point: its terms, and its rows where they come to stand, in the trial block
  abbrev pub recalled : Held S → Pair → Option Recalled
  recalled h eta =
      let rows = rows_of counts h.whole.progress.subject in
      S.recall h.whole.kept (fit_at h).k (key_of (fit_at h) h.whole.progress.subject eta) rows h.whole.work (block rows 3)

  abbrev pub kept_rows : Held S → Pair → List ℕ
  kept_rows h eta =
      let rows = rows_of counts h.whole.progress.subject in
      words_from (row_words * rows) (recalled_work (recalled h eta)) (block rows 3)

  abbrev pub view : View I.rules (session S setup counts observations)
  view = record {
    means = means;
    subjects = length counts;
    subject = λ h. h.whole.progress.subject;
    settings = λ h. I.settings_of (fit_at h) h.whole.progress;
    search = λ h. I.search_of h.whole.progress;
    evaluations = λ h. h.whole.tally.calls.0;
    limit = setup.max_evaluations;
    kept = λ h p. record {
      point = I.conditional_of (fit_at h) (I.pair_of p) (recalled_sums (recalled h (I.pair_of p)));
      rows = kept_rows h (I.pair_of p);
    };
    given = λ c h. record {
      point = I.conditional_of (fit_at h) (point_wanted (wanted_by (fit_at h) h.whole.progress)) (sums_of_call c h);
      rows = rows_of_call c h;
    };
  }
