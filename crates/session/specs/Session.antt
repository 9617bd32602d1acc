-- A session's calls, over any store of kept evaluations S: new objective, reply, failure. The setup, the counts and the observations are
-- the same for all of them.
use Rattle.std.specs.Prelude.{Bool, false, List, ℕ, ◌+◌, ltb, eqb, take, drop, length, Err, Ok}
use Rattle.float64.specs.Arithmetic.{word}
use Rattle.float64.specs.Pick.{pick}
use Rattle.matrix.specs.declared.Pair.{Pair}
use Rattle.mode.specs.declared.population_focei.Stage.{Stage}
use Rattle.mode.specs.declared.population_focei.Stage.TheVariants.{Grid, Warm, Secant, Halving}
use Rattle.mode.specs.declared.population_focei.Search.{Search}
use Rattle.mode_2d.specs.declared.population_focei_2d.Search2.{Search2}
use Rattle.likelihood.specs.declared.population_focei.Observation.{Observation}
use Rattle.subject.specs.Observations.{Verdict, first_check, check_observations, Check}
use Rattle.subject.specs.Observations.Verdict.{passes, fails, fails_at}
use Rattle.subject.specs.Subject.{Evaluating, evaluating, begin, add_observations, finish, Evaluation}
use Rattle.subject.specs.declared.Trial.{Trial}
use Rattle.words.specs.Words.{zeros}
use Rattle.work.specs.Work.{block}
use Rattle.setup.specs.Admission.{verdict, checks, with_parameters, Admission}
use Rattle.setup.specs.declared.Setup.{Setup}
use Rattle.setup.specs.declared.Parameters.{Parameters}
use Rattle.setup.specs.declared.Lent.{Lent}
use Rattle.search.specs.Subjects.{fit_of, one_of, two_of, wanted_by, idle, begin_subject, refusal}
use Rattle.search.specs.declared.Tally.{Tally}
use Rattle.search.specs.declared.Fit.{Fit}
use Rattle.search.specs.declared.Progress.{Progress}
use Rattle.search.specs.declared.Place.{Place}
use Rattle.search.specs.declared.Place.TheVariants as At
use Rattle.search.specs.declared.Step.{Step}
use Rattle.search.specs.declared.Step.TheVariants.{Refused}
use Rattle.machine.specs.Machine.{Moved, on, halt, Machine}
use Rattle.population.specs.Kept.{Store}
use Rattle.population.specs.Population.{rows_of, warm_of, Whole, whole_of, turn, spent, receive}
use Rattle.subject.specs.declared.EvaluationError.TheVariants as E
use Rattle.mode.specs.declared.Request.{Request}
use Rattle.mode.specs.declared.Request.TheVariants as Wants

-- all that a call takes and gives: the objective's parameters, where it stands, the tally, what is kept, and the lent words
pub record Held (S : Store) : Type 0 where
  pub parameters : Parameters
  pub whole : Whole S

abbrev pub held : (S : Store) → Parameters → Whole S → Held S
held S parameters w = record { parameters = parameters; whole = w }

-- what the host asks
pub data Call : Type 0 where
  objective : Parameters → Call
  reply : List ℕ → Call
  failure : Call

-- ---- 19: the state's positions

-- the count of its stage's points
unfoldable pub count_within : Stage → ℕ → Bool
count_within Grid n = ltb n 18
count_within Warm n = ltb n 1
count_within Secant n = ltb n 16
count_within Halving n = ltb n 49

unfoldable pub search_within : Search → Bool
search_within x = count_within x.stage x.count

unfoldable pub search_within2 : Search2 → Bool
search_within2 x = pick (ltb x.seed 7) (pick (ltb x.round 48) (ltb x.reduction 22) false) false

-- within the subjects, the observations and the search's limits
unfoldable pub is_placed : ℕ → List ℕ → ℕ → Progress → Bool
is_placed effects counts observations p =
    pick (ltb p.subject (length counts))
    (pick (ltb observations (p.first + rows_of counts p.subject)) false
    (pick (eqb effects 2) (search_within2 (two_of p.search)) (search_within (one_of p.search))))
    false

-- and kept rows at most K, those of the tally and those by the positions of the kept evaluations (rows), with n observations lent
unfoldable pub is_standing : Setup → List ℕ → ℕ → Tally → ℕ → Progress → Bool
is_standing setup counts n tally rows p =
    pick (ltb setup.k tally.cached_rows.0) false
    (pick (ltb setup.k rows) false
    (is_placed setup.effects counts n p))

-- of all that a call takes
abbrev pub standing : (S : Store) → Setup → List ℕ → ℕ → Whole S → Bool
standing S setup counts n w = is_standing setup counts n w.tally (S.rows w.kept) w.progress

abbrev pub lent_of : (S : Store) → Setup → ℕ → Whole S → Lent
lent_of S setup n w = record {
  observations = n;
  work = length w.work;
  cache = S.lent w.kept setup.k;
  warm = length w.warm;
  results = length w.results;
}

abbrev pub no_tally : Tally
no_tally = record { calls = record { 0 = 0 }; cached_rows = record { 0 = 0 } }

-- the requests that a call may make: 4,096 subjects, each with a search of at most 6,343 points and its end
abbrev pub fuel : ℕ
fuel = 25985024

-- ---- what an entry may do

module _ (S : Store) where
  -- a refusal that alters nothing
  abbrev pub unaltered : ℕ → Place → Held S → Moved (Held S) Step
  unaltered number place h = halt (Refused (refusal number place)) h

  abbrev pub when_judged : Held S → Moved (Held S) Step → Verdict → Moved (Held S) Step
  when_judged h go passes = go
  when_judged h go (fails number) = unaltered number At.Nowhere h
  when_judged h go (fails_at number place) = unaltered number (At.Observation place.subject place.observation) h

  unfoldable pub when_admitted : Held S → Moved (Held S) Step → Admission → Moved (Held S) Step
  when_admitted h go admission = when_judged h go (verdict admission)

  -- a refusal that ends the objective
  unfoldable pub over : ℕ → Place → Held S → Moved (Held S) Step
  over number place h =
      let w = h.whole in
      halt (Refused (refusal number place))
      (held S h.parameters (whole_of S (idle w.progress) w.tally w.kept (zeros (length w.work)) w.warm w.results))

  -- a reply: the end of the evaluation of the point eta, with the work words that it has written
  unfoldable pub replied : List ℕ → Fit → Pair → Held S → List ℕ → Evaluation → Moved (Held S) Step
  replied counts fit eta h work (Ok sums) =
      let w = h.whole in
      let r = receive S fit counts w.progress w.tally eta sums w.kept work in
      on (held S h.parameters (whole_of S r.progress r.tally r.kept r.work w.warm w.results))
  replied counts fit eta h work (Err (E.Refused number)) = over number (At.Subject h.whole.progress.subject) h
  replied counts fit eta h work (Err (E.RefusedAt number n)) = over number (At.Observation h.whole.progress.subject n) h

  unfoldable pub held_by : Parameters → Moved (Whole S) Step → Moved (Held S) Step
  held_by parameters (on w) = on (held S parameters w)
  held_by parameters (halt a w) = halt a (held S parameters w)

module _ (S : Store) (setup : Setup) (counts : List ℕ) where
  -- setup: tally, kept, work and warm words are zeroed
  abbrev pub no_parameters : Parameters
  no_parameters = record { theta = record { first = word 0; second = word 0 }; omega = setup.omega00; additive_sd = setup.additive_sd }

  abbrev pub opened : Lent → List ℕ → Held S
  opened lent results =
      held S no_parameters
      (whole_of S (begin_subject setup.effects 0 0 (record { first = word 0; second = word 0 }) (word 0) (word 0)) no_tally
      (S.cleared lent.cache) (zeros lent.work) (zeros lent.warm) results)

  -- a new objective
  unfoldable pub begun : Parameters → Whole S → Held S
  begun parameters w =
      let start = begin_subject setup.effects 0 0 (warm_of w.warm setup.effects 0) (word 0) (word 0) in
      held S parameters (whole_of S start w.tally w.kept w.work w.warm w.results)

  abbrev pub trial_of : Fit → Progress → Trial
  trial_of fit p = record {
    individual = p.individual;
    additive_sd = fit.additive_sd;
    width = setup.width;
    effects = setup.effects;
    block = block (rows_of counts p.subject) 3;
  }

  -- one request, in the objective's own fit
  unfoldable pub turn_held : Held S → Moved (Held S) Step
  turn_held h = held_by S h.parameters (turn S (fit_of setup h.parameters) counts h.whole)

  -- between objectives the host may set the warm starts
  unfoldable pub set_warm : List ℕ → Held S → Held S
  set_warm warm h =
      let w = h.whole in
      pick (eqb (length warm) (length w.warm))
      (held S h.parameters (whole_of S w.progress w.tally w.kept w.work warm w.results)) h

-- ---- 19, and 1 to 5 of what is lent: n observations, of which `check` was found

module _ (S : Store) (setup : Setup) (counts : List ℕ) (n : ℕ) (check : Check) where
  unfoldable pub admitted : Parameters → Whole S → Admission
  admitted parameters w = checks (with_parameters setup parameters) counts (lent_of S setup n w) check

  unfoldable pub enter_objective : Parameters → Held S → Moved (Held S) Step
  enter_objective parameters h =
      pick h.whole.progress.awaits (unaltered S 19 At.Nowhere h)
      (pick (standing S setup counts n h.whole)
      (when_admitted S h (on (begun S setup counts parameters h.whole)) (admitted parameters h.whole))
      (unaltered S 19 At.Nowhere h))

  -- 19: a point is awaited; then 1 to 5; and then what the call does with it
  unfoldable pub at_wanted : Held S → (Pair → Moved (Held S) Step) → Request Pair → Moved (Held S) Step
  at_wanted h go (Wants.Point eta) = when_admitted S h (go eta) (admitted h.parameters h.whole)
  at_wanted h go Wants.Mode = unaltered S 19 At.Nowhere h
  at_wanted h go (Wants.Refused number) = unaltered S 19 At.Nowhere h

  unfoldable pub when_awaited : Held S → (Pair → Moved (Held S) Step) → Moved (Held S) Step
  when_awaited h go =
      pick h.whole.progress.awaits
      (pick (standing S setup counts n h.whole)
      (at_wanted h go (wanted_by (fit_of setup h.parameters) h.whole.progress)) (unaltered S 19 At.Nowhere h))
      (unaltered S 19 At.Nowhere h)

  -- the simulator failed: 8
  unfoldable pub enter_failure : Held S → Moved (Held S) Step
  enter_failure h = when_awaited h (λ eta. over S 8 (At.Subject h.whole.progress.subject) h)

-- ---- a session

abbrev pub all_checked : Setup → List ℕ → List Observation → Check
all_checked setup counts observations = check_observations setup.width counts observations first_check

module _ (S : Store) (setup : Setup) (counts : List ℕ) (observations : List Observation) where
  -- where 1 to 5 pass, the session is open
  abbrev pub opens : Lent → Admission
  opens lent = checks setup counts lent (all_checked setup counts observations)

  abbrev pub evaluated : Fit → List ℕ → Progress → List ℕ → Evaluating
  evaluated fit words p work =
      add_observations (trial_of S setup counts fit p) words (take (rows_of counts p.subject) (drop p.first observations))
      (evaluating (begin words setup.width setup.effects setup.output_budget) work)

  unfoldable pub answered : List ℕ → Pair → Held S → Moved (Held S) Step
  answered words eta h =
      let fit = fit_of setup h.parameters in
      let e = evaluated fit words h.whole.progress h.whole.work in
      replied S counts fit eta h e.work (finish e.evaluation)

  unfoldable pub enter_reply : List ℕ → Held S → Moved (Held S) Step
  enter_reply words h =
      when_awaited S setup counts (length observations) (all_checked setup counts observations) h (λ eta. answered words eta h)

  unfoldable pub enter : Call → Held S → Moved (Held S) Step
  enter (objective parameters) h = enter_objective S setup counts (length observations) (all_checked setup counts observations) parameters h
  enter (reply words) h = enter_reply words h
  enter failure h = enter_failure S setup counts (length observations) (all_checked setup counts observations) h

  abbrev pub session : Machine
  session = record {
    State = Held S;
    Answer = Step;
    turn = turn_held S setup counts;
    fuel = fuel;
    spent = spent;
    Call = Call;
    enter = enter;
    awaits = λ h. h.whole.progress.awaits;
    Host = List ℕ;
    write = set_warm S setup counts;
  }
