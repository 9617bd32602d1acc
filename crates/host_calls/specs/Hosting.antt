-- A session's calls as a host makes them: the state and the answer as words, the tally and all that is lent beside them.
use Rattle.std.specs.Prelude.{Bool, true, false, List, ℕ, ◌%◌, ◌^◌, ltb, eqb, length, set, Err, Ok, Result}
use Rattle.std.specs.Float.{binary64}
use Rattle.std.specs.Float.Ieee.{to_bits}
use Rattle.float64.specs.Answer.{Answer, given, refused}
use Rattle.float64.specs.Arithmetic.{word}
use Rattle.float64.specs.Pick.{pick}
use Rattle.likelihood.specs.declared.population_focei.Observation.{Observation}
use Rattle.subject.specs.Subject.{additive_sd, Evaluation}
use Rattle.setup.specs.declared.Lent.{Lent}
use Rattle.setup.specs.declared.Parameters.{Parameters}
use Rattle.setup.specs.declared.Setup.{Setup}
use Rattle.search.specs.declared.Place.{Place}
use Rattle.search.specs.declared.Place.TheVariants as At
use Rattle.search.specs.declared.Step.{Step}
use Rattle.search.specs.declared.Step.TheVariants as Says
use Rattle.search.specs.declared.Tally.{Tally}
use Rattle.machine.specs.Machine.{Ran, call}
use Rattle.population.specs.Kept.{words}
use Rattle.session.specs.Calls.{held_of, state_of, entered, Setting, opened_by, unadmitted, admit_reply, finish_reply}
use Rattle.session.specs.Session.{Held, Call, all_checked, enter_objective, enter_failure, session}
use Rattle.session.specs.declared.Admitted.{Admitted}
use Rattle.session.specs.declared.Awaited.{Awaited}
use Rattle.session.specs.declared.Begun.{Begun}
use Rattle.session.specs.declared.Called.{Called}
use Rattle.session.specs.declared.State.{State}
use Rattle.state_words.specs.SessionWords.{state_size, loaded_state, saved_state}
use Rattle.host_calls.specs.declared.AnswerWords.{AnswerWords}
use Rattle.host_calls.specs.declared.Done.{Done}
use Rattle.host_calls.specs.declared.SessionParameters.{SessionParameters}
use Rattle.host_calls.specs.declared.SessionSetup.{SessionSetup}
use Rattle.search.specs.declared.Refusal.{Refusal}
use Rattle.subject.specs.Observations.{Check}

-- ---- what a host gives

unfoldable pub setup_of : SessionSetup → Setup
setup_of s = record {
  effects = s.effects;
  omega00 = s.omega_00;
  omega01 = s.omega_01;
  omega10 = s.omega_10;
  omega11 = s.omega_11;
  eta_bound = s.eta_bound;
  gradient_tolerance = s.gradient_tolerance;
  width = s.width;
  k = s.k;
  additive_sd = additive_sd s.has_additive s.additive;
  output_budget = s.output_budget;
  max_evaluations = s.max_evaluations;
}

unfoldable pub parameters_of : SessionParameters → Parameters
parameters_of p = record {
  theta = record { first = p.theta; second = p.theta_2 };
  omega = p.omega;
  additive_sd = additive_sd p.has_additive p.additive;
}

-- ---- the same as it stands in memory: for each float its 64 bits, for max_evaluations 32. `setup_of` and `parameters_of` promise that all
-- that a host can hand over is of this form, so that nothing has to be asked of it.

pub record SetupBits : Type 0 where
  pub effects : ℕ
  pub omega_00 : ℕ
  pub omega_01 : ℕ
  pub omega_10 : ℕ
  pub omega_11 : ℕ
  pub eta_bound : ℕ
  pub gradient_tolerance : ℕ
  pub width : ℕ
  pub k : ℕ
  pub has_additive : Bool
  pub additive : ℕ
  pub output_budget : ℕ
  pub max_evaluations : ℕ

unfoldable pub setup_from : SetupBits → Setup
setup_from b = record {
  effects = b.effects;
  omega00 = word b.omega_00;
  omega01 = word b.omega_01;
  omega10 = word b.omega_10;
  omega11 = word b.omega_11;
  eta_bound = word b.eta_bound;
  gradient_tolerance = word b.gradient_tolerance;
  width = b.width;
  k = b.k;
  additive_sd = additive_sd b.has_additive (word b.additive);
  output_budget = b.output_budget;
  max_evaluations = b.max_evaluations % 2 ^ 32;
}

unfoldable pub setup_bits : SessionSetup → SetupBits
setup_bits s = record {
  effects = s.effects;
  omega_00 = to_bits binary64 s.omega_00;
  omega_01 = to_bits binary64 s.omega_01;
  omega_10 = to_bits binary64 s.omega_10;
  omega_11 = to_bits binary64 s.omega_11;
  eta_bound = to_bits binary64 s.eta_bound;
  gradient_tolerance = to_bits binary64 s.gradient_tolerance;
  width = s.width;
  k = s.k;
  has_additive = s.has_additive;
  additive = to_bits binary64 s.additive;
  output_budget = s.output_budget;
  max_evaluations = s.max_evaluations;
}

pub record ParameterBits : Type 0 where
  pub theta : ℕ
  pub theta_2 : ℕ
  pub omega : ℕ
  pub has_additive : Bool
  pub additive : ℕ

unfoldable pub parameters_from : ParameterBits → Parameters
parameters_from b = record {
  theta = record { first = word b.theta; second = word b.theta_2 };
  omega = word b.omega;
  additive_sd = additive_sd b.has_additive (word b.additive);
}

unfoldable pub parameter_bits : SessionParameters → ParameterBits
parameter_bits p = record {
  theta = to_bits binary64 p.theta;
  theta_2 = to_bits binary64 p.theta_2;
  omega = to_bits binary64 p.omega;
  has_additive = p.has_additive;
  additive = to_bits binary64 p.additive;
}

-- ---- what a host gets

abbrev pub answer_words : ℕ → ℕ → ℕ → ℕ → ℕ → AnswerWords
answer_words kind first second third fourth = record { kind = kind; first = first; second = second; third = third; fourth = fourth }

-- 2, document 01's number, and its place
unfoldable pub place_words : ℕ → Place → AnswerWords
place_words number At.Nowhere = answer_words 2 number 0 0 0
place_words number (At.Subject subject) = answer_words 2 number 1 subject 0
place_words number (At.Observation subject observation) = answer_words 2 number 2 subject observation

-- for each case of a step, its words
unfoldable pub answer_of : Step → AnswerWords
answer_of (Says.Asked eta individual) =
    answer_words 0 (to_bits binary64 eta.first) (to_bits binary64 eta.second) (to_bits binary64 individual.first)
    (to_bits binary64 individual.second)
answer_of (Says.Finished objective) = answer_words 1 (to_bits binary64 objective) 0 0 0
answer_of (Says.Refused why) = place_words why.number why.place

unfoldable pub answered : AnswerWords → List ℕ → List ℕ
answered a w = set (set (set (set (set w 0 a.kind) 1 a.first) 2 a.second) 3 a.third) 4 a.fourth

-- document 01's number, 0 where nothing is refused
unfoldable pub number_of : Step → ℕ
number_of (Says.Asked eta individual) = 0
number_of (Says.Finished objective) = 0
number_of (Says.Refused why) = why.number

-- 1 to 5 and 19 alter nothing
unfoldable pub is_unaltered : ℕ → Bool
is_unaltered n = pick (eqb n 0) false (pick (ltb n 6) true (eqb n 19))

pub record Told : Type 0 where
  pub done : Done
  pub state : List ℕ
  pub answer : List ℕ

-- what a call gives back beside the words
abbrev pub done_with : ℕ → Tally → Done
done_with number tally = record { number = number; tally = tally }

abbrev pub told_as : Done → List ℕ → List ℕ → Told
told_as r state answer = record { done = r; state = state; answer = answer }

unfoldable pub told : Called → List ℕ → List ℕ → Told
told c state answer =
    let number = number_of c.step in
    told_as (record { number = number; tally = c.tally }) (pick (is_unaltered number) state (saved_state c.state state))
    (answered (answer_of c.step) answer)

abbrev pub no_state : Tally → Done
no_state tally = record { number = 19; tally = tally }

unfoldable pub opened_to : Tally → List ℕ → List ℕ → Result State Refusal → Told
opened_to tally state answer (Ok next) =
    told_as (record { number = 0; tally = tally }) (saved_state next state) (answered (answer_words 1 0 0 0 0) answer)
opened_to tally state answer (Err e) =
    told_as (record { number = e.number; tally = tally }) state (answered (place_words e.number e.place) answer)

unfoldable pub opened : Begun → List ℕ → List ℕ → Told
opened b state answer = opened_to b.tally state answer b.opening

-- ---- all that a call gives back and writes

pub record Out : Type 0 where
  pub told : Told
  pub cache : List ℕ
  pub work : List ℕ
  pub warm : List ℕ
  pub results : List ℕ

abbrev pub out_of : Told → List ℕ → List ℕ → List ℕ → List ℕ → Out
out_of t cache work warm results = record { told = t; cache = cache; work = work; warm = warm; results = results }

abbrev pub out : Done → List ℕ → List ℕ → List ℕ → List ℕ → List ℕ → List ℕ → Out
out r state answer cache work warm results = out_of (told_as r state answer) cache work warm results

-- what the session did, with the state that was lent
abbrev pub did : Ran (Held words) Step → List ℕ → List ℕ → Out
did z state answer =
    let w = z.state.whole in
    out_of (told (record { state = state_of z.state; tally = w.tally; step = z.answer }) state answer)
    w.kept.words w.work w.warm w.results

-- the words are no state: 19
abbrev pub unknown : Tally → List ℕ → List ℕ → List ℕ → List ℕ → List ℕ → List ℕ → Out
unknown tally state answer cache work warm results =
    out (no_state tally) state (answered (place_words 19 At.Nowhere) answer) cache work warm results

unfoldable pub with_state : (State → Out) → Out → Answer State → Out
with_state f other (given s) = f s
with_state f other (refused n) = other

module _ (setup : Setup) (counts : List ℕ) (n : ℕ) (check : Check) (tally : Tally) (state answer cache work warm results : List ℕ) where
  abbrev pub settled : Setting → Out
  settled s = out_of (opened s.begun state answer) s.cache s.work s.warm results

  unfoldable pub open_with : Out
  open_with =
      pick (ltb (length state) state_size) (unknown tally state answer cache work warm results)
      (settled (opened_by setup counts n check tally cache work warm results))

  unfoldable pub objective_with : Parameters → Out
  objective_with parameters =
      with_state
      (λ s. did (entered setup counts (enter_objective words setup counts n check parameters (held_of s tally cache work warm results)))
      state answer)
      (unknown tally state answer cache work warm results) (loaded_state state)

  unfoldable pub failure_with : Out
  failure_with =
      with_state
      (λ s. did (entered setup counts (enter_failure words setup counts n check (held_of s tally cache work warm results))) state answer)
      (unknown tally state answer cache work warm results) (loaded_state state)

-- ---- a reply's two parts

unfoldable pub admit_with : Setup → List ℕ → Lent → Check → Tally → List ℕ → Answer State → Admitted
admit_with setup counts lent check tally reply (given s) = admit_reply setup counts lent check s tally reply
admit_with setup counts lent check tally reply (refused n) = unadmitted setup

unfoldable pub finish_with : List ℕ → Awaited → Evaluation → Tally → List ℕ → List ℕ → List ℕ → List ℕ → List ℕ → List ℕ → Out
finish_with counts a e tally state answer cache work warm results =
    with_state (λ s. did (finish_reply counts a e (held_of s tally cache work warm results)) state answer)
    (unknown tally state answer cache work warm results) (loaded_state state)

-- ---- the calls, over the observations

module _ (setup : Setup) (counts : List ℕ) (observations : List Observation) (tally : Tally)
    (state answer cache work warm results : List ℕ) where
  unfoldable pub setup_over : Out
  setup_over = open_with setup counts (length observations) (all_checked setup counts observations) tally state answer cache work warm results

  unfoldable pub call_over : Call → Out
  call_over c =
      with_state (λ s. did (call (session words setup counts observations) c (held_of s tally cache work warm results)) state answer)
      (unknown tally state answer cache work warm results) (loaded_state state)
