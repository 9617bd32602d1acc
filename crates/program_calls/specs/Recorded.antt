-- Observations in words, five each: output, row, value, additive and proportional deviation, the floats by their bits; and the calls of a
-- session over them.
use Rattle.std.specs.Prelude.{List, [], ◌∷◌, ℕ, zero, suc, ◌+◌, ◌*◌, ◌/◌, length, get_or}
use Rattle.float64.specs.Arithmetic.{word}
use Rattle.likelihood.specs.declared.population_focei.Observation.{Observation}
use Rattle.setup.specs.declared.Setup.{Setup}
use Rattle.search.specs.declared.Step.{Step}
use Rattle.search.specs.declared.Tally.{Tally}
use Rattle.machine.specs.Machine.{Ran, call}
use Rattle.population.specs.Kept.{words}
use Rattle.session.specs.Calls.{Setting, opened_by}
use Rattle.session.specs.Session.{Held, Call, reply, all_checked, session}

abbrev pub observation_words : ℕ
observation_words = 5

-- observation i
unfoldable pub observation_in : List ℕ → ℕ → Observation
observation_in words i = record {
  output = get_or words (observation_words * i) 0;
  row = get_or words (observation_words * i + 1) 0;
  value = word (get_or words (observation_words * i + 2) 0);
  additive = word (get_or words (observation_words * i + 3) 0);
  proportional = word (get_or words (observation_words * i + 4) 0);
}

-- n of them, from number i on
unfoldable pub observations_from : ℕ → ℕ → List ℕ → List Observation
observations_from zero i words = []
observations_from (suc n) i words = observation_in words i ∷ observations_from n (i + 1) words

-- all of them: words that make no whole observation are none
unfoldable pub observations_of : List ℕ → List Observation
observations_of words = observations_from (length words / observation_words) 0 words

-- ---- a session's calls

-- the call of the session of these observations
abbrev pub call_of : Setup → List ℕ → List ℕ → Call → Held words → Ran (Held words) Step
call_of setup counts observations c h = call (session words setup counts (observations_of observations)) c h

abbrev pub reply_of : List ℕ → Call
reply_of rows = reply rows

-- setup, with what is found of these observations
abbrev pub open_of : Setup → List ℕ → List ℕ → Tally → List ℕ → List ℕ → List ℕ → List ℕ → Setting
open_of setup counts observations tally cache work warm results =
    opened_by setup counts (length (observations_of observations)) (all_checked setup counts (observations_of observations))
    tally cache work warm results
