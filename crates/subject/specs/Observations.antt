-- The lent observations, and document 01's check 4 of them all.
use Rattle.std.specs.Prelude.{ℕ, Bool, true, false, List, [], ◌∷◌, nat_lt, slice_index, slice_index_or, Float, Err, Ok, Result}
use Rattle.std.specs.Float.{nan}
use Rattle.std.specs.Float.Ieee.{lt}
use Rattle.float64.specs.Arithmetic.{word}
use Rattle.float64.specs.Float64.{nonfinite}
use Rattle.float64.specs.Pick.{pick}
use Rattle.likelihood.specs.declared.population_focei.Observation.{Observation}
use Rattle.subject.specs.Subject.{next}
use Rattle.subject.specs.declared.Position.{Position}

-- what stands beyond the last; no code reads it
abbrev pub no_observation : Observation
no_observation = record { output = 0; row = 0; value = nan; additive = nan; proportional = nan }

abbrev pub observation_at : List Observation → ℕ → Observation
observation_at observations i = slice_index_or observations i no_observation

-- finite, and not below 0
unfoldable pub is_no_deviation : Float → Bool
is_no_deviation deviation = pick (nonfinite deviation) true (lt deviation (word 0))

unfoldable pub is_sound : Observation → ℕ → Bool
is_sound observation width =
    pick (nat_lt observation.output width)
    (pick (nonfinite observation.value) false
    (pick (is_no_deviation observation.additive) false
    (pick (is_no_deviation observation.proportional) false
    (pick (lt (word 0) observation.additive) true
    (lt (word 0) observation.proportional)))))
    false

-- the place after this one, in a subject of `count` observations
unfoldable pub next_place : Position → ℕ → Position
next_place place count =
    pick (nat_lt (next place.observation) count) (record { subject = place.subject; observation = next place.observation })
    (record { subject = next place.subject; observation = 0 })

-- how far the check has come: all so far are sound, and this is the place of the next; or the place of the first that is not
abbrev pub Check : Type 0
Check = Result Position Position

unfoldable pub check_at : ℕ → List ℕ → Observation → Position → Check
check_at width counts observation place =
    pick (is_sound observation width) (Ok (next_place place (slice_index counts place.subject))) (Err place)

-- what a check says in document 01's words: that it passes; or its number, and where it carries a place, the subject and the observation
pub data Verdict : Type 0 where
  passes : Verdict
  fails : ℕ → Verdict
  fails_at : ℕ → Position → Verdict

-- an observation that is not sound is refused with 4, at its place
abbrev pub verdict : Check → Verdict
verdict (Ok place) = passes
verdict (Err place) = fails_at 4 place

-- before the first observation
abbrev pub first_check : Check
first_check = Ok (record { subject = 0; observation = 0 })

-- one more; after the first that is not sound nothing changes
unfoldable pub check_observation : ℕ → List ℕ → Observation → Check → Check
check_observation width counts observation (Ok place) = check_at width counts observation place
check_observation width counts observation (Err place) = Err place

abbrev pub check_observations : ℕ → List ℕ → List Observation → Check → Check
check_observations width counts [] check = check
check_observations width counts (observation ∷ rest) check =
    check_observations width counts rest (check_observation width counts observation check)
