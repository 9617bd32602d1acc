-- What a leaf's answer is to the comparison: a number or a bool, and what is written. Where there is nothing to write, what was there
-- stays.
use Rattle.std.specs.Prelude.{Bool, true, false, List, [], ◌∷◌, Float}
use Rattle.matrix.specs.Matrix.{Inverse, some, none}
use Rattle.likelihood.specs.declared.population_focei.Observation.{Observation}
use Rattle.likelihood.specs.declared.population_focei.RowTerms.{RowTerms}
use Rattle.float64.specs.Answer.{Answer, given, refused}
use Rattle.likelihood.specs.Row2.{row_variance, scaled_row, add_nll, add_score, add_information}

-- ---- inverse_positive
unfoldable pub exists : Inverse → Bool
exists (some inverse det) = true
exists none = false

unfoldable pub inverse_or : List (List Float) → Inverse → List (List Float)
inverse_or old (some inverse det) = inverse
inverse_or old none = old

unfoldable pub det_or : Float → Inverse → Float
det_or old (some inverse det) = det
det_or old none = old

-- ---- a row
-- the leaves look at neither its output nor its place
unfoldable pub observation_of : Float → Float → Float → Observation
observation_of value additive proportional = record { output = 0; row = 0; value = value; additive = additive; proportional = proportional }

unfoldable pub terms_or : List Float → Answer RowTerms → List Float
terms_or old (given t) = t.nll ∷ t.score ∷ t.information ∷ []
terms_or old (refused number) = old

-- a subject's sums
pub record Sums : Type 0 where
  pub nll : Float
  pub score : List Float
  pub information : List (List Float)

abbrev pub sums : Float → List Float → List (List Float) → Sums
sums nll score information = record { nll = nll; score = score; information = information }

-- the sums with the row added, where its variance is given
unfoldable pub added : Observation → Float → List Float → Sums → Answer Float → Sums
added observation prediction f_eta s (given R) =
    let row = scaled_row observation prediction f_eta R in
    sums (add_nll s.nll row) (add_score s.score row f_eta) (add_information s.information row f_eta)
added observation prediction f_eta s (refused number) = s

unfoldable pub add_row : Observation → Float → List Float → Sums → Sums
add_row observation prediction f_eta s = added observation prediction f_eta s (row_variance observation prediction f_eta)
