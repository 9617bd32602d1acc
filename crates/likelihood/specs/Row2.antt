-- The body of the loop over a subject's rows, in `subject` of population_focei_2d.rs.
use Rattle.std.specs.Prelude.{List, ℕ, Float, Err, Ok, Result}
use Rattle.std.specs.Float.Ieee.{le}
use Rattle.float64.specs.Arithmetic.{◌+ᶠ◌, word}
use Rattle.float64.specs.Float64.{nonfinite}
use Rattle.float64.specs.Pick.{pick}
use Rattle.matrix.specs.Matrix.{pair, at, entry}
use Rattle.float64.specs.Answer.{Answer, given, refused}
use Rattle.likelihood.specs.Terms.{residual, variance, scaled_by_eta2, z_squared, nll_term, score_term, information_term}
use Rattle.likelihood.specs.declared.population_focei.Observation.{Observation}
use Rattle.likelihood.specs.declared.population_focei_2d.Row2.{Row2}
use Rattle.likelihood.specs.declared.population_focei.RowError.{RowError}
use Rattle.likelihood.specs.RowTerms.{number}

-- what each case of the code's answer says
unfoldable pub answer : Result Float RowError → Answer Float
answer (Ok R) = given R
answer (Err e) = refused (number e)

-- document 01's check 11
unfoldable pub row_variance : Observation → Float → List Float → Answer Float
row_variance observation prediction f_eta =
    let R = variance observation.additive observation.proportional prediction in
    pick (nonfinite R) (refused 11)
    (pick (le R (word 0)) (refused 11)
    (pick (nonfinite prediction) (refused 11)
    (pick (nonfinite (at f_eta 0)) (refused 11)
    (pick (nonfinite (at f_eta 1)) (refused 11)
    (given R)))))

unfoldable pub scaled_row : Observation → Float → List Float → Float → Row2
scaled_row observation prediction f_eta R =
    let e = residual observation.value prediction in
    let scaled : ℕ → Float = λ i. scaled_by_eta2 R observation.proportional prediction (at f_eta i) in
    record {
      residual = e;
      variance = R;
      z2 = z_squared R e;
      r_eta = pair (scaled 0) (scaled 1);
    }

-- ---- the row's terms, each added to a sum

unfoldable pub add_nll : Float → Row2 → Float
add_nll nll row = nll +ᶠ nll_term row.variance row.z2

unfoldable pub add_score : List Float → Row2 → List Float → List Float
add_score score row f_eta =
    let term : ℕ → Float = λ i. score_term row.variance row.residual row.z2 (at f_eta i) (at row.r_eta i) in
    pair (at score 0 +ᶠ term 0) (at score 1 +ᶠ term 1)

unfoldable pub add_information : List (List Float) → Row2 → List Float → List (List Float)
add_information information row f_eta =
    let r_eta = row.r_eta in
    let sum : ℕ → ℕ → Float = λ i j.
    entry information i j +ᶠ information_term row.variance (at f_eta i) (at f_eta j) (at r_eta i) (at r_eta j) in
    pair (pair (sum 0 0) (sum 0 1)) (pair (sum 1 0) (sum 1 1))
