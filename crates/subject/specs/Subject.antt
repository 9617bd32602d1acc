-- A subject's evaluation at one point: `subject` of population_focei.rs and population_focei_2d.rs after the simulator's call.
use Rattle.std.specs.Prelude.{ℕ, ◌+◌, ◌*◌, ◌%◌, ◌^◌, Bool, true, List, [], ◌∷◌, length, ◌==◌, nat_lt, Float}
use Rattle.std.specs.Prelude.{Option, Some, None, Result, Ok, Err}
use Rattle.std.specs.Float.Ieee.{le}
use Rattle.float64.specs.Answer.{Answer, given, refused, through}
use Rattle.float64.specs.Arithmetic.{◌+ᶠ◌, ◌*ᶠ◌, word}
use Rattle.float64.specs.Float64.{nonfinite}
use Rattle.float64.specs.Pick.{pick}
use Rattle.libm.specs.Exp.{exp}
use Rattle.matrix.specs.Matrix.{pair, at, array_of, matrix_of, has_nonfinite_entry}
use Rattle.matrix.specs.declared.Pair.{Pair}
use Rattle.likelihood.specs.RowTerms.{row_terms}
use Rattle.likelihood.specs.Row2.{row_variance, scaled_row, add_nll, add_score, add_information}
use Rattle.likelihood.specs.declared.population_focei.Observation.{Observation}
use Rattle.likelihood.specs.declared.population_focei.RowTerms.{RowTerms}
use Rattle.likelihood.specs.declared.population_focei_2d.Row2.{Row2}
use Rattle.subject.specs.Reply.{output_values, row_length, rows, row_at, column, prediction_row, written}
use Rattle.subject.specs.declared.Trial.{Trial}
use Rattle.subject.specs.declared.Sums.{Sums}
use Rattle.subject.specs.declared.EvaluationError.{EvaluationError}
use Rattle.subject.specs.declared.EvaluationError.TheVariants.{Refused, RefusedAt}

-- an evaluation under way with its sums, or the first refusal that it met
abbrev pub Evaluation : Type 0
Evaluation = Result Sums EvaluationError

-- ---- individual values: document 01's check 7

unfoldable pub individual : Float → Float → Float
individual theta eta = theta *ᶠ exp eta

unfoldable pub is_no_individual : Float → Bool
is_no_individual value = pick (nonfinite value) true (le value (word 0))

unfoldable pub individual_values : Pair → Pair → ℕ → Answer Pair
individual_values theta eta effects =
    let first = individual theta.first eta.first in
    let second = individual theta.second eta.second in
    pick (is_no_individual first) (refused 7)
    (pick (effects == 2)
    (pick (is_no_individual second) (refused 7) (given (record { first = first; second = second })))
    (given (record { first = first; second = word 0 })))

-- what each case of the code's answer says
unfoldable pub answer : Option Pair → Answer Pair
answer (Some p) = given p
answer None = refused 7

-- ---- the beginning: checks 8 and 9

abbrev pub no_sums : Sums
no_sums = record {
  nll = word 0;
  score = record { first = word 0; second = word 0 };
  information = record { m00 = word 0; m01 = word 0; m10 = word 0; m11 = word 0 };
  observation = 0;
}

unfoldable pub begin : List ℕ → ℕ → ℕ → ℕ → Evaluation
begin reply width effects budget =
    pick (length reply % row_length width effects == 0)
    (pick (nat_lt budget (rows reply width effects * output_values width effects)) (Err (Refused 9)) (Ok no_sums))
    (Err (Refused 8))

-- ---- a row

-- the number after n, as a word holds it
abbrev pub next : ℕ → ℕ
next n = (n + 1) % 2 ^ 64

-- the sums with a row, or a refusal at the observation of that number
unfoldable pub at_observation : ℕ → Answer Sums → Evaluation
at_observation n (given sums) = Ok sums
at_observation n (refused number) = Err (RefusedAt number n)

-- one that overrides all, where there is one
unfoldable pub additive_sd : Bool → Float → Option Float
additive_sd has additive = pick has (Some additive) None

unfoldable pub additive_of : Option Float → Observation → Float
additive_of None observation = observation.additive
additive_of (Some additive) observation = additive

unfoldable pub with_terms : Sums → RowTerms → Sums
with_terms sums terms = record {
  nll = sums.nll +ᶠ terms.nll;
  score = record { first = sums.score.first +ᶠ terms.score; second = sums.score.second };
  information = record {
    m00 = sums.information.m00 +ᶠ terms.information;
    m01 = sums.information.m01;
    m10 = sums.information.m10;
    m11 = sums.information.m11;
  };
  observation = next sums.observation;
}

-- one effect: checks 11 and 12
unfoldable pub add_row : Sums → Observation → Float → Float → Float → Evaluation
add_row sums observation prediction f_eta additive =
    at_observation sums.observation (through (with_terms sums) (row_terms observation prediction f_eta additive))

unfoldable pub with_row : Sums → Row2 → List Float → Sums
with_row sums row f_eta =
    let score = add_score (pair sums.score.first sums.score.second) row f_eta in
    let information = add_information (array_of sums.information) row f_eta in
    record {
      nll = add_nll sums.nll row;
      score = record { first = at score 0; second = at score 1 };
      information = matrix_of information;
      observation = next sums.observation;
    }

-- two effects: check 11
unfoldable pub add_row2 : Sums → Observation → Float → List Float → Evaluation
add_row2 sums observation prediction f_eta =
    at_observation sums.observation
    (through (λ R. with_row sums (scaled_row observation prediction f_eta R) f_eta) (row_variance observation prediction f_eta))

-- the derivative by eta: the individual value p is theta exp(eta), so that dp/deta = p
unfoldable pub f_eta : List ℕ → ℕ → ℕ → ℕ → ℕ → Float → Float
f_eta reply at width block output individual = word (column reply at width block output) *ᶠ individual

unfoldable pub add_row_at : Sums → Observation → Trial → List ℕ → ℕ → Evaluation
add_row_at sums observation trial reply at =
    let prediction = word (column reply at trial.width 0 observation.output) in
    let first = f_eta reply at trial.width 1 observation.output trial.individual.first in
    let second = f_eta reply at trial.width 2 observation.output trial.individual.second in
    pick (trial.effects == 2) (add_row2 sums observation prediction (pair first second))
    (add_row sums observation prediction first (additive_of trial.additive_sd observation))

-- ---- the observations of a subject

-- an evaluation and the work words, which have the rows of its trial block
pub record Evaluating : Type 0 where
  pub evaluation : Evaluation
  pub work : List ℕ

abbrev pub evaluating : Evaluation → List ℕ → Evaluating
evaluating e work = record { evaluation = e; work = work }

-- check 10, then the row
unfoldable pub add_at : Sums → Observation → Trial → List ℕ → List ℕ → Option ℕ → Evaluating
add_at sums observation trial reply work None = evaluating (Err (RefusedAt 10 sums.observation)) work
add_at sums observation trial reply work (Some at) =
    evaluating (add_row_at sums observation trial reply at)
    (written trial.block sums.observation (prediction_row reply at trial.width observation.output) work)

unfoldable pub add_to : Sums → Observation → Trial → List ℕ → List ℕ → Evaluating
add_to sums observation trial reply work =
    add_at sums observation trial reply work (row_at reply trial.width trial.effects observation.output observation.row)

-- one more; after a refusal nothing is done
unfoldable pub add_after : Trial → List ℕ → Observation → List ℕ → Evaluation → Evaluating
add_after trial reply observation work (Ok sums) = add_to sums observation trial reply work
add_after trial reply observation work (Err e) = evaluating (Err e) work

unfoldable pub add_observation : Trial → List ℕ → Observation → Evaluating → Evaluating
add_observation trial reply observation x = add_after trial reply observation x.work x.evaluation

-- one after the other
abbrev pub add_observations : Trial → List ℕ → List Observation → Evaluating → Evaluating
add_observations trial reply [] x = x
add_observations trial reply (observation ∷ rest) x = add_observations trial reply rest (add_observation trial reply observation x)

-- ---- the end: check 12 for the sums

unfoldable pub has_nonfinite_sum : Sums → Bool
has_nonfinite_sum sums =
    pick (nonfinite sums.nll) true
    (pick (nonfinite sums.score.first) true
    (pick (nonfinite sums.score.second) true
    (has_nonfinite_entry (array_of sums.information))))

unfoldable pub finish : Evaluation → Evaluation
finish (Ok sums) = pick (has_nonfinite_sum sums) (Err (Refused 12)) (Ok sums)
finish (Err e) = Err e
