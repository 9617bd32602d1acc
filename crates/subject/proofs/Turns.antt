-- What the definitions make of one observation more, in the form in which the code of `rows` needs it. Assumes nothing.
use Rattle.std.specs.Prelude.{Err, Ok, Result}
use Rattle.std.proofs.Common.{◌≡◌, ℕ, List, sym, ap, ◌∙◌}
use lib.Ieee.{Float}
use Rattle.float64.specs.Answer.{Answer, through}
use Rattle.likelihood.specs.RowTerms.{row_terms, number, answer as answerRow}
use Rattle.likelihood.specs.Row2.{row_variance, scaled_row, answer as answerRow2}
use Rattle.likelihood.specs.declared.population_focei.Observation.{Observation}
use Rattle.likelihood.specs.declared.population_focei.RowTerms.{RowTerms}
use Rattle.likelihood.specs.declared.population_focei_2d.Row2.{Row2}
use Rattle.subject.specs.declared.Sums.{Sums}
use Rattle.subject.specs.Subject.{at_observation, with_terms, add_row, with_row, add_row2, Evaluation}
use Rattle.likelihood.specs.declared.population_focei.RowError.{RowError}
use Rattle.subject.specs.declared.EvaluationError.TheVariants.{RefusedAt}

-- ---- one effect; r is what `row_terms` answered, z the sums afterwards
module _ (sums : Sums) (observation : Observation) (prediction f-eta additive : Float) {r : Result RowTerms RowError} (e : answerRow r ≡ row_terms observation prediction f-eta additive) where
  added : {variant : Result RowTerms RowError} {z : Evaluation} → r ≡ variant → z ≡ at_observation sums.observation (through (with_terms sums) (answerRow variant)) → z ≡ add_row sums observation prediction f-eta additive
  unfolding add_row
  added t q = q ∙ ap (λ (a : Answer RowTerms). at_observation sums.observation (through (with_terms sums) a)) (sym (ap answerRow t) ∙ e)

  pub terms_added : {terms : RowTerms} {z : Sums} → r ≡ Ok terms → z ≡ with_terms sums terms → Ok z ≡ add_row sums observation prediction f-eta additive
  unfolding answerRow through at_observation
  terms_added t q = added t (ap Ok q)

  pub row_refused : {error : RowError} {n : ℕ} → r ≡ Err error → n ≡ number error → Err (RefusedAt n sums.observation) ≡ add_row sums observation prediction f-eta additive
  unfolding answerRow through at_observation
  row_refused t q = added t (λ i. Err (RefusedAt (q i) sums.observation))

-- ---- two effects; r is what `row_variance` answered, row the scaled row, z the sums afterwards
module _ (sums : Sums) (observation : Observation) (prediction : Float) (f-eta : List Float) {r : Result Float RowError} (e : answerRow2 r ≡ row_variance observation prediction f-eta) where
  added2 : {variant : Result Float RowError} {z : Evaluation} → r ≡ variant → z ≡ at_observation sums.observation (through (λ R. with_row sums (scaled_row observation prediction f-eta R) f-eta)
      (answerRow2 variant)) → z ≡ add_row2 sums observation prediction f-eta
  unfolding add_row2
  added2 t q = q ∙ ap (λ (a : Answer Float). at_observation sums.observation (through (λ R. with_row sums (scaled_row observation prediction f-eta R) f-eta) a)) (sym (ap answerRow2 t) ∙ e)

  pub row_added : {R : Float} {row : Row2} {z : Sums} → r ≡ Ok R → row ≡ scaled_row observation prediction f-eta R → z ≡ with_row sums row f-eta → Ok z ≡ add_row2 sums observation
      prediction f-eta
  unfolding answerRow2 through at_observation
  row_added t p q = added2 t (ap Ok (q ∙ ap (λ (x : Row2). with_row sums x f-eta) p))

  pub row_refused2 : {error : RowError} {n : ℕ} → r ≡ Err error → n ≡ number error → Err (RefusedAt n sums.observation) ≡ add_row2 sums observation prediction f-eta
  unfolding answerRow2 through at_observation
  row_refused2 t q = added2 t (λ i. Err (RefusedAt (q i) sums.observation))
