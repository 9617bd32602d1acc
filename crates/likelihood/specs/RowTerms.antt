-- `row_terms` of population_focei.rs.
use Rattle.std.specs.Prelude.{ℕ, Float, Result, Ok, Err}
use Rattle.std.specs.Float.Ieee.{le}
use Rattle.float64.specs.Arithmetic.{word}
use Rattle.float64.specs.Float64.{nonfinite}
use Rattle.float64.specs.Pick.{pick}
use Rattle.float64.specs.Answer.{Answer, given, refused}
use Rattle.likelihood.specs.Terms.{residual, variance, scaled_by_eta, z_squared, nll_term, score_term, information_term}
use Rattle.likelihood.specs.declared.population_focei.Observation.{Observation}
use Rattle.likelihood.specs.declared.population_focei.RowTerms.{RowTerms}
use Rattle.likelihood.specs.declared.population_focei.RowError.{RowError}
use Rattle.likelihood.specs.declared.population_focei.RowError.TheVariants.{InvalidVariance, Overflow}

-- document 01's number of each of the source's two errors
abbrev pub number : RowError → ℕ
number InvalidVariance = 11
number Overflow = 12

-- what each case of the code's answer says
unfoldable pub answer : Result RowTerms RowError → Answer RowTerms
answer (Ok t) = given t
answer (Err e) = refused (number e)

-- the terms of a row of variance R
unfoldable pub terms_at : Float → Observation → Float → Float → RowTerms
terms_at R observation prediction f_eta =
    let e = residual observation.value prediction in
    let z2 = z_squared R e in
    let scaled = scaled_by_eta R observation.proportional prediction f_eta in
    record {
      nll = nll_term R z2;
      score = score_term R e z2 f_eta scaled;
      information = information_term R f_eta f_eta scaled scaled;
    }

-- document 01's check 12
unfoldable pub finite_terms : RowTerms → Answer RowTerms
finite_terms t =
    pick (nonfinite t.nll) (refused 12)
    (pick (nonfinite t.score) (refused 12)
    (pick (nonfinite t.information) (refused 12)
    (given t)))

-- document 01's check 11, and then 12
unfoldable pub row_terms : Observation → Float → Float → Float → Answer RowTerms
row_terms observation prediction f_eta additive =
    let R = variance additive observation.proportional prediction in
    pick (nonfinite R) (refused 11)
    (pick (le R (word 0)) (refused 11)
    (pick (nonfinite f_eta) (refused 11)
    (finite_terms (terms_at R observation prediction f_eta))))
