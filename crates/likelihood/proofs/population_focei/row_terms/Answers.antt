-- `likelihood::population_focei::row_terms` meets its contract: by its tests, in the definition's order. Assumes nothing.
use Rattle.std.proofs.Common.{arith}
use Rattle.likelihood.specs.RowTerms.{answer, terms_at, finite_terms, row_terms}
use Rattle.likelihood.proofs.Variance.{refuses}
use Rattle.likelihood.proofs.population_focei.row_terms.Goals as goal

-- ---- question 11
pub returns-then-is_no_variance : goal.returns-then-is_no_variance
unfolding answer row_terms
returns-then-is_no_variance c = grind (arith, refuses)

-- ---- question 12
pub returns-then-is_nonfinite-2 : goal.returns-then-is_nonfinite-2
unfolding answer terms_at finite_terms row_terms
returns-then-is_nonfinite-2 c = grind (arith, refuses)

pub returns : goal.returns
unfolding answer terms_at finite_terms row_terms
returns c = grind (arith, refuses)
