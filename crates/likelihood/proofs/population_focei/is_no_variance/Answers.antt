-- `likelihood::population_focei::is_no_variance` meets its contract: each exit by its law. Assumes nothing.
use lib.Ieee.{of_bits}
use Rattle.float64.proofs.Order.{of_true}
use Rattle.likelihood.proofs.Variance.{above, not_above_lem}
use Rattle.likelihood.proofs.population_focei.is_no_variance.Goals as goal

-- a parameter fits
pub returns-then-variance : goal.returns-then-variance
unfolding of_bits
returns-then-variance c = above _ (of_true _ c.well_formed.0.1) c.if-variance.true

pub returns-else-variance : goal.returns-else-variance
unfolding of_bits
returns-else-variance c = not_above_lem _ c.if-variance.false
