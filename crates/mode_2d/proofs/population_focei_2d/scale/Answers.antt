-- `population_focei_2d::scale` meets its contract: the exponent's field is that of a finite float. Assumes nothing.
use Rattle.std.proofs.Common.{arith}
use Rattle.float64.proofs.Laws.{under_nan}
use Rattle.mode_2d.specs.Rules.{scale}
use Rattle.mode_2d.proofs.population_focei_2d.scale.Goals as goal

pub float_from_bits-result : goal.float_from_bits-result
float_from_bits-result c = under_nan _ (omega arith)

pub returns : goal.returns
unfolding scale
returns c = rw c.saturating_sub.ensures
