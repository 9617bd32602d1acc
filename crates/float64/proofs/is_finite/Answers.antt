-- `float64::is_finite` meets its contract. Assumes nothing.
use lib.Ieee.{nan_bits, neg, of_bits}
use Rattle.float64.proofs.Laws.{finite_below, finite_not}
use Rattle.float64.proofs.is_finite.Goals as goal

pub float_from_bits-infinity : goal.float_from_bits-infinity
unfolding nan_bits
float_from_bits-infinity c = tt

pub returns-then-x-infinity : goal.returns-then-x-infinity
unfolding neg of_bits
returns-then-x-infinity c = finite_below _ c.if-x-infinity.true

pub returns : goal.returns
unfolding of_bits
returns c = finite_not _ c.if-x-infinity.false
