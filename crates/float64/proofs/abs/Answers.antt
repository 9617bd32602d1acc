-- `float64::abs` meets its contract. Assumes nothing.
use Rattle.std.proofs.Common.{sym, subst}
use lib.Dec.{T}
use lib.Ieee.{of_bits}
use Rattle.float64.proofs.Laws.{abs_below, abs_zero, abs_rest}
use Rattle.float64.proofs.abs.Goals as goal

pub returns-then-x : goal.returns-then-x
unfolding of_bits
returns-then-x c = abs_below _ c.if-x.true

-- a parameter fits
pub returns-then-x-2 : goal.returns-then-x-2
unfolding of_bits
returns-then-x-2 c = abs_zero _ (subst T (sym c.well_formed.0.1) tt) c.if-x-2.true

pub returns : goal.returns
unfolding of_bits
returns c = abs_rest _ c.if-x.false c.if-x-2.false
