-- `is_no_deviation` meets its contract: each exit by its law. Assumes nothing.
use Rattle.std.proofs.Common.{T, sym, subst}
use lib.Ieee.{of_bits}
use Rattle.subject.proofs.Deviation.{not_below, below}
use Rattle.subject.proofs.checks.is_no_deviation.Goals as goal

-- a parameter fits
pub returns-then-deviation : goal.returns-then-deviation
unfolding of_bits
returns-then-deviation c = not_below _ (subst T (sym c.well_formed.0.1) tt) c.if-deviation.true

pub returns : goal.returns
unfolding of_bits
returns c = below _ c.if-deviation.false
