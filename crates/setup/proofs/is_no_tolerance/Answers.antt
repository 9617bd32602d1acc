-- `is_no_tolerance` meets its contract: each exit by its law. Assumes nothing.
use Rattle.setup.proofs.Paths.{infinite_tolerance, finite_tolerance}
use Rattle.setup.proofs.is_no_tolerance.Goals as goal

pub returns-then-is_nonfinite : goal.returns-then-is_nonfinite
returns-then-is_nonfinite c = infinite_tolerance _ c.is_nonfinite.ensures c.if-is_nonfinite.true

pub returns : goal.returns
returns c = finite_tolerance _ c.is_nonfinite.ensures c.if-is_nonfinite.false
