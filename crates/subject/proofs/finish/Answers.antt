-- `finish` meets its contract: each exit by its law. Assumes nothing.
use Rattle.std.proofs.Common.{◌∙◌}
use Rattle.subject.proofs.Paths.{passed_on, sum_overflows, sums_stand, ends_refused}
use Rattle.subject.proofs.finish.Goals as goal

pub returns-in_err-sums : goal.returns-in_err-sums
returns-in_err-sums c = passed_on _ c.from_residual.ensures.1 ∙ ends_refused c.in_err-sums.was

pub returns-then-has_nonfinite_sum : goal.returns-then-has_nonfinite_sum
returns-then-has_nonfinite_sum c = sum_overflows c.in_ok-sums.was c.has_nonfinite_sum.ensures c.if-has_nonfinite_sum.true

pub returns : goal.returns
returns c = sums_stand c.in_ok-sums.was c.has_nonfinite_sum.ensures c.if-has_nonfinite_sum.false
