-- `checks` meets its contract: each exit by its law. Assumes nothing.
use Rattle.std.proofs.Common.{sym, ◌∙◌, arith}
use Rattle.subject.proofs.Paths.{passed_on}
use Rattle.setup.proofs.Bounds.{low_counts}
use Rattle.setup.proofs.Paths.{outside, counted}
use Rattle.setup.proofs.checks.checks.Goals as goal

pub returns-in_err-counted : goal.returns-in_err-counted
returns-in_err-counted c =
    passed_on _ c.from_residual.ensures.1 ∙ outside _ _ _ _ c.count_observations.ensures (sym c.ok_or.ensures.value ∙ c.in_err-counted.was)

pub counted_checks-requires : goal.counted_checks-requires
counted_checks-requires c = low_counts _ c.count_observations.ensures (grind arith)

pub returns : goal.returns
returns c = counted _ _ _ _ c.count_observations.ensures (grind arith) c.counted_checks.ensures
