-- `fitted_at` meets its contract. Assumes nothing.
use Rattle.std.proofs.Common.{arith}
use Rattle.work.specs.Work.{fitted_at}
use Rattle.work.proofs.results.fitted_at.Goals as goal

pub returns : goal.returns
unfolding fitted_at
returns c = omega arith
