-- `put_lent` meets its contract: in one run, or in two. Assumes nothing.
use Rattle.cache.proofs.KeepingPaths.{in_one_run, in_two_runs}
use Rattle.cache.proofs.keeping.put_lent.Goals as goal

pub returns-then-values-left : goal.returns-then-values-left
returns-then-values-left c = in_one_run _ _ _ _ _ _ c.requires.0 c.if-values-left.true c.copy_run.ensures

pub returns : goal.returns
returns c = in_two_runs _ _ _ _ _ _ c.requires.0 c.requires.1 c.if-values-left.false c.copy_run-2.ensures c.copy_run-3.ensures
