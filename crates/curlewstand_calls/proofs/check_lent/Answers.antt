-- `check_lent` meets its contract: all observations from the first on.
use Rattle.curlewstand_calls.proofs.Paths.{all_checked_lem}
use Rattle.curlewstand_calls.proofs.check_lent.Goals as goal

pub returns : goal.returns
returns c = all_checked_lem c.args.setup c.args.counts.now c.args.observations.now c.first_check-first.ensures c.check_observations.ensures
