-- `check_subject` meets its contract: all observations from the first on.
use Rattle.curlewstand_subject_reply.proofs.Paths.{all_from}
use Rattle.curlewstand_subject_reply.proofs.check_subject.Goals as goal

pub returns : goal.returns
returns c = all_from c.args.setup c.args.counts.now c.args.observations.now c.args.first c.check_observations.ensures
