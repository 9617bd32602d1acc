-- `curlewstand_evaluate` meets its contract: what its three calls answered, put together.
use Rattle.test_exports.proofs.Whole.{as_defined}
use Rattle.test_exports.proofs.evaluations.curlewstand_evaluate.Goals as goal

pub returns : goal.returns
returns c =
    let a = c.args in
    as_defined a.observations.now a.question a.reply.now a.work.now a.out.now _ _ _ _ _ c.beginning-start.ensures c.add_observations-evaluation.ensures c.told.ensures
