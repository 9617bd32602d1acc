-- `curlewstand_failure` meets its contract: what its parts answered, put together.
use Rattle.host_calls.proofs.Whole.{failure_over}
use Rattle.curlewstand_calls.proofs.curlewstand_failure.Goals as goal

pub returns : goal.returns
returns c =
    let a = c.args in
    rw (c.keep_tally.ensures, ← c.tally_now-before.ensures.0)
    (failure_over _ a.counts.now a.observations.now c.tally_now-before.result a.state.now a.answer.now a.cache.now a.work.now a.warm.now a.results.now
    c.check_lent-check.ensures c.fail-failed.ensures)
